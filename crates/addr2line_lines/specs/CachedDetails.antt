-- The details of functions as they are cached, as the private functions see them.
-- Own: three lists, of names, of inlined entries and of ranges; those of each function stand one
-- after another, its ranges by depth, then by begin, then by end, then by place of the entry.
-- Own: beside them the names of entries that are referred to, or their faults, as they were found.
use Rattle.std.specs.Prelude.{◌≡◌, ℕ, ◌+◌, ◌-◌, ◌<◌, ◌≤◌, List, [], drop, length, map, slice_index_or, take, Option, Some, None, option_map}
use Rattle.std.specs.List.{All}
use Rattle.std.specs.List.Sorted.{IsNonDecreasingBy}
use Rattle.addr2line_lines.specs.Common.{Error, OutOfMemory, Section, UnitRecord}
use Rattle.addr2line_lines.specs.declared.details.Details.{Details}
use Rattle.addr2line_lines.specs.declared.details.FunctionDetail.{FunctionDetail}
use Rattle.addr2line_lines.specs.declared.picks.InlinedFunctionAddress.{InlinedFunctionAddress}
use Rattle.addr2line_lines.specs.CachedNames.{AreNamesMore, KnownNames, no_names}
use Rattle.addr2line_lines.specs.Details.{Detail}
use Rattle.addr2line_lines.specs.FoundInlined.{FoundInlined, IsFoundMore, none_inlined, range_among, as_lists}
use Rattle.addr2line_lines.specs.Grown.{IsGrown}
use Rattle.addr2line_lines.specs.InOrder.{in_order}
use Rattle.addr2line_lines.specs.InlinedChain.{inlined_chain}
use Rattle.addr2line_lines.specs.InlinedEntries.{InlinedEntry}
use Rattle.addr2line_lines.specs.InlinedOrder.{inlined_sooner, inlined_place}
use Rattle.addr2line_lines.specs.References.{Scope, in_scope}

-- the names of functions, the inlined entries with their ranges, and the names of entries that are
-- referred to, or their faults
pub record CachedDetails : Type 0 where
  pub names : List (Option Section)
  pub found : FoundInlined
  pub known : KnownNames

-- nothing is cached yet of a unit whose references lead where a scope says
abbrev pub no_details : Scope → UnitRecord → CachedDetails
no_details scope u =
    record { names = []; found = none_inlined; known = no_names (Some (in_scope scope u)) }

-- what is cached
abbrev pub as_details : {R : Type 0} → (R → Section) → Details R → CachedDetails
as_details see d = record {
  names = map (option_map see) d.names.items;
  found = as_lists d.inlined;
  known = d.known;
}

-- the ranges of a place, in the order of their entries
abbrev pub listed_ranges : FunctionDetail → List InlinedFunctionAddress
listed_ranges p = drop p.ranges_begin p.listed.value.elements

-- the elements from a place up to another
abbrev pub between : {X : Type 0} → ℕ → ℕ → List X → List X
between begin end xs = take (end - begin) (drop begin xs)

-- the details of a place
abbrev pub detail_of : CachedDetails → FunctionDetail → Detail
detail_of d p = record {
  name = slice_index_or d.names p.name None;
  inlined = map (range_among d.found.entries) (listed_ranges p);
}

-- the inlined entries of the details of a place at an address, from the outside in
abbrev pub cached_chain : CachedDetails → FunctionDetail → ℕ → List InlinedEntry
cached_chain d p probe = inlined_chain probe (detail_of d p).inlined

-- what was cached before stays, with more at its end
pub record AreDetailsMore (cached more : CachedDetails) : Type 0 where
  pub names : IsGrown cached.names more.names
  pub found : IsFoundMore cached.found more.found
  pub known : AreNamesMore cached.known more.known

-- a range is of an inlined entry from a place up to another
abbrev pub IsOfEntryBetween : ℕ → ℕ → InlinedFunctionAddress → Type 0
IsOfEntryBetween begin end a = (begin ≤ a.function) × (a.function < end)

-- a place of details that are cached: its ranges are in order, and of its entries alone
pub record IsDetailPlace (d : CachedDetails) (p : FunctionDetail) : Type 0 where
  pub name : p.name < length d.names
  pub inlined_begin : p.inlined_begin ≤ p.inlined_end
  pub inlined_end : p.inlined_end ≤ length d.found.entries
  pub ranges_begin : p.ranges_begin ≤ p.ranges_end
  pub ranges_end : p.ranges_end ≤ length d.found.ranges
  pub places : All (IsOfEntryBetween p.inlined_begin p.inlined_end) (listed_ranges p)
  pub rising : IsNonDecreasingBy inlined_place (listed_ranges p)
  pub ordered : between p.ranges_begin p.ranges_end d.found.ranges
      ≡ in_order inlined_sooner (listed_ranges p)

-- a place is the one after what is cached: the next name, and what follows in the other lists, up
-- to the end of the lists with it
pub record IsNextPlace (cached more : CachedDetails) (p : FunctionDetail) : Type 0 where
  pub name : p.name ≡ length cached.names
  pub names : length more.names ≡ length cached.names + 1
  pub inlined_begin : p.inlined_begin ≡ length cached.found.entries
  pub inlined_end : p.inlined_end ≡ length more.found.entries
  pub ranges_begin : p.ranges_begin ≡ length cached.found.ranges
  pub ranges_end : p.ranges_end ≡ length more.found.ranges

-- after a refusal the functions' names, the inlined entries and their ranges are as before; after
-- OutOfMemory also what is known of entries that are referred to
pub record IsRefusedThen (cached more : CachedDetails) (error : Error) : Type 0 where
  pub names : more.names ≡ cached.names
  pub found : more.found ≡ cached.found
  pub memory : error ≡ OutOfMemory → more.known ≡ cached.known
