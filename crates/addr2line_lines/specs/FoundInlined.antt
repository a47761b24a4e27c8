-- The inlined entries of a function and their ranges as they are found, as the private functions
-- see them.
use Rattle.std.specs.Prelude.{ℕ, List, [], ◌∷◌, ◌++◌, map, length, slice_index_or, take, Option, None, option_map, Result, Ok}
use Rattle.addr2line_lines.specs.Common.{Error, Range, ◌>>=◌, Section, ranges_at, Sections, UnitRecord}
use Rattle.addr2line_lines.specs.declared.inlined_lists.InlinedLists.{InlinedLists}
use Rattle.addr2line_lines.specs.declared.function.RangeAttributes.{RangeAttributes}
use Rattle.addr2line_lines.specs.declared.picks.InlinedFunctionAddress.{InlinedFunctionAddress}
use Rattle.addr2line_lines.specs.Grown.{IsGrown}
use Rattle.addr2line_lines.specs.InlinedEntries.{InlinedAttributes, InlinedEntry, InlinedRange, inlined_entry, no_call}
use Rattle.addr2line_lines.specs.InlinedOrder.{inlined_range_of}
use Rattle.addr2line_lines.specs.RangeAttributes.{all_ranges, attribute_ranges}

-- inlined entries, and the ranges by their places
pub record FoundInlined : Type 0 where
  pub entries : List InlinedEntry
  pub ranges : List InlinedFunctionAddress

-- neither entries nor ranges
abbrev pub none_inlined : FoundInlined
none_inlined = record { entries = []; ranges = [] }

-- the first inlined entries, and the first ranges
abbrev pub first_found : ℕ → ℕ → FoundInlined → FoundInlined
first_found functions ranges found =
    record { entries = take functions found.entries; ranges = take ranges found.ranges }

-- what was found
abbrev pub as_lists : {R : Type 0} → InlinedLists R → FoundInlined
as_lists l = record { entries = l.functions.entries; ranges = l.ranges.elements }

-- a name with what was found after it
abbrev pub named_lists : {R : Type 0} → (R → Section) → InlinedLists R → Option R
    → Option Section × FoundInlined
named_lists see lists = λ name. (option_map see name, as_lists lists)

-- no inlined entry
abbrev pub no_inlined : InlinedEntry
no_inlined = record { offset = 0; name = None; call = no_call }

-- the inlined entry of a place
abbrev pub entry_among : List InlinedEntry → ℕ → InlinedEntry
entry_among entries n = slice_index_or entries n no_inlined

-- a range, by its inlined entry
abbrev pub range_among : List InlinedEntry → InlinedFunctionAddress → InlinedRange
range_among entries a = inlined_range_of (entry_among entries) a

-- a range of the inlined entry of a place
abbrev pub inlined_address : ℕ → ℕ → Range → InlinedFunctionAddress
inlined_address depth function range =
    record { depth = depth; range = range; function = function }

-- one more inlined entry, if it has a range
abbrev pub inlined_more : FoundInlined → InlinedEntry → ℕ → List Range → FoundInlined
inlined_more found entry depth [] = found
inlined_more found entry depth (r ∷ ranges) = record {
  entries = found.entries ++ entry ∷ [];
  ranges = found.ranges ++ map (inlined_address depth (length found.entries)) (r ∷ ranges);
}

-- the ranges of a range list after others
abbrev pub with_inlined_list : Sections → UnitRecord → ℕ → ℕ → ℕ → List InlinedFunctionAddress
    → Result (List InlinedFunctionAddress) Error
with_inlined_list d u offset depth function found = all_ranges (ranges_at d u offset) >>= λ ranges.
    Ok (found ++ map (inlined_address depth function) ranges)

-- the ranges of range attributes after others
abbrev pub with_inlined_ranges : Sections → UnitRecord → RangeAttributes → ℕ → ℕ
    → List InlinedFunctionAddress → Result (List InlinedFunctionAddress) Error
with_inlined_ranges d u attributes depth function found =
    attribute_ranges d u attributes >>= λ ranges.
    Ok (found ++ map (inlined_address depth function) ranges)

-- the inlined entry of attributes, if they give a range
abbrev pub with_inlined_found : Sections → UnitRecord → ℕ → ℕ → FoundInlined → InlinedAttributes
    → Result FoundInlined Error
with_inlined_found d u offset depth found x = attribute_ranges d u x.ranges >>= λ ranges.
    Ok (inlined_more found (inlined_entry offset x) depth ranges)

-- what was found before stays, with more at its end
pub record IsFoundMore (found more : FoundInlined) : Type 0 where
  pub entries : IsGrown found.entries more.entries
  pub ranges : IsGrown found.ranges more.ranges
