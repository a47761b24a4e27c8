-- The functions of a unit as they are found, as the private functions see them.
use Rattle.std.specs.Prelude.{◌≡◌, ℕ, ◌<◌, ◌||◌, Bool, false, List, [], ◌∷◌, ◌++◌, map, length, slice_index_or, Option, Some, None, Result, Ok, if◌then◌else◌}
use Rattle.std.specs.List.{All, AllByRecursion}
use Rattle.addr2line_lines.specs.Common.{Error, Range, ◌>>=◌, fold_of, EntryUnit, Item, items_of, ranges_at, Sections, UnitRecord}
use Rattle.gimli_read.specs.declared.value.UnitOffset.{UnitOffset}
use Rattle.gimli.specs.EntryCursor.{EntryCursor, next_item_at}
use Rattle.addr2line_lines.specs.declared.function.RangeAttributes.{RangeAttributes}
use Rattle.addr2line_lines.specs.declared.functions.FunctionLists.{FunctionLists}
use Rattle.addr2line_lines.specs.declared.functions.LazyDetail.TheVariants.{Unread}
use Rattle.addr2line_lines.specs.declared.functions.LazyFunction.{LazyFunction}
use Rattle.addr2line_lines.specs.declared.segments.FunctionAddress.{FunctionAddress}
use Rattle.addr2line_lines.specs.Functions.{FunctionRange, entries_of, has_function, is_subprogram}
use Rattle.addr2line_lines.specs.RangeAttributes.{all_ranges, attribute_ranges, range_attributes_of}

-- where the entries of functions begin, and the ranges by the places of functions
pub record FoundFunctions : Type 0 where
  pub offsets : List UnitOffset
  pub addresses : List FunctionAddress

-- before the first
abbrev pub none_found : FoundFunctions
none_found = record { offsets = []; addresses = [] }

-- a range of the function of a place
abbrev pub function_address : ℕ → Range → FunctionAddress
function_address function range = record { range = range; function = function }

-- the ranges of a range list after others
abbrev pub with_range_list : Sections → UnitRecord → ℕ → ℕ → List FunctionAddress
    → Result (List FunctionAddress) Error
with_range_list d u offset function addresses = all_ranges (ranges_at d u offset) >>= λ ranges.
    Ok (addresses ++ map (function_address function) ranges)

-- the ranges of range attributes after others
abbrev pub with_ranges : Sections → UnitRecord → RangeAttributes → ℕ → List FunctionAddress
    → Result (List FunctionAddress) Error
with_ranges d u attributes function addresses = attribute_ranges d u attributes >>= λ ranges.
    Ok (addresses ++ map (function_address function) ranges)

-- one more function, if it has a range
abbrev pub found_more : FoundFunctions → ℕ → List Range → FoundFunctions
found_more found offset [] = found
found_more found offset (r ∷ ranges) = record {
  offsets = found.offsets ++ record { 0 = offset } ∷ [];
  addresses = found.addresses ++ map (function_address (length found.offsets)) (r ∷ ranges);
}

-- the function of an entry that begins at an offset, if its attributes give a range
abbrev pub with_attributes : Sections → UnitRecord → RangeAttributes → ℕ → FoundFunctions
    → Result FoundFunctions Error
with_attributes d u attributes offset found = attribute_ranges d u attributes >>= λ ranges.
    Ok (found_more found offset ranges)

-- those of one more item, if it is a function's entry
abbrev pub with_found : Sections → UnitRecord → FoundFunctions → Item
    → Result FoundFunctions Error
with_found d u found x = elim x.entry [
  | None ↦ Ok found
  | Some e ↦ if is_subprogram e.abbreviation
      then (range_attributes_of d u e.attributes >>= λ r.
      with_attributes d u r x.offset found)
      else Ok found
]

-- those of the next item, and where it ends
abbrev pub next_found_at : Sections → UnitRecord → EntryUnit → EntryCursor → FoundFunctions
    → Result (FoundFunctions × EntryCursor) Error
next_found_at d u unit cursor found = next_item_at unit cursor >>= λ x. elim x.0 [
  | None ↦ Ok (found, x.1)
  | Some item ↦ with_found d u found item >>= λ more. Ok (more, x.1)
]

-- whether the item that was read is the entry of a function that has a range before any fault
abbrev pub item_has_function : Sections → UnitRecord → Result (Option Item × EntryCursor) Error
    → Bool
item_has_function d u (Ok (Some x, cursor)) = has_function d u x
item_has_function d u _ = false

-- whether memory is taken for the next item
abbrev pub item_takes_memory : Bool → Sections → UnitRecord → EntryUnit → EntryCursor → Bool
item_takes_memory shares d u unit cursor =
    shares || item_has_function d u (next_item_at unit cursor)

-- what is found in a unit
abbrev pub found_in : Sections → UnitRecord → Result FoundFunctions Error
found_in d u = fold_of (with_found d u) none_found (items_of u) >>= λ more. Ok more.0

-- where the entries of functions begin
abbrev pub function_offsets : List LazyFunction → List UnitOffset
function_offsets functions = map (λ (f : LazyFunction). f.dw_die_offset) functions

-- what was found
abbrev pub as_functions : FunctionLists → FoundFunctions
as_functions f =
    record { offsets = function_offsets f.functions.items; addresses = f.addresses.items }

-- the detail of a function isn't read
abbrev pub IsUnread : LazyFunction → Type 0
IsUnread f = f.detail ≡ Unread

-- the detail of no function that was found is read
abbrev pub AreFoundUnread : FunctionLists → Type 0
AreFoundUnread f = AllByRecursion IsUnread f.functions.items

-- a range, by where the entry of its function begins
abbrev pub function_range_of : List UnitOffset → FunctionAddress → FunctionRange
function_range_of offsets a =
    record { offset = (slice_index_or offsets a.function (record { 0 = 0 })).0; range = a.range }

-- a place is that of a function
abbrev pub IsPlaceIn : List UnitOffset → FunctionAddress → Type 0
IsPlaceIn offsets a = a.function < length offsets

-- functions in the order of their entries, each with a range, and ranges by their places
pub record AreFunctions (offsets : List UnitOffset) (addresses : List FunctionAddress)
    : Type 0 where
  pub places : All (IsPlaceIn offsets) addresses
  pub rising : (i j : ℕ) (d : UnitOffset) → i < j → j < length offsets
      → (slice_index_or offsets i d).0 < (slice_index_or offsets j d).0
  pub listed : map (λ (o : UnitOffset). o.0) offsets
      ≡ entries_of (map (function_range_of offsets) addresses)
