-- The functions of a unit (DWARF 5, section 3.3).
-- Own: all subprogram entries, at any depth, whose range attributes give a range; the entries are
-- read to the unit's end, and the first fault is that of all functions.
use Rattle.std.specs.Prelude.{ℕ, ◌==◌, ◌&&◌, Bool, false, List, [], ◌∷◌, ◌++◌, map, Option, Some, None, Result, Ok, if◌then◌else◌}
use Rattle.std.specs.Option.{option_map}
use Rattle.addr2line_lines.specs.Common.{Error, Range, Abbrev, Costed, takes_memory_after, ◌>>=◌, fold_of, Entry, Item, items_of, Sections, UnitRecord}
use Rattle.gimli_read.specs.declared.constants.TheConstants.DwTag.{DW_TAG_subprogram}
use Rattle.addr2line_lines.specs.CostedSteps.{fold_at_cost, map_at_cost, on_parts, stored_if}
use Rattle.addr2line_lines.specs.RangeAttributes.{attribute_ranges, gives_a_range, range_attributes_of}
use Rattle.addr2line_lines.specs.Shortest.{shortest}

-- a range of a function, and where its entry begins, in bytes from the start of the unit's length
pub record FunctionRange : Type 0 where
  pub offset : ℕ
  pub range : Range

-- the first address
abbrev pub function_begin : FunctionRange → ℕ
function_begin f = f.range.begin

-- the address after the last one
abbrev pub function_end : FunctionRange → ℕ
function_end f = f.range.end

-- where the entry begins
abbrev pub function_offset : FunctionRange → ℕ
function_offset f = f.offset

-- whether an entry is a function's
abbrev pub is_subprogram : Abbrev → Bool
is_subprogram a = a.tag.0 == DW_TAG_subprogram.0

-- the ranges of an entry
abbrev pub entry_ranges : Sections → UnitRecord → Entry → Result (List Range) Error
entry_ranges d u e = range_attributes_of d u e.attributes >>= λ r. attribute_ranges d u r

-- those of one more item, if it is a function's entry
abbrev pub with_function : Sections → UnitRecord → List FunctionRange → Item
    → Result (List FunctionRange) Error
with_function d u found x = elim x.entry [
  | None ↦ Ok found
  | Some e ↦ if is_subprogram e.abbreviation
      then (entry_ranges d u e >>= λ ranges.
      Ok (found ++ map (λ r. record { offset = x.offset; range = r }) ranges))
      else Ok found
]

-- the ranges of the functions of a unit, in the order of their entries, or the first fault
abbrev pub functions_of : Sections → UnitRecord → Result (List FunctionRange) Error
functions_of d u = fold_of (with_function d u) [] (items_of u) >>= λ found. Ok found.0

-- where an entry begins, before others, unless it is the first of them
abbrev pub once_before : ℕ → List ℕ → List ℕ
once_before offset [] = offset ∷ []
once_before offset (next ∷ offsets) =
    if offset == next then next ∷ offsets else offset ∷ next ∷ offsets

-- where the entries of ranges begin, each once; the ranges of an entry stand side by side
abbrev pub entries_of : List FunctionRange → List ℕ
entries_of [] = []
entries_of (f ∷ ranges) = once_before f.offset (entries_of ranges)

-- whether an item is the entry of a function that has a range before any fault
abbrev pub has_function : Sections → UnitRecord → Item → Bool
has_function d u x = elim x.entry [
  | None ↦ false
  | Some e ↦ is_subprogram e.abbreviation
      && takes_memory_after (range_attributes_of d u e.attributes) (gives_a_range d u)
]

-- the functions of one more item, with the memory for one that has a range before any fault
abbrev pub function_at_cost : Sections → UnitRecord → List FunctionRange → Item
    → Costed (List FunctionRange)
function_at_cost d u found x = stored_if (has_function d u x) (with_function d u found x)

-- those of a unit; where a reader's parts share its bytes, memory is taken for each value too
abbrev pub functions_at_cost : Sections → UnitRecord → Costed (List FunctionRange)
functions_at_cost d u = on_parts (map_at_cost (λ found. found.0)
    (fold_at_cost (function_at_cost d u) [] (items_of u).items (items_of u).end))

-- whether memory is taken for the functions of a unit
abbrev pub functions_take_memory : Bool → Sections → UnitRecord → Bool
functions_take_memory shares d u = (functions_at_cost d u).takes_memory shares

-- the function with the shortest range that holds the probe, by where its entry begins
abbrev pub function_offset_at : ℕ → List FunctionRange → Option ℕ
function_offset_at probe functions =
    option_map function_offset
    (shortest function_begin function_end function_offset probe functions)
