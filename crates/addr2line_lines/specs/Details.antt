-- The details of a function: its name, and the inlined entries inside it (DWARF 5, section 3.3.8).
-- Own: the depth of an inlined entry is how many inlined entries of the function are open where it
-- begins, also of those without a range, which aren't listed. None inside a nested subprogram is
-- listed; its entries are read all the same, and one that can't be read is a fault.
use Rattle.std.specs.Prelude.{ℕ, ◌==◌, ◌&&◌, Bool, List, [], ◌∷◌, ◌++◌, count_by, Option, Some, None, Result, Ok, Err, if◌then◌else◌}
use Rattle.addr2line_lines.specs.Common.{Error, NoEntryAtGivenOffset, Abbrev, ◌>>=◌, Run, fold_run, Section, Entry, Item, items_at, subtree_of, UnitRecord}
use Rattle.addr2line_lines.specs.Functions.{is_subprogram}
use Rattle.addr2line_lines.specs.Names.{name_of}
use Rattle.addr2line_lines.specs.RangeAttributes.{attribute_ranges}
use Rattle.addr2line_lines.specs.References.{Scope}
use Rattle.addr2line_lines.specs.InlinedEntries.{InlinedRange, is_inlined, inlined_attributes_of, inlined_ranges}

-- the details of a function
pub record Detail : Type 0 where
  pub name : Option Section
  pub inlined : List InlinedRange

-- an item inside a function, and the entries inside the function that are open where it begins, the
-- innermost first
pub record PlacedItem : Type 0 where
  pub item : Item
  pub around : List Abbrev

-- the entries that are open after an item
abbrev pub open_after : List Abbrev → Item → List Abbrev
open_after around x = elim x.entry [
  | None ↦ without_first around
  | Some e ↦ if e.abbreviation.has_children then e.abbreviation ∷ around else around
]
  where
    without_first : List Abbrev → List Abbrev
    without_first [] = []
    without_first (a ∷ rest) = rest

-- items with the entries that are open around each
abbrev pub placed_items : List Abbrev → List Item → List PlacedItem
placed_items around [] = []
placed_items around (x ∷ xs) =
    record { item = x; around = around } ∷ placed_items (open_after around x) xs

-- whether an item is in no nested subprogram
abbrev pub is_in_function : PlacedItem → Bool
is_in_function x = count_by is_subprogram x.around == 0

-- the inlined ranges after an inlined entry
abbrev pub with_inlined_entry : Scope → UnitRecord → List InlinedRange → PlacedItem → Entry
    → Result (List InlinedRange) Error
with_inlined_entry scope u found x e = do
  a ← inlined_attributes_of scope u e.attributes
  ranges ← attribute_ranges scope.file.sections u a.ranges
  Ok (found ++ inlined_ranges (count_by is_inlined x.around) x.item.offset a ranges)

-- those after one more item, if it is an inlined entry and in no nested subprogram
abbrev pub with_inlined : Scope → UnitRecord → List InlinedRange → PlacedItem
    → Result (List InlinedRange) Error
with_inlined scope u found x = elim x.item.entry [
  | None ↦ Ok found
  | Some e ↦ if is_inlined e.abbreviation && is_in_function x
      then with_inlined_entry scope u found x e
      else Ok found
]

-- the ranges of the inlined entries among the items inside a function, in their order, or the first
-- fault
abbrev pub inlined_in : Scope → UnitRecord → Run Item (Unit {0})
    → Result (List InlinedRange) Error
inlined_in scope u inside =
    fold_run (with_inlined scope u) [] (placed_items [] inside.items) inside.end
    >>= λ found. Ok found.0

-- an entry, and the items inside it
pub record WholeEntry : Type 0 where
  pub entry : Entry
  pub inside : Run Item (Unit {0})

-- the first of items that begin at an offset, whole, which a closing entry isn't
abbrev pub first_whole : {Z : Type 0} → ℕ → List Item → Result Z Error → Result WholeEntry Error
first_whole offset [] end = end >>= λ z. Err (NoEntryAtGivenOffset offset)
first_whole offset (x ∷ items) end = elim x.entry [
  | None ↦ Err (NoEntryAtGivenOffset offset)
  | Some e ↦ Ok (record {
    entry = e;
    inside = subtree_of x (record { items = items; end = end });
  })
]

-- the entry that begins at an offset of its unit, whole
abbrev pub whole_entry_at : UnitRecord → ℕ → Result WholeEntry Error
whole_entry_at u offset = first_whole offset (items_at u offset).items (items_at u offset).end

-- the details of the function whose entry begins at an offset of its unit, or the first fault
unfoldable pub detail_at : Scope → UnitRecord → ℕ → Result Detail Error
detail_at scope u offset = do
  function ← whole_entry_at u offset
  name ← name_of scope u function.entry.attributes
  inlined ← inlined_in scope u function.inside
  Ok (record { name = name; inlined = inlined })
