-- Where memory may be taken for the details of a function: `stored_detail_at` is what is stored on
-- the way to them, and only its memory counts; with it `detail_at` is `detail_at_cost`.
-- Own: the first range of an inlined entry is stored once it can be read, an entry with children
-- while it is open, and the details once all are read.
use Rattle.std.specs.Prelude.{ℕ, ◌&&◌, Bool, false, true, List, [], Some, None}
use Rattle.addr2line_lines.specs.Common.{Costed, free, takes_memory_after, Run, Item, UnitRecord}
use Rattle.gimli_read.specs.Costed.{◌>>=◌, by_stored}
use Rattle.addr2line_lines.specs.CostedSteps.{fold_at_cost, map_at_cost, stored_if, then_room_if}
use Rattle.addr2line_lines.specs.Details.{Detail, PlacedItem, detail_at, is_in_function, placed_items, whole_entry_at, with_inlined}
use Rattle.addr2line_lines.specs.InlinedEntries.{InlinedRange, inlined_attributes_of, is_inlined}
use Rattle.addr2line_lines.specs.Names.{name_of}
use Rattle.addr2line_lines.specs.RangeAttributes.{gives_a_range}
use Rattle.addr2line_lines.specs.References.{Scope}

-- whether an item opens entries inside it
abbrev pub opens_entries : Item → Bool
opens_entries x = elim x.entry [ None ↦ false | Some e ↦ e.abbreviation.has_children ]

-- whether an item is an inlined entry in no nested subprogram, and has a range before any fault
abbrev pub has_inlined : Scope → UnitRecord → PlacedItem → Bool
has_inlined scope u x = elim x.item.entry [
  | None ↦ false
  | Some e ↦ (is_inlined e.abbreviation && is_in_function x)
      && takes_memory_after (inlined_attributes_of scope u e.attributes)
      (λ a. gives_a_range scope.file.sections u a.ranges)
]

-- the inlined ranges after one more item, with the memory for it
abbrev pub with_inlined_at_cost : Scope → UnitRecord → List InlinedRange → PlacedItem
    → Costed (List InlinedRange)
with_inlined_at_cost scope u found x = then_room_if (opens_entries x.item)
    (stored_if (has_inlined scope u x) (with_inlined scope u found x))

-- those of the items inside a function, with the memory for them
abbrev pub inlined_in_at_cost : Scope → UnitRecord → Run Item (Unit {0})
    → Costed (List InlinedRange)
inlined_in_at_cost scope u inside = map_at_cost (λ found. found.0)
    (fold_at_cost (with_inlined_at_cost scope u) [] (placed_items [] inside.items) inside.end)

-- what is stored of the function whose entry begins at an offset of its unit: what stands inside
-- it, and its details
unfoldable pub stored_detail_at : Scope → UnitRecord → ℕ → Costed Detail
stored_detail_at scope u offset = do
  function ← free (whole_entry_at u offset)
  name ← free (name_of scope u function.entry.attributes)
  map_at_cost (λ inlined. record { name = name; inlined = inlined })
      (then_room_if true (inlined_in_at_cost scope u function.inside))

-- the details, with the memory for them
abbrev pub detail_at_cost : Scope → UnitRecord → ℕ → Costed Detail
detail_at_cost scope u offset =
    by_stored (stored_detail_at scope u offset) (detail_at scope u offset)
