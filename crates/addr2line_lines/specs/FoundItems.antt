-- What is found item by item inside a function, as the private functions see it.
use Rattle.std.specs.Prelude.{ℕ, List, Some, None, Ok, Err, count_by, if◌then◌else◌, pos}
use Rattle.addr2line_lines.specs.Common.{UnexpectedEof, Abbrev, Costed, free, Section, EntryUnit, attributes_at, Entry, Item, items_inside, UnitRecord}
use Rattle.gimli_read.specs.Costed.{◌>>=◌}
use Rattle.gimli.specs.EntryCursor.{EntryCursor, items_left, next_item_at}
use Rattle.addr2line_lines.specs.declared.inlined_lists.InlinedLists.{InlinedLists}
use Rattle.addr2line_lines.specs.declared.nesting.Kind.{Kind}
use Rattle.addr2line_lines.specs.CostedSteps.{fold_at_cost, map_at_cost, stored_if, then_room_if}
use Rattle.addr2line_lines.specs.InlinedEntries.{inlined_attributes_of}
use Rattle.addr2line_lines.specs.RangeAttributes.{gives_a_range}
use Rattle.addr2line_lines.specs.References.{Scope}
use Rattle.addr2line_lines.specs.OpenEntries.{kind_of, closed_once, is_inlined_kind, is_listed, opened}
use Rattle.addr2line_lines.specs.FoundInlined.{FoundInlined, as_lists, with_inlined_found}

-- what was found, and the kinds of the open entries
pub record FoundAround : Type 0 where
  pub found : FoundInlined
  pub around : List Kind

-- the same, of the lists and the kinds
abbrev pub as_around : {R : Type 0} → InlinedLists R → List Kind → FoundAround
as_around lists around = record { found = as_lists lists; around = around }

-- after one more entry around which others are open; its first range that can be read is stored
abbrev pub with_entry_found : Scope → UnitRecord → List Kind → ℕ → FoundInlined → Entry
    → Costed FoundInlined
with_entry_found scope u around offset found e =
    if is_listed (kind_of e.abbreviation) around
    then (free (inlined_attributes_of scope u e.attributes) >>= λ x.
    stored_if (gives_a_range scope.file.sections u x.ranges)
    (with_inlined_found scope.file.sections u offset (count_by is_inlined_kind around) found x))
    else free (Ok found)

-- the same, of an entry whose attributes follow, and what is left after these
abbrev pub entry_found_at : Scope → UnitRecord → List Kind → ℕ → Abbrev → Section → FoundInlined
    → Costed (FoundInlined × Section)
entry_found_at scope u around offset a left found =
    free (attributes_at u.header.encoding a.attributes left) >>= λ x.
    map_at_cost (λ more. (more, x.1)) (with_entry_found scope u around offset found
    (record { abbreviation = a; attributes = x.0 }))

-- after one more item; an entry with children is stored while it is open
abbrev pub with_item_found : Scope → UnitRecord → FoundAround → Item → Costed FoundAround
with_item_found scope u state x = elim x.entry [
  | None ↦ free (Ok (record { found = state.found; around = closed_once state.around }))
  | Some e ↦ map_at_cost
      (λ more. record {
        found = more;
        around =
            opened (kind_of e.abbreviation) e.abbreviation.has_children state.around;
      })
      (then_room_if e.abbreviation.has_children
      (with_entry_found scope u state.around x.offset state.found e))
]

-- after the next item, and where it ends
abbrev pub item_found_at : Scope → UnitRecord → EntryUnit → EntryCursor → FoundAround
    → Costed (FoundAround × EntryCursor)
item_found_at scope u unit cursor state = free (next_item_at unit cursor) >>= λ x. elim x.0 [
  | None ↦ free (Err UnexpectedEof)
  | Some item ↦ map_at_cost (λ more. (more, x.1)) (with_item_found scope u state item)
]

-- after the items that are left of a function
abbrev pub inside_found : Scope → UnitRecord → EntryUnit → EntryCursor → FoundAround
    → Costed FoundInlined
inside_found scope u unit cursor state =
    let items = items_left unit cursor in
    let inside = items_inside (pos 0) cursor.depth items.items items.end in
    map_at_cost (λ more. more.0.found)
    (fold_at_cost (with_item_found scope u) state inside.items inside.end)
