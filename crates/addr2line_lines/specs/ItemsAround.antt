-- The items around an item: those whose subtree has it (DWARF 5, section 2.3). The nearest inlined
-- one around an inlined entry is the inlined call in which that call was made (section 3.3.8).
-- Own: items of a unit are told apart by their offsets.
use Rattle.std.specs.Prelude.{ℕ, ◌≡◌, ◌==◌, Bool, false, List, [], ◌∷◌, ◌++◌, count_by, filter_map, find, Option, None, Some, option_map, Result, Ok, IsOk, if◌then◌else◌}
use Rattle.std.specs.List.{All, list_any}
use Rattle.addr2line_lines.specs.Common.{Error, Abbrev, ◌>>=◌, Item, subtree_of, UnitRecord}
use Rattle.addr2line_lines.specs.Details.{Detail, detail_at, placed_items, whole_entry_at}
use Rattle.addr2line_lines.specs.InlinedEntries.{is_inlined}
use Rattle.addr2line_lines.specs.References.{Scope}

-- the items inside the entry that begins at an offset of its unit, up to its end or the first fault
abbrev pub items_inside_at : UnitRecord → ℕ → Result (List Item) Error
items_inside_at u offset = whole_entry_at u offset >>= λ x. Ok x.inside.items

-- whether items have one at an offset
abbrev pub have_item : ℕ → List Item → Bool
have_item offset items = list_any (λ (x : Item). x.offset == offset) items

-- the items whose subtree has the one at an offset, from the inside out
abbrev pub items_around : ℕ → List Item → List Item
items_around offset [] = []
items_around offset (x ∷ following) =
    let subtree = subtree_of {Z = Unit {0}} x (record { items = following; end = Ok tt }) in
    if have_item offset subtree.items
    then items_around offset following ++ x ∷ []
    else items_around offset following

-- whether an item is an inlined entry
abbrev pub is_inlined_item : Item → Bool
is_inlined_item x = elim x.entry [ None ↦ false | Some e ↦ is_inlined e.abbreviation ]

-- how many inlined entries are around the item at an offset
abbrev pub inlined_depth : ℕ → List Item → ℕ
inlined_depth offset items = count_by is_inlined_item (items_around offset items)

-- where the nearest of them begins, if there is one
abbrev pub nearest_inlined : ℕ → List Item → Option ℕ
nearest_inlined offset items =
    option_map (λ (x : Item). x.offset) (find is_inlined_item (items_around offset items))

-- the abbreviations of the entries among items
abbrev pub abbreviations_of : List Item → List Abbrev
abbreviations_of items = filter_map (λ (x : Item). option_map (λ e. e.abbreviation) x.entry) items

-- the entries that are open around an item inside an entry are those whose subtree has it
abbrev pub OpenAreAround : Type 0
OpenAreAround =
    (u : UnitRecord) (offset : ℕ) (items : List Item) → items_inside_at u offset ≡ Ok items
    → All (λ x. x.around ≡ abbreviations_of (items_around x.item.offset items))
    (placed_items [] items)

-- the depth of a range is the number of inlined entries around the entry that it is of
abbrev pub DepthsAreNumbers : Type 0
DepthsAreNumbers =
    (scope : Scope) (u : UnitRecord) (offset : ℕ) (items : List Item) (detail : Detail)
    → items_inside_at u offset ≡ Ok items → detail_at scope u offset ≡ Ok detail
    → All (λ x. x.depth ≡ inlined_depth x.entry.offset items) detail.inlined

-- where the details of a function are read so are the items inside its entry
abbrev pub InsideIsRead : Type 0
InsideIsRead =
    (scope : Scope) (u : UnitRecord) (offset : ℕ) (detail : Detail)
    → detail_at scope u offset ≡ Ok detail → IsOk (items_inside_at u offset)

-- open entries, depths of inlined ranges, and the items of a function
pub record ItemsAroundLaws : Type 0 where
  pub around : OpenAreAround
  pub depths : DepthsAreNumbers
  pub inside : InsideIsRead
