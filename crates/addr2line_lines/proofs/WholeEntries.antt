-- The entry at an offset of its unit and the items inside it, by places among the entries (on
-- specs/Details.antt and specs/StoredDetails.antt).
use Rattle.addr2line_lines.proofs.Common.{◌≡◌, ℕ, true, [], Option, Some, None, Result, Ok, Err, refl, ap, ◌∙◌, pos, Error, NoEntryAtGivenOffset, Costed, free, ◌>>=◌, Run, Section, entry_bytes_from, entry_unit, EntriesLeft, EntryCursor, entries_at, entries_from, items_left, next_item_at, Entry, Item, items_from, subtree_of, UnitRecord, items_end, items_fault, items_more, Detail, WholeEntry, first_whole, inlined_in_at_cost, detail_at, stored_detail_at, detail_at_cost, whole_entry_at, name_of, Scope}
use Rattle.gimli_read.specs.Costed as costed
use Rattle.addr2line_lines.specs.CostedSteps.{map_at_cost, then_room_if}

-- the entry of an item, which a closing entry isn't
abbrev pub item_entry : ℕ → Option Item → Result (Item × Entry) Error
item_entry offset None = Err (NoEntryAtGivenOffset offset)
item_entry offset (Some x) = elim x.entry [ None ↦ Err (NoEntryAtGivenOffset offset) | Some e ↦ Ok (x, e) ]

-- the entry of an item that was read at a place, whole
abbrev pub whole_read : ℕ → EntriesLeft → Result (Option Item × EntryCursor) Error → Result WholeEntry Error
whole_read offset left r = r >>= λ next. item_entry offset next.0 >>= λ x. Ok (record { entry = x.1; inside = subtree_of x.0 (items_left left.unit next.1) })

whole_left : (u : UnitRecord) (offset : ℕ) (s : Section) → let left = entries_at u.header u.abbreviations s in let items = items_left left.unit left.cursor in first_whole offset items.items items.end ≡ whole_read offset left (next_item_at left.unit left.cursor)
whole_left u offset s = by_item (next_item_at left.unit left.cursor) refl
  where
    left : EntriesLeft
    left = entries_at u.header u.abbreviations s

    first : Run Item Section → Result WholeEntry Error
    first r = first_whole offset r.items r.end

    by_entry : (x : Item) (d : EntryCursor) (o : Option Entry)
        → elim o [ None ↦ Err (NoEntryAtGivenOffset offset) | Some e ↦ Ok (record { entry = e; inside = subtree_of x (items_left left.unit d) }) ]
        ≡ (◌>>=◌ {A = Item × Entry} {B = WholeEntry} (elim o [ None ↦ Err (NoEntryAtGivenOffset offset) | Some e ↦ Ok (x, e) ]) (λ y. Ok (record { entry = y.1; inside = subtree_of y.0 (items_left left.unit d) })))
    by_entry x d None = refl
    by_entry x d (Some e) = refl

    by_item : (r : Result (Option Item × EntryCursor) Error) → next_item_at left.unit left.cursor ≡ r → first (items_left left.unit left.cursor) ≡ whole_read offset left r
    by_item (Err e) q = ap first (items_fault left.unit left.cursor e q)
    by_item (Ok (None, d)) q = ap first (items_end left.unit left.cursor d q)
    by_item (Ok (Some x, d)) q = ap first (items_more left.unit left.cursor d x q) ∙ by_entry x d x.entry

pub whole_is : (u : UnitRecord) (offset : ℕ) → whole_entry_at u offset ≡ (entries_from u (Some offset) >>= λ left. whole_read offset left (next_item_at left.unit left.cursor))
whole_is u offset = by_bytes (entry_bytes_from u.header (Some offset))
  where
    items : Result Section Error → Run Item Section
    items r = elim r [ Ok s ↦ items_from (entry_unit u.header u.abbreviations) (pos 0) s | Err e ↦ record { items = []; end = Err e } ]

    by_bytes : (r : Result Section Error) → first_whole offset (items r).items (items r).end ≡ ((r >>= λ s. Ok (entries_at u.header u.abbreviations s)) >>= λ left. whole_read offset left (next_item_at left.unit left.cursor))
    by_bytes (Ok s) = whole_left u offset s
    by_bytes (Err e) = refl

module _ (scope : Scope) (u : UnitRecord) (offset : ℕ) where
  -- the details of a function, of which the item at a place is the entry
  abbrev pub detail_of : WholeEntry → Costed Detail
  detail_of x = costed.◌>>=◌ (free (name_of scope u x.entry.attributes)) (λ name. map_at_cost (λ inlined. record { name = name; inlined = inlined }) (then_room_if true (inlined_in_at_cost scope u x.inside)))

  abbrev pub detail_read : EntriesLeft → Result (Option Item × EntryCursor) Error → Costed Detail
  detail_read left r = costed.◌>>=◌ (free r) (λ next. costed.◌>>=◌ (free (item_entry offset next.0)) (λ x. detail_of (record { entry = x.1; inside = subtree_of x.0 (items_left left.unit next.1) })))

  nested : (r : Result EntriesLeft Error) → costed.◌>>=◌ (free (r >>= λ left. whole_read offset left (next_item_at left.unit left.cursor))) detail_of ≡ costed.◌>>=◌ (free r) (λ left. detail_read left (next_item_at left.unit left.cursor))
  nested (Err e) = refl
  nested (Ok left) = by_item (next_item_at left.unit left.cursor)
    where
      by_entry : (d : EntryCursor) (r : Result (Item × Entry) Error)
          → costed.◌>>=◌ (free (r >>= λ x. Ok (record { entry = x.1; inside = subtree_of x.0 (items_left left.unit d) }))) detail_of
          ≡ costed.◌>>=◌ (free r) (λ x. detail_of (record { entry = x.1; inside = subtree_of x.0 (items_left left.unit d) }))
      by_entry d (Ok x) = refl
      by_entry d (Err e) = refl

      by_item : (r : Result (Option Item × EntryCursor) Error) → costed.◌>>=◌ (free (whole_read offset left r)) detail_of ≡ detail_read left r
      by_item (Ok next) = by_entry next.1 (item_entry offset next.0)
      by_item (Err e) = refl

  pub detail_is : detail_at_cost scope u offset ≡ costed.◌>>=◌ (free (entries_from u (Some offset))) (λ left. detail_read left (next_item_at left.unit left.cursor))
  unfolding detail_at stored_detail_at
  detail_is = ap (λ r. costed.◌>>=◌ (free r) detail_of) (whole_is u offset) ∙ nested (entries_from u (Some offset))
