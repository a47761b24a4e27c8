-- The details of a function are what is found of it (on specs/FoundDetails.antt).
use Rattle.addr2line_lines.proofs.Common.{◌≡◌, ℕ, ◌+◌, ◌-◌, ◌<◌, nat_lt, ◌≤◌, ◌==◌, ◌&&◌, Bool, true, false, cond, List, [], ◌∷◌, ◌++◌, count_by, map, length, Option, Some, None, Result, Ok, Err, refl, ap, sym, subst, ◌∙◌, arith, length-drop, ℤ, pos, eqb-true, ne_eqb, nat_tests, sum_by-cons, drop-length, Error, OffsetOutOfBounds, Range, Abbrev, NamedValue, rest_of, Costed, free, takes_memory_after, Reading, fold_run, Section, after, entry_bytes_from, unit_length, EntryUnit, attributes_at, Entry, Item, depth_after, items_inside, subtree_of, EntriesLeft, EntryCursor, entries_at, entry_abbreviation_at, items_left, next_item_at, UnitRecord, Kind, Detail, detail_at, is_in_function, open_after, placed_items, inlined_in_at_cost, with_inlined_at_cost, detail_at_cost, with_inlined_entry, InlinedAttributes, InlinedRange, inlined_attributes_of, inlined_entry, inlined_ranges, is_inlined, FoundInlined, inlined_more, range_among, with_inlined_found, name_after, is_subprogram, name_of, attribute_ranges, gives_a_range, Scope}
use Rattle.gimli_read.specs.declared.constants.TheConstants.DwTag.{DW_TAG_inlined_subroutine, DW_TAG_subprogram}
use Rattle.gimli_read.specs.Costed.{◌>>=◌}
use Rattle.gimli_read.specs.Reading as reading
use Rattle.gimli.specs.Header.{UnitHeaderFields}
use Rattle.gimli.proofs.CursorLemmas.{item_coded, item_from, item_here}
use Rattle.gimli.proofs.ItemLemmas.{next_is}
use Rattle.addr2line_lines.specs.declared.nesting.Kind.TheVariants.{Inlined, Other, Subprogram}
use Rattle.addr2line_lines.specs.FoundItems.{FoundAround, inside_found, with_entry_found, with_item_found}
use Rattle.addr2line_lines.specs.CostedSteps.{fold_at_cost, map_at_cost, stored_if, then_room_if}
use Rattle.addr2line_lines.specs.FoundDetails.{abbreviation_of, detail_found_at, function_found_at}
use Rattle.addr2line_lines.specs.OpenEntries.{closed_once, is_inlined_kind, is_listed, is_subprogram_kind, kind_of, opened}
use Rattle.addr2line_lines.proofs.CostLemmas.{Agrees, AgreesGiven, IsPartOf, agrees_after, agrees_made, agrees_map, agrees_room, agrees_then, room_more}
use Rattle.addr2line_lines.proofs.DetailRanges.{AreFrom, more_places, more_ranges, none_from, found_ranges_from}
use Rattle.addr2line_lines.proofs.WholeEntries.{detail_is, detail_read}

-- what the kinds of open entries tell
abbrev kind_at : ℕ → Kind
kind_at n = cond (n == DW_TAG_subprogram.0) Subprogram (cond (n == DW_TAG_inlined_subroutine.0) Inlined Other)

inlined_at : (n : ℕ) → is_inlined_kind (kind_at n) ≡ (n == DW_TAG_inlined_subroutine.0)
inlined_at n = by_tag (n == DW_TAG_subprogram.0) refl
  where
    by_inlined : (b : Bool) → is_inlined_kind (cond b Inlined Other) ≡ b
    by_inlined true = refl
    by_inlined false = refl

    by_tag : (b : Bool) → (n == DW_TAG_subprogram.0) ≡ b → is_inlined_kind (kind_at n) ≡ (n == DW_TAG_inlined_subroutine.0)
    by_tag true e = subst (λ m. is_inlined_kind (kind_at m) ≡ (m == DW_TAG_inlined_subroutine.0)) (sym (eqb-true n DW_TAG_subprogram.0 e)) refl
    by_tag false e = ap (λ b. is_inlined_kind (cond b Subprogram (cond (n == DW_TAG_inlined_subroutine.0) Inlined Other))) e ∙ by_inlined (n == DW_TAG_inlined_subroutine.0)

subprogram_at : (n : ℕ) → is_subprogram_kind (kind_at n) ≡ (n == DW_TAG_subprogram.0)
subprogram_at n = by_tag (n == DW_TAG_subprogram.0) (n == DW_TAG_inlined_subroutine.0)
  where
    by_tag : (b c : Bool) → is_subprogram_kind (cond b Subprogram (cond c Inlined Other)) ≡ b
    by_tag true c = refl
    by_tag false true = refl
    by_tag false false = refl

counted : (such : Abbrev → Bool) (kind : Kind → Bool) → ((a : Abbrev) → kind (kind_of a) ≡ such a) → (up : List Abbrev) → count_by kind (map kind_of up) ≡ count_by such up
counted such kind h [] = refl
counted such kind h (a ∷ up) =
    sum_by-cons (λ k. cond (kind k) 1 0) (kind_of a) (map kind_of up)
    ∙ ap (λ (b : Bool). cond b 1 0 + count_by kind (map kind_of up)) (h a)
    ∙ ap (λ n. cond (such a) 1 0 + n) (counted such kind h up)
    ∙ sym (sum_by-cons (λ b. cond (such b) 1 0) a up)

pub listed_is : (a : Abbrev) (x : Item) (up : List Abbrev) → is_listed (kind_of a) (map kind_of up) ≡ (is_inlined a && is_in_function (record { item = x; around = up }))
listed_is a x up =
    ap (λ b. b && (count_by is_subprogram_kind (map kind_of up) == 0)) (inlined_at a.tag.0)
    ∙ ap (λ n. is_inlined a && (n == 0)) (counted is_subprogram is_subprogram_kind (λ b. subprogram_at b.tag.0) up)

-- the ranges are those of what was found from a place on; or both are faulty
abbrev AgreesInlined : ℕ → ℕ → Costed (List InlinedRange) → Costed FoundInlined → Type 0
AgreesInlined before n c d = Agrees (found_ranges_from n) (AreFrom before n) c d

pub closed_is : (up : List Abbrev) (x : Item) → x.entry ≡ None → closed_once (map kind_of up) ≡ map kind_of (open_after up x)
closed_is [] x h = ap (λ o. map kind_of (elim o [ None ↦ [] | Some e ↦ cond e.abbreviation.has_children (e.abbreviation ∷ []) [] ])) (sym h)
closed_is (a ∷ up) x h = ap (λ o. map kind_of (elim o [ None ↦ up | Some e ↦ cond e.abbreviation.has_children (e.abbreviation ∷ a ∷ up) (a ∷ up) ])) (sym h)

pub opened_is : (up : List Abbrev) (a : Abbrev) → opened (kind_of a) a.has_children (map kind_of up) ≡ map kind_of (cond a.has_children (a ∷ up) up)
opened_is up a = by_children a.has_children
  where
    by_children : (b : Bool) → cond b (kind_of a ∷ map kind_of up) (map kind_of up) ≡ map kind_of (cond b (a ∷ up) up)
    by_children true = refl
    by_children false = refl

module _ (scope : Scope) (u : UnitRecord) (before n : ℕ) where
  -- one more entry
  entry_agrees : (up : List Abbrev) (x : Item) (e : Entry) (found : FoundInlined) → AreFrom before n found
      → let listed = is_inlined e.abbreviation && is_in_function (record { item = x; around = up }) in AgreesInlined before n
      (stored_if (listed && takes_memory_after (inlined_attributes_of scope u e.attributes) (λ a. gives_a_range scope.file.sections u a.ranges)) (cond listed (with_inlined_entry scope u (found_ranges_from n found) (record { item = x; around = up }) e) (Ok (found_ranges_from n found))))
      (with_entry_found scope u (map kind_of up) x.offset found e)
  entry_agrees up x e found all =
      subst (λ m. AgreesInlined before n (wanted is_there (count_by is_inlined up)) (given (is_listed (kind_of e.abbreviation) (map kind_of up)) m)) (sym (counted is_inlined is_inlined_kind (λ b. inlined_at b.tag.0) up))
      (subst (λ b. AgreesInlined before n (wanted is_there (count_by is_inlined up)) (given b (count_by is_inlined up))) (sym (listed_is e.abbreviation x up)) (by_test is_there))
    where
      is_there : Bool
      is_there = is_inlined e.abbreviation && is_in_function (record { item = x; around = up })

      read : Result InlinedAttributes Error
      read = inlined_attributes_of scope u e.attributes

      gives : InlinedAttributes → Bool
      gives a = gives_a_range scope.file.sections u a.ranges

      wanted_of : ℕ → InlinedAttributes → Result (List InlinedRange) Error
      wanted_of m a = reading.◌>>=◌ (attribute_ranges scope.file.sections u a.ranges) (λ ranges. Ok (found_ranges_from n found ++ inlined_ranges m x.offset a ranges))

      wanted : Bool → ℕ → Costed (List InlinedRange)
      wanted b m = stored_if (b && takes_memory_after read gives) (cond b (reading.◌>>=◌ read (wanted_of m)) (Ok (found_ranges_from n found)))

      given_of : ℕ → InlinedAttributes → Costed FoundInlined
      given_of m a = stored_if (gives_a_range scope.file.sections u a.ranges) (with_inlined_found scope.file.sections u x.offset m found a)

      given : Bool → ℕ → Costed FoundInlined
      given b m = cond b (free read >>= given_of m) (free (Ok found))

      by_ranges : (a : InlinedAttributes) (r : Result (List Range) Error)
          → AgreesGiven (found_ranges_from n) (AreFrom before n) (reading.◌>>=◌ r (λ ranges. Ok (found_ranges_from n found ++ inlined_ranges (count_by is_inlined up) x.offset a ranges))) (reading.◌>>=◌ r (λ ranges. Ok (inlined_more found (inlined_entry x.offset a) (count_by is_inlined up) ranges)))
      by_ranges a (Ok ranges) = (ap Ok (sym (more_ranges before n found (inlined_entry x.offset a) (count_by is_inlined up) ranges all)), more_places before n found (inlined_entry x.offset a) (count_by is_inlined up) ranges all)
      by_ranges a (Err f) = refl

      by_attributes : (r : Result InlinedAttributes Error) → AgreesInlined before n (stored_if (takes_memory_after r gives) (reading.◌>>=◌ r (wanted_of (count_by is_inlined up)))) (free r >>= given_of (count_by is_inlined up))
      by_attributes (Ok a) = record { given = by_ranges a (attribute_ranges scope.file.sections u a.ranges); takes = λ shares t. t }
      by_attributes (Err f) = record { given = refl; takes = λ shares t. t }

      by_test : (b : Bool) → AgreesInlined before n (wanted b (count_by is_inlined up)) (given b (count_by is_inlined up))
      by_test true = by_attributes read
      by_test false = record { given = (refl, all); takes = λ shares t. t }

  -- what is found and open after an item
  record AreFromAround (up : List Abbrev) (more : FoundAround) : Type 0 where
    pub found : AreFrom before n more.found
    pub around : more.around ≡ map kind_of up

  -- one more item
  item_agrees : (up : List Abbrev) (offset : ℕ) (depth : ℤ) (o : Option Entry) (found : FoundInlined) → AreFrom before n found
      → Agrees (λ (m : FoundAround). found_ranges_from n m.found) (AreFromAround (open_after up (record { offset = offset; depth = depth; entry = o }))) (with_inlined_at_cost scope u (found_ranges_from n found) (record { item = record { offset = offset; depth = depth; entry = o }; around = up }))
      (with_item_found scope u (record { found = found; around = map kind_of up }) (record { offset = offset; depth = depth; entry = o }))
  item_agrees up offset depth None found all =
      record { given = (refl, record { found = all; around = closed_is up (record { offset = offset; depth = depth; entry = None }) refl }); takes = λ shares t. t }
  item_agrees up offset depth (Some e) found all =
      agrees_made (λ (more : FoundInlined). record { found = more; around = opened (kind_of e.abbreviation) e.abbreviation.has_children (map kind_of up) })
      (agrees_room e.abbreviation.has_children (entry_agrees up (record { offset = offset; depth = depth; entry = Some e }) e found all))
      (λ more q. (refl, record { found = q; around = opened_is up e.abbreviation }))

  fold_agrees : (items : List Item) (end : Result (Unit {0}) Error) (up : List Abbrev) (found : FoundInlined) → AreFrom before n found
      → Agrees (λ (m : FoundAround × Unit {0}). (found_ranges_from n m.0.found, m.1)) (λ m. AreFrom before n m.0.found) (fold_at_cost (with_inlined_at_cost scope u) (found_ranges_from n found) (placed_items up items) end)
      (fold_at_cost (with_item_found scope u) (record { found = found; around = map kind_of up }) items end)
  unfolding fold_run
  fold_agrees [] (Ok z) up found all = record { given = (refl, all); takes = λ shares t. t }
  fold_agrees [] (Err e) up found all = record { given = refl; takes = λ shares t. t }
  fold_agrees (x ∷ xs) end up found all =
      agrees_then (λ ranges. fold_at_cost (with_inlined_at_cost scope u) ranges (placed_items (open_after up x) xs) end) (λ more. fold_at_cost (with_item_found scope u) more xs end)
      (item_agrees up x.offset x.depth x.entry found all) (by_step (λ more. fold_agrees xs end (open_after up x) more))
    where
      AgreesRest : FoundInlined → FoundAround → Type 0
      AgreesRest found more = Agrees (λ (m : FoundAround × Unit {0}). (found_ranges_from n m.0.found, m.1)) (λ m. AreFrom before n m.0.found) (fold_at_cost (with_inlined_at_cost scope u) (found_ranges_from n found) (placed_items (open_after up x) xs) end)
          (fold_at_cost (with_item_found scope u) more xs end)

      by_step : ((more : FoundInlined) → AreFrom before n more → AgreesRest more (record { found = more; around = map kind_of (open_after up x) })) → (more : FoundAround) → AreFromAround (open_after up x) more → AgreesRest more.found more
      by_step rest more q = subst (λ k. AgreesRest more.found (record { found = more.found; around = k })) (sym q.around) (rest more.found q.found)

  inside_agrees : (unit : EntryUnit) (c : EntryCursor) (found : FoundInlined) → AreFrom before n found → let inside = items_inside (pos 0) c.depth (items_left unit c).items (items_left unit c).end in
      AgreesInlined before n (map_at_cost (λ f. f.0) (fold_at_cost (with_inlined_at_cost scope u) (found_ranges_from n found) (placed_items [] inside.items) inside.end)) (inside_found scope u unit c (record { found = found; around = [] }))
  inside_agrees unit c found all =
      let inside = items_inside (pos 0) c.depth (items_left unit c).items (items_left unit c).end in
      agrees_map (λ f. f.0) (λ more. more.0.found) (fold_agrees inside.items inside.end [] found all) (λ more q. (refl, q))

-- a unit's offset is below its end
pub some_left : (header : UnitHeaderFields) (offset : ℕ) (s : Section) → entry_bytes_from header (Some offset) ≡ Ok s → (length s.bytes == 0) ≡ false
some_left header offset s h = by_start (nat_lt offset header.header_length) refl (nat_lt offset (unit_length header)) refl h
  where
    by_start : (b : Bool) → nat_lt offset header.header_length ≡ b → (c : Bool) → nat_lt offset (unit_length header) ≡ c
        → cond {A = Result Section Error} b (Err OffsetOutOfBounds) (cond c (Ok (after (offset - header.header_length) header.entries)) (Err OffsetOutOfBounds)) ≡ Ok s → (length s.bytes == 0) ≡ false
    by_start true e c f h = absurd cc
    by_start false e false f h = absurd cc
    by_start false e true f h =
        let same : after (offset - header.header_length) header.entries ≡ s = cc in
        let long : length s.bytes ≡ length header.entries.bytes - (offset - header.header_length) = ap (λ (t : Section). length t.bytes) (sym same) ∙ length-drop (offset - header.header_length) header.entries.bytes in
        let low : offset < unit_length header = grind (arith, nat_tests) in
        let high : header.header_length ≤ offset = grind (arith, nat_tests) in
        ne_eqb (length s.bytes) 0 (λ z. absurd (omega arith))

module _ (scope : Scope) (u : UnitRecord) (offset : ℕ) (found : FoundInlined) where
  -- the details are those of what was found; or both are faulty
  abbrev pub detail_made : Option Section × FoundInlined → Detail
  detail_made m = record { name = m.0; inlined = found_ranges_from (length found.ranges) m.1 }

  abbrev pub IsFrom : Option Section × FoundInlined → Type 0
  IsFrom m = AreFrom (length found.entries) (length found.ranges) m.1

  abbrev AgreesDetail : Costed Detail → Costed (Option Section × FoundInlined) → Type 0
  AgreesDetail c d = Agrees detail_made IsFrom c d

  abbrev n : ℕ
  n = length found.ranges

  abbrev before : ℕ
  before = length found.entries

  by_inside : (name : Option Section) (c : Costed (List InlinedRange)) (d : Costed FoundInlined) → AgreesInlined before n c d
      → AgreesDetail (map_at_cost (λ inlined. record { name = name; inlined = inlined }) (then_room_if true c)) (map_at_cost (λ more. (name, more)) d)
  by_inside name c d h = agrees_map (λ inlined. record { name = name; inlined = inlined }) (λ more. (name, more)) (room_more true h) (λ more q. (refl, q))

  -- what stands inside a function whose entry was read
  inlined_agrees : (unit : EntryUnit) (x : Item) (c : EntryCursor) → x.depth ≡ pos 0 → c.depth ≡ depth_after x → AgreesInlined before n (inlined_in_at_cost scope u (subtree_of x (items_left unit c))) (inside_found scope u unit c (record { found = found; around = [] }))
  inlined_agrees unit x c d e =
      subst (λ z. AgreesInlined before n (inlined_of [] z (depth_after x)) (inside_found scope u unit c (record { found = found; around = [] }))) (sym d)
      (subst (λ z. AgreesInlined before n (inlined_of [] (pos 0) z) (inside_found scope u unit c (record { found = found; around = [] }))) e
      (subst (λ xs. AgreesInlined before n (inlined_of xs (pos 0) c.depth) (inside_found scope u unit c (record { found = found; around = [] }))) (ap (λ xs. map (range_among found.entries) xs) (drop-length found.ranges))
      (inside_agrees scope u before n unit c found (none_from found))))
    where
      inlined_of : List InlinedRange → ℤ → ℤ → Costed (List InlinedRange)
      inlined_of xs d now =
          let inside = items_inside d now (items_left unit c).items (items_left unit c).end in
          map_at_cost (λ f. f.0) (fold_at_cost (with_inlined_at_cost scope u) xs (placed_items [] inside.items) inside.end)

  abbrev found_of : EntriesLeft → Result (Option Abbrev × EntryCursor) Error → Costed (Option Section × FoundInlined)
  found_of left r = free r >>= λ code. free (abbreviation_of offset code.0) >>= λ a. function_found_at scope u left.unit code.1 found a

  left_agrees : (s : Section) → (length s.bytes == 0) ≡ false → let left = entries_at u.header u.abbreviations s in AgreesDetail (detail_read scope u offset left (next_item_at left.unit left.cursor)) (found_of left (entry_abbreviation_at left.unit.abbreviations left.cursor))
  left_agrees s some =
      subst (λ r. AgreesDetail (detail_read scope u offset left r) (found_of left (entry_abbreviation_at left.unit.abbreviations left.cursor))) (sym (item_coded left.unit left.cursor some))
      (by_code (entry_abbreviation_at left.unit.abbreviations left.cursor) refl)
    where
      left : EntriesLeft
      left = entries_at u.header u.abbreviations s

      named_item : (x : Item) (c : EntryCursor) → x.depth ≡ pos 0 → c.depth ≡ depth_after x → (r : Result (Option Section) Error)
          → AgreesDetail (free r >>= λ name. map_at_cost (λ inlined. record { name = name; inlined = inlined }) (then_room_if true (inlined_in_at_cost scope u (subtree_of x (items_left left.unit c)))))
          (free r >>= λ name. map_at_cost (λ more. (name, more)) (inside_found scope u left.unit c (record { found = found; around = [] })))
      named_item x c d e r = agrees_after r _ _ (λ name. by_inside name _ _ (inlined_agrees left.unit x c d e))

      by_read : (a : Abbrev) (t : EntryCursor) → entry_abbreviation_at left.unit.abbreviations left.cursor ≡ Ok (Some a, t) → (r : Reading (List NamedValue)) → attributes_at u.header.encoding a.attributes t.left ≡ r
          → AgreesDetail (detail_read scope u offset left (reading.◌>>=◌ {B = Option Item × EntryCursor} r (λ x. Ok (Some (item_here left.unit left.cursor (Some (record { abbreviation = a; attributes = x.0 }))), record { left = x.1; depth = t.depth }))))
          (free (name_after scope u (Ok None) r) >>= λ name. free (rest_of r) >>= λ rest. map_at_cost (λ more. (name, more)) (inside_found scope u left.unit (record { left = rest; depth = t.depth }) (record { found = found; around = [] })))
      by_read a t q (Err f) k = record { given = refl; takes = λ shares t. t }
      by_read a t q (Ok x) k =
          let item = item_here left.unit left.cursor (Some (record { abbreviation = a; attributes = x.0 })) in
          let end : EntryCursor = record { left = x.1; depth = t.depth } in
          let is : next_item_at left.unit left.cursor ≡ Ok (Some item, end) = item_coded left.unit left.cursor some ∙ ap (λ r. reading.◌>>=◌ r (λ y. item_from left.unit left.cursor y)) q
          ∙ ap (λ (r : Reading (List NamedValue)). reading.◌>>=◌ {B = Option Item × EntryCursor} r (λ y. Ok (Some (item_here left.unit left.cursor (Some (record { abbreviation = a; attributes = y.0 }))), record { left = y.1; depth = t.depth }))) k in
          let next = next_is left.unit left.cursor end item is in
          named_item item end refl next.after (name_of scope u x.0)

      by_code : (r : Result (Option Abbrev × EntryCursor) Error) → entry_abbreviation_at left.unit.abbreviations left.cursor ≡ r → AgreesDetail (detail_read scope u offset left (reading.◌>>=◌ r (λ y. item_from left.unit left.cursor y))) (found_of left r)
      by_code (Err f) q = record { given = refl; takes = λ shares t. t }
      by_code (Ok (None, t)) q = record { given = refl; takes = λ shares t. t }
      by_code (Ok (Some a, t)) q = by_read a t q (attributes_at u.header.encoding a.attributes t.left) refl

  -- the details of a function are what is found of it
  pub detail_agrees : Agrees detail_made IsFrom (detail_at_cost scope u offset) (detail_found_at scope u offset found)
  unfolding detail_found_at
  detail_agrees = subst (λ c. AgreesDetail c (detail_found_at scope u offset found)) (sym (detail_is scope u offset)) (by_bytes (entry_bytes_from u.header (Some offset)) refl)
    where
      by_bytes : (r : Result Section Error) → entry_bytes_from u.header (Some offset) ≡ r
          → AgreesDetail (free (reading.◌>>=◌ r (λ s. Ok (entries_at u.header u.abbreviations s))) >>= λ left. detail_read scope u offset left (next_item_at left.unit left.cursor)) (free (reading.◌>>=◌ r (λ s. Ok (entries_at u.header u.abbreviations s))) >>= λ left. found_of left (entry_abbreviation_at left.unit.abbreviations left.cursor))
      by_bytes (Err f) q = record { given = refl; takes = λ shares t. t }
      by_bytes (Ok s) q = left_agrees s (some_left u.header offset s q)

  -- so is a fault
  pub detail_part : IsPartOf (detail_found_at scope u offset found) (detail_at_cost scope u offset)
  detail_part = record { fault = λ e h. subst (AgreesGiven detail_made IsFrom (detail_at scope u offset)) h detail_agrees.given; takes = detail_agrees.takes }
