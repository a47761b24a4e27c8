-- The entries that are open, one at a time (on specs/OpenEntries.antt and specs/FoundItems.antt).
use Rattle.addr2line_lines.proofs.Common.{◌≡◌, ℕ, ◌<◌, ◌≤◌, ◌==◌, ◌&&◌, ◌||◌, Bool, true, false, is_ok, cond, List, [], ◌∷◌, ◌++◌, length, length-append, map, reverse, Option, Some, None, Result, Ok, Err, OnErr, OnOk, refl, ap, subst, sym, arith, ◌∙◌, append-nil, append_assoc, ℤ, pos, int_lt, ne_eqb, reverse-append, Error, OutOfMemory, UnexpectedEof, Abbrev, with_code, NamedValue, rest_of, Costed, free, Reading, ExactlyUnlessOomIf, Run, cons, fold_run, Section, entry_bytes_from, EntryUnit, attributes_at, depth_after_closing, Item, depth_after, items_inside, EntriesLeft, EntryCursor, entries_at, entries_from, entry_abbreviation_at, items_left, next_item_at, UnitRecord, items_end, items_fault, items_more, Kind, FoundInlined, IsFoundMore, inlined_address, inlined_more, with_inlined_found, with_inlined_ranges, name_after, InlinedAttributes, inlined_entry, attribute_ranges, Range, Sections, InlinedFunctionAddress, Scope, offset_of}
use Rattle.gimli_read.specs.Costed.{◌>>=◌}
use Rattle.gimli_read.specs.Reading as reading
use Rattle.gimli.proofs.CursorLemmas.{abbreviation_is, item_coded, item_from, item_is, item_here, opening_entry}
use Rattle.gimli.proofs.EntryLemmas.{abbreviation_takes}
use Rattle.gimli.proofs.ItemLemmas.{next_is}
use Rattle.addr2line_lines.specs.FoundItems.{FoundAround, entry_found_at, inside_found, item_found_at, with_entry_found, with_item_found}
use Rattle.addr2line_lines.specs.CostedSteps.{fold_at_cost, map_at_cost, then_room_if}
use Rattle.addr2line_lines.specs.Grown.{IsGrown}
use Rattle.addr2line_lines.specs.FoundDetails.{abbreviation_of, detail_found_at, function_found_at}
use Rattle.addr2line_lines.specs.OpenEntries.{closed_once, kind_of, opened}
use Rattle.addr2line_lines.proofs.CostLemmas.{IsPartOf, IsRestOf, first_part, made_part, part_on, rest_map, rest_next, rest_on, rest_part}
use Rattle.addr2line_lines.proofs.DetailLemmas.{empty_code, entry-rest}
use Rattle.addr2line_lines.proofs.FunctionLemmas.{entry_shorter}
use Rattle.addr2line_lines.proofs.Facts.{no_bytes}

-- a code takes a byte
pub some_bytes : (table : List Abbrev) (c t : EntryCursor) (o : Option Abbrev) → entry_abbreviation_at table c ≡ Ok (o, t) → (length c.left.bytes == 0) ≡ false
some_bytes table c t o h = let l = abbreviation_takes table c t o h in ne_eqb (length c.left.bytes) 0 (λ e. absurd (omega arith))

no_code : (table : List Abbrev) (c : EntryCursor) → c.left.bytes ≡ [] → entry_abbreviation_at table c ≡ Err UnexpectedEof
no_code table c h =
    abbreviation_is table c
    ∙ ap (λ (r : Reading ℕ). reading.◌>>=◌ {B = Option Abbrev × EntryCursor} r (λ code. cond (code.0 == 0) (Ok (None, record { left = code.1; depth = depth_after_closing c.depth })) (opening_entry (with_code code.0 table) (record { left = code.1; depth = c.depth })))) (empty_code c.left h)

-- an answer of a call that takes memory only where an entry opens, beside what it left
pub entered : {X Y : Type 0} (may opens : Bool) (r : Result (Unit {0}) Error) (f : X → Y) (x y : X) (whole : Result Y Error) → (opens ≡ true → may ≡ true) → whole ≡ Ok (f y) → OnOk r (x ≡ y) → OnErr r ((r ≡ Err OutOfMemory) × (opens ≡ true)) → ExactlyUnlessOomIf may (λ _. f x) r whole
entered may opens (Ok z) f x y whole t h k m = h ∙ ap (λ v. Ok (f v)) (sym k)
entered may opens (Err e) f x y whole t h k m = λ ne. absurd (ne (t m.1) (let same : ◌≡◌ {A = Result (Unit {0}) Error} (Err e) (Err OutOfMemory) = m.0 in cc))

-- one more entry is open
pub opened_more : (kinds more : List Kind) (kind : Kind) (has_children : Bool) (around : List Kind) → has_children ≡ true → more ≡ kinds ++ kind ∷ [] → reverse kinds ≡ around → reverse more ≡ opened kind has_children around
opened_more kinds more kind has_children around b h k = ap reverse h ∙ reverse-append kinds (kind ∷ []) ∙ ap (λ xs. kind ∷ xs) k ∙ sym (ap (λ c. opened kind c around) b)

-- the items inside a function, one at a time
module _ (scope : Scope) (u : UnitRecord) (unit : EntryUnit) where
  abbrev pub item_read : FoundAround → Result (Option Item × EntryCursor) Error → Costed (FoundAround × EntryCursor)
  item_read state r = free r >>= λ x. elim x.0 [ None ↦ free (Err UnexpectedEof) | Some item ↦ map_at_cost (λ more. (more, x.1)) (with_item_found scope u state item) ]

  ended : (c : EntryCursor) → (length c.left.bytes == 0) ≡ true → next_item_at unit c ≡ Ok (None, c)
  ended c h = item_is unit c ∙ ap (λ b. cond b (Ok (None, c)) (reading.◌>>=◌ (entry_abbreviation_at unit.abbreviations c) (λ x. item_from unit c x))) h

  at_code : (c : EntryCursor) (state : FoundAround) (r : Result (Option Abbrev × EntryCursor) Error) → (length c.left.bytes == 0) ≡ false → entry_abbreviation_at unit.abbreviations c ≡ r
      → item_found_at scope u unit c state ≡ item_read state (reading.◌>>=◌ r (λ x. item_from unit c x))
  at_code c state r h k = ap (item_read state) (item_coded unit c h ∙ ap (λ s. reading.◌>>=◌ s (λ x. item_from unit c x)) k)

  pub code-fault : (c : EntryCursor) (state : FoundAround) (e : Error) → entry_abbreviation_at unit.abbreviations c ≡ Err e → (item_found_at scope u unit c state).given ≡ Err e
  code-fault c state e h = by_bytes (length c.left.bytes == 0) refl
    where
      by_bytes : (b : Bool) → (length c.left.bytes == 0) ≡ b → (item_found_at scope u unit c state).given ≡ Err e
      by_bytes true k =
          let same : ◌≡◌ {A = Result (Option Abbrev × EntryCursor) Error} (Err UnexpectedEof) (Err e) = sym (no_code unit.abbreviations c (no_bytes c.left.bytes k)) ∙ h in
          ap (λ r. (item_read state r).given) (ended c k) ∙ ap Err (let fault : UnexpectedEof ≡ e = cc in fault)
      by_bytes false k = ap (λ (x : Costed (FoundAround × EntryCursor)). x.given) (at_code c state (Err e) k h)

  pub item-closing : (c t : EntryCursor) (state : FoundAround) → entry_abbreviation_at unit.abbreviations c ≡ Ok (None, t) → (item_found_at scope u unit c state).given ≡ Ok (record { found = state.found; around = closed_once state.around }, t)
  item-closing c t state h = ap (λ (x : Costed (FoundAround × EntryCursor)). x.given) (at_code c state (Ok (None, t)) (some_bytes unit.abbreviations c t None h) h)

  -- what is found and open after an entry
  abbrev pub after_entry : FoundAround → Abbrev → EntryCursor → FoundInlined × Section → FoundAround × EntryCursor
  after_entry state a t m = (record { found = m.0; around = opened (kind_of a) a.has_children state.around }, record { left = m.1; depth = t.depth })

  -- an entry that is found, and room for it while it is open
  abbrev pub entry_opened : EntryCursor → EntryCursor → FoundAround → Abbrev → Costed (FoundAround × EntryCursor)
  entry_opened c t state a = map_at_cost (after_entry state a t) (then_room_if a.has_children (entry_found_at scope u state.around (offset_of unit c.left) a t.left state.found))

  pub item-entry : (c t : EntryCursor) (state : FoundAround) (a : Abbrev) → u.header.encoding ≡ unit.encoding → entry_abbreviation_at unit.abbreviations c ≡ Ok (Some a, t) → IsRestOf (entry_opened c t state a) (item_found_at scope u unit c state)
  item-entry c t state a e h =
      subst (IsRestOf (entry_opened c t state a)) (sym (at_code c state (Ok (Some a, t)) (some_bytes unit.abbreviations c t (Some a) h) h ∙ ap (λ v. read_of (attributes_at v a.attributes t.left)) (sym e)))
      (by_read (attributes_at u.header.encoding a.attributes t.left))
    where
      entry : List NamedValue → Costed FoundInlined
      entry xs = with_entry_found scope u state.around (offset_of unit c.left) state.found (record { abbreviation = a; attributes = xs })

      read_of : Reading (List NamedValue) → Costed (FoundAround × EntryCursor)
      read_of read = item_read state (reading.◌>>=◌ {B = Option Item × EntryCursor} read (λ x. Ok (Some (item_here unit c (Some (record { abbreviation = a; attributes = x.0 }))), record { left = x.1; depth = t.depth })))

      by_found : (s : Section) (r : Result FoundInlined Error)
          → reading.◌>>=◌ {B = FoundAround × EntryCursor} (reading.◌>>=◌ {B = FoundAround} r (λ more. Ok (record { found = more; around = opened (kind_of a) a.has_children state.around }))) (λ more. Ok (more, record { left = s; depth = t.depth }))
          ≡ reading.◌>>=◌ {B = FoundAround × EntryCursor} (reading.◌>>=◌ {B = FoundInlined × Section} r (λ more. Ok (more, s))) (λ m. Ok (after_entry state a t m))
      by_found s (Ok m) = refl
      by_found s (Err f) = refl

      same_well : (s : Section) (r : Result FoundInlined Error) → is_ok (reading.◌>>=◌ {B = FoundInlined × Section} r (λ more. Ok (more, s))) ≡ is_ok r
      same_well s (Ok m) = refl
      same_well s (Err f) = refl

      by_read : (read : Reading (List NamedValue)) → IsRestOf (map_at_cost (after_entry state a t) (then_room_if a.has_children (free read >>= λ x. map_at_cost (λ more. (more, x.1)) (entry x.0)))) (read_of read)
      by_read (Ok x) = record {
        given = by_found x.1 (entry x.0).given;
        takes = λ shares k. ap (λ b. (entry x.0).takes_memory shares || b && a.has_children) (sym (same_well x.1 (entry x.0).given)) ∙ k;
      }
      by_read (Err f) = record { given = refl; takes = λ shares k. k }

  -- a call leaves less
  pub entry-shorter : (c t : EntryCursor) (a : Abbrev) (rest : Section) (around : List Kind) (offset : ℕ) (found more : FoundInlined) → entry_abbreviation_at unit.abbreviations c ≡ Ok (Some a, t)
      → (entry_found_at scope u around offset a t.left found).given ≡ Ok (more, rest) → length rest.bytes < length c.left.bytes
  entry-shorter c t a rest around offset found more h k =
      entry_shorter scope.file.sections u unit c t rest a u.header.encoding h (entry-rest scope u around offset a t.left found more rest k)

  -- what is found of a run of items
  abbrev folded : FoundAround → Run Item (Unit {0}) → Costed FoundInlined
  folded state r = map_at_cost (λ more. more.0.found) (fold_at_cost (with_item_found scope u) state r.items r.end)

  abbrev inside_of : FoundAround → ℤ → Run Item Section → Costed FoundInlined
  inside_of state now r = folded state (items_inside (pos 0) now r.items r.end)

  none_inside : (now : ℤ) (items : List Item) (end : Result Section Error) → int_lt (pos 0) now ≡ false → items_inside (pos 0) now items end ≡ record { items = []; end = Ok tt }
  none_inside now [] end h = ap (λ b. cond {A = Run Item (Unit {0})} b (record { items = []; end = reading.◌>>=◌ end (λ z. Err UnexpectedEof) }) (record { items = []; end = Ok tt })) h
  none_inside now (x ∷ items) end h = ap (λ b. cond {A = Run Item (Unit {0})} b (cons x (items_inside (pos 0) (depth_after x) items end)) (record { items = []; end = Ok tt })) h

  no_more : (now : ℤ) (end : Result Section Error) → int_lt (pos 0) now ≡ true → items_inside (pos 0) now [] end ≡ record { items = []; end = reading.◌>>=◌ end (λ z. Err UnexpectedEof) }
  no_more now end h = ap (λ b. cond {A = Run Item (Unit {0})} b (record { items = []; end = reading.◌>>=◌ end (λ z. Err UnexpectedEof) }) (record { items = []; end = Ok tt })) h

  pub one_inside : (now : ℤ) (x : Item) (r : Run Item Section) → int_lt (pos 0) now ≡ true → items_inside (pos 0) now (x ∷ r.items) r.end ≡ cons x (items_inside (pos 0) (depth_after x) r.items r.end)
  one_inside now x r h = ap (λ b. cond {A = Run Item (Unit {0})} b (cons x (items_inside (pos 0) (depth_after x) r.items r.end)) (record { items = []; end = Ok tt })) h

  pub inside-end : (c : EntryCursor) (state : FoundAround) → int_lt (pos 0) c.depth ≡ false → (inside_found scope u unit c state).given ≡ Ok state.found
  unfolding fold_run
  inside-end c state h = ap (λ r. (folded state r).given) (none_inside c.depth (items_left unit c).items (items_left unit c).end h)

  folded_with : (state : FoundAround) (x : Item) (r : Run Item (Unit {0})) → IsRestOf (with_item_found scope u state x >>= λ more. folded more r) (folded state (cons x r))
  unfolding fold_run
  folded_with state x r = rest_map (with_item_found scope u state x) (λ more. fold_at_cost (with_item_found scope u) more r.items r.end) (λ more. more.0.found)

  at_item : (c t : EntryCursor) (state : FoundAround) (x : Item) → int_lt (pos 0) c.depth ≡ true → next_item_at unit c ≡ Ok (Some x, t)
      → IsRestOf (with_item_found scope u state x >>= λ more. inside_found scope u unit t more) (inside_found scope u unit c state)
  at_item c t state x h q =
      let next = next_is unit c t x q in
      let whole = ap (inside_of state c.depth) (items_more unit c t x q) ∙ ap (folded state) (one_inside c.depth x (items_left unit t) h) in
      subst (λ v. IsRestOf (with_item_found scope u state x >>= λ more. inside_found scope u unit t more) v) (sym whole)
      (subst (λ z. IsRestOf (with_item_found scope u state x >>= λ more. inside_of more z (items_left unit t)) (folded state (cons x (items_inside (pos 0) (depth_after x) (items_left unit t).items (items_left unit t).end)))) (sym next.after)
      (folded_with state x (items_inside (pos 0) (depth_after x) (items_left unit t).items (items_left unit t).end)))

  pub one_found : (r : Result FoundAround Error) (more : FoundAround) (s t : EntryCursor) → reading.◌>>=◌ {B = FoundAround × EntryCursor} r (λ v. Ok (v, t)) ≡ Ok (more, s) → (r ≡ Ok more) × (t ≡ s)
  one_found (Ok v) more s t e = let p : ◌≡◌ {A = FoundAround × EntryCursor} (v, t) (more, s) = cc in (ap Ok (ap (λ x. x.0) p), ap (λ x. x.1) p)
  one_found (Err f) more s t e = absurd cc

  -- after an item what is left is what is found after it
  pub inside-step : (c s : EntryCursor) (state more : FoundAround) → int_lt (pos 0) c.depth ≡ true → (item_found_at scope u unit c state).given ≡ Ok (more, s) → IsRestOf (inside_found scope u unit s more) (inside_found scope u unit c state)
  inside-step c s state more h k = by_cases (next_item_at unit c) refl k
    where
      by_cases : (r : Result (Option Item × EntryCursor) Error) → next_item_at unit c ≡ r → (item_read state r).given ≡ Ok (more, s) → IsRestOf (inside_found scope u unit s more) (inside_found scope u unit c state)
      by_cases (Err e) q k = absurd cc
      by_cases (Ok (None, t)) q k = absurd cc
      by_cases (Ok (Some x, t)) q k =
          let one = one_found (with_item_found scope u state x).given more s t k in
          subst (λ v. IsRestOf (inside_found scope u unit v more) (inside_found scope u unit c state)) one.1
          (rest_on (rest_next (with_item_found scope u state x) (λ m. inside_found scope u unit t m) more one.0) (at_item c t state x h q))

  -- an item is part of what is inside
  pub inside-part : (c : EntryCursor) (state : FoundAround) → int_lt (pos 0) c.depth ≡ true → IsPartOf (item_found_at scope u unit c state) (inside_found scope u unit c state)
  unfolding fold_run
  inside-part c state h = by_cases (next_item_at unit c) refl
    where
      by_cases : (r : Result (Option Item × EntryCursor) Error) → next_item_at unit c ≡ r → IsPartOf (item_read state r) (inside_found scope u unit c state)
      by_cases (Err f) q = record {
        fault = λ e k. (let same : f ≡ e = cc in ap (λ r. (inside_of state c.depth r).given) (items_fault unit c f q) ∙ ap (λ r. (folded state r).given) (no_more c.depth (Err f) h) ∙ ap Err same);
        takes = λ shares t. absurd cc;
      }
      by_cases (Ok (None, t)) q = record {
        fault = λ e k. (let same : UnexpectedEof ≡ e = cc in ap (λ r. (inside_of state c.depth r).given) (items_end unit c t q) ∙ ap (λ r. (folded state r).given) (no_more c.depth (Ok t.left) h) ∙ ap Err same);
        takes = λ shares t. absurd cc;
      }
      by_cases (Ok (Some x, t)) q = part_on (made_part (λ more. (more, t)) (with_item_found scope u state x) (λ more. inside_found scope u unit t more)) (rest_part (at_item c t state x h q))

  -- a function whose attributes follow
  abbrev pub named_found : Option Section → Costed FoundInlined → Costed (Option Section × FoundInlined)
  named_found name c = map_at_cost (λ more. (name, more)) c

  pub name-part : (c : EntryCursor) (found : FoundInlined) (a : Abbrev) → IsPartOf (free (name_after scope u (Ok None) (attributes_at u.header.encoding a.attributes c.left))) (function_found_at scope u unit c found a)
  name-part c found a =
      let read = attributes_at u.header.encoding a.attributes c.left in
      first_part (free (name_after scope u (Ok None) read)) (λ name. free (rest_of read) >>= λ rest. named_found name (inside_found scope u unit (record { left = rest; depth = c.depth }) (record { found = found; around = [] })))

  pub function-found : (c s : EntryCursor) (v : EntryUnit) (found : FoundInlined) (a : Abbrev) (name : Option Section) → name_after scope u (Ok None) (attributes_at u.header.encoding a.attributes c.left) ≡ Ok name
      → rest_of (attributes_at u.header.encoding a.attributes c.left) ≡ Ok s.left → s.depth ≡ c.depth → v ≡ unit
      → function_found_at scope u unit c found a ≡ named_found name (inside_found scope u v s (record { found = found; around = [] }))
  function-found c s v found a name h k d e =
      ap after_name h ∙ ap (after_rest name) k
      ∙ ap (λ z. named_found name (inside_found scope u unit (record { left = s.left; depth = z }) start)) (sym d)
      ∙ ap (λ w. named_found name (inside_found scope u w s start)) (sym e)
    where
      start : FoundAround
      start = record { found = found; around = [] }

      after_rest : Option Section → Result Section Error → Costed (Option Section × FoundInlined)
      after_rest n r = free r >>= λ rest. named_found n (inside_found scope u unit (record { left = rest; depth = c.depth }) start)

      after_name : Result (Option Section) Error → Costed (Option Section × FoundInlined)
      after_name r = free r >>= λ n. after_rest n (rest_of (attributes_at u.header.encoding a.attributes c.left))

-- the function of a detail, where its entry's unit can or can't be read there, and by the code
-- where its entry begins
pub detail-read : (scope : Scope) (u : UnitRecord) (offset : ℕ) (found : FoundInlined) (left : Result EntriesLeft Error) → entries_from u (Some offset) ≡ left
    → detail_found_at scope u offset found ≡ (free left >>= λ l. free (entry_abbreviation_at l.unit.abbreviations l.cursor) >>= λ c. free (abbreviation_of offset c.0) >>= λ a. function_found_at scope u l.unit c.1 found a)
unfolding detail_found_at
detail-read scope u offset found left h =
    ap (λ (r : Result EntriesLeft Error). free r >>= λ l. free (entry_abbreviation_at l.unit.abbreviations l.cursor) >>= λ c. free (abbreviation_of offset c.0) >>= λ a. function_found_at scope u l.unit c.1 found a) h

pub detail-opened : (scope : Scope) (u : UnitRecord) (offset : ℕ) (found : FoundInlined) (left : EntriesLeft) (code : Result (Option Abbrev × EntryCursor) Error) → entries_from u (Some offset) ≡ Ok left → entry_abbreviation_at left.unit.abbreviations left.cursor ≡ code
    → detail_found_at scope u offset found ≡ (free code >>= λ c. free (abbreviation_of offset c.0) >>= λ a. function_found_at scope u left.unit c.1 found a)
detail-opened scope u offset found left code h k =
    detail-read scope u offset found (Ok left) h
    ∙ ap (λ (r : Result (Option Abbrev × EntryCursor) Error). free r >>= λ c. free (abbreviation_of offset c.0) >>= λ a. function_found_at scope u left.unit c.1 found a) k

-- its entries have the unit's encoding
pub detail-encoding : (u : UnitRecord) (offset : ℕ) (left : EntriesLeft) → entries_from u (Some offset) ≡ Ok left → left.unit.encoding ≡ u.header.encoding
detail-encoding u offset left h = by_bytes (entry_bytes_from u.header (Some offset)) h
  where
    by_bytes : (r : Result Section Error) → reading.◌>>=◌ r (λ bytes. Ok (entries_at u.header u.abbreviations bytes)) ≡ Ok left → left.unit.encoding ≡ u.header.encoding
    by_bytes (Ok bytes) h = let same : entries_at u.header u.abbreviations bytes ≡ left = cc in ap (λ l. l.unit.encoding) (sym same)
    by_bytes (Err e) h = absurd cc

-- lists that grow at their end
pub grown_not : {X : Type 0} (xs : List X) → IsGrown xs xs
grown_not xs = record { more = []; is = sym (append-nil xs) }

pub grown_by : {X : Type 0} (xs ys more : List X) → ys ≡ xs ++ more → IsGrown xs ys
grown_by xs ys more h = record { more = more; is = h }

pub grown_on : {X : Type 0} (xs ys zs : List X) → IsGrown xs ys → IsGrown ys zs → IsGrown xs zs
grown_on xs ys zs a b = record { more = a.more ++ b.more; is = b.is ∙ ap (λ v. v ++ b.more) a.is ∙ append_assoc xs a.more b.more }

pub found_same : (found : FoundInlined) → IsFoundMore found found
found_same found = record { entries = grown_not found.entries; ranges = grown_not found.ranges }

pub found_on : (a b c : FoundInlined) → IsFoundMore a b → IsFoundMore b c → IsFoundMore a c
found_on a b c h k = record { entries = grown_on _ _ _ h.entries k.entries; ranges = grown_on _ _ _ h.ranges k.ranges }

-- no range was added
pub none_added : (d : Sections) (u : UnitRecord) (offset depth function : ℕ) (found : FoundInlined) (x : InlinedAttributes) (ranges : List InlinedFunctionAddress) → with_inlined_ranges d u x.ranges depth function found.ranges ≡ Ok ranges → length ranges ≤ length found.ranges
    → with_inlined_found d u offset depth found x ≡ Ok (record { entries = found.entries; ranges = ranges })
none_added d u offset depth function found x ranges h l = by_ranges (attribute_ranges d u x.ranges) h
  where
    by_ranges : (r : Result (List Range) Error) → reading.◌>>=◌ {B = List InlinedFunctionAddress} r (λ rs. Ok (found.ranges ++ map (inlined_address depth function) rs)) ≡ Ok ranges
        → reading.◌>>=◌ {B = FoundInlined} r (λ rs. Ok (inlined_more found (inlined_entry offset x) depth rs)) ≡ Ok (record { entries = found.entries; ranges = ranges })
    by_ranges (Err e) h = absurd cc
    by_ranges (Ok []) h =
        let same : found.ranges ++ [] ≡ ranges = cc in
        ap (λ (v : List InlinedFunctionAddress). Ok (record { entries = found.entries; ranges = v })) (sym (append-nil found.ranges) ∙ same)
    by_ranges (Ok (r ∷ rs)) h =
        let same : found.ranges ++ map (inlined_address depth function) (r ∷ rs) ≡ ranges = cc in
        let long : length ranges ≡ length (found.ranges ++ map (inlined_address depth function) (r ∷ rs)) = ap (λ (v : List InlinedFunctionAddress). length v) (sym same) in
        let sum = length-append found.ranges (map (inlined_address depth function) (r ∷ rs)) in
        absurd (omega arith)

-- a fault of the ranges
pub ranges_refused : (d : Sections) (u : UnitRecord) (offset depth function : ℕ) (found : FoundInlined) (x : InlinedAttributes) (f : Error) → with_inlined_ranges d u x.ranges depth function found.ranges ≡ Err f → with_inlined_found d u offset depth found x ≡ Err f
ranges_refused d u offset depth function found x f h = by_ranges (attribute_ranges d u x.ranges) h
  where
    by_ranges : (r : Result (List Range) Error) → reading.◌>>=◌ {B = List InlinedFunctionAddress} r (λ rs. Ok (found.ranges ++ map (inlined_address depth function) rs)) ≡ Err f
        → reading.◌>>=◌ {B = FoundInlined} r (λ rs. Ok (inlined_more found (inlined_entry offset x) depth rs)) ≡ Err f
    by_ranges (Err e) h = let same : e ≡ f = cc in ap Err same
    by_ranges (Ok rs) h = absurd cc

-- a range was added
pub some_added : (d : Sections) (u : UnitRecord) (offset depth function : ℕ) (found : FoundInlined) (x : InlinedAttributes) (ranges : List InlinedFunctionAddress) → with_inlined_ranges d u x.ranges depth function found.ranges ≡ Ok ranges → length found.ranges < length ranges → function ≡ length found.entries
    → with_inlined_found d u offset depth found x ≡ Ok (record { entries = found.entries ++ inlined_entry offset x ∷ []; ranges = ranges })
some_added d u offset depth function found x ranges h l n = by_ranges (attribute_ranges d u x.ranges) h
  where
    more : List InlinedFunctionAddress → FoundInlined
    more v = record { entries = found.entries ++ inlined_entry offset x ∷ []; ranges = v }

    by_ranges : (r : Result (List Range) Error) → reading.◌>>=◌ {B = List InlinedFunctionAddress} r (λ rs. Ok (found.ranges ++ map (inlined_address depth function) rs)) ≡ Ok ranges
        → reading.◌>>=◌ {B = FoundInlined} r (λ rs. Ok (inlined_more found (inlined_entry offset x) depth rs)) ≡ Ok (more ranges)
    by_ranges (Err e) h = absurd cc
    by_ranges (Ok []) h =
        let same : found.ranges ++ [] ≡ ranges = cc in
        let long : length found.ranges ≡ length ranges = ap (λ (v : List InlinedFunctionAddress). length v) (sym (append-nil found.ranges) ∙ same) in
        absurd (omega arith)
    by_ranges (Ok (r ∷ rs)) h =
        let same : found.ranges ++ map (inlined_address depth function) (r ∷ rs) ≡ ranges = cc in
        ap (λ m. Ok (more (found.ranges ++ map (inlined_address depth m) (r ∷ rs)))) (sym n) ∙ ap (λ v. Ok (more v)) same
