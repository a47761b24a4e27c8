-- The texts of items, one after another (on specs/ItemLaws.antt).
use Rattle.gimli.proofs.Common.{◌≡◌, ℕ, zero, suc, ◌+◌, ◌≤◌, ◌==◌, Bool, true, false, cond, List, [], ◌∷◌, ◌++◌, length, IfOk, Option, Some, None, Result, Ok, Err, refl, sym, ap, subst, ◌∙◌, arith, length-append, append_assoc, ℤ, eqb-true, eqb-false, nil_from_length, Error, Encoding, Section, Reading, ◌>>=◌, IsUleb128, uleb128_in, uleb128_at, Abbrev, Specification, with_code, NamedValue, attribute_at, attributes_at, bind_ok, same_rest, same_value, EntryUnit, depth_after_entry, depth_after_closing, Item, depth_after, item_at, items_after, items_within, offset_of, EntryCursor, entry_abbreviation_at, next_item_at, AreAttributes, IsEntryText, AreItems, ItemsCover}
use Rattle.gimli_read.specs.Value.{section_of}
use Rattle.gimli_read.specs.ValueLaws.{IsTextAndRest}
use Rattle.gimli_read.proofs.Leb128Texts.{uleb128_alone}
use Rattle.gimli_read.proofs.AttributeTexts.{attribute_alone}
use Rattle.gimli.proofs.CursorLemmas.{abbreviation_is, item_from, item_is, item_here, next_of_item, opening_entry}

-- the text of a code
code_alone : (s rest : Section) (n : ℕ) → uleb128_at s ≡ Ok (n, rest) → (text : List ℕ) × IsUleb128 text n × IsTextAndRest s text rest
code_alone s rest n e =
    let b = bind_ok (uleb128_in s.bytes) (λ y. Ok (y.0, section_of s.endian y.1)) (n, rest) e in
    let v : b.0.0 ≡ n = same_value (b.0.0, section_of s.endian b.0.1) (n, rest) b.2 in
    let r : section_of s.endian b.0.1 ≡ rest = same_rest (b.0.0, section_of s.endian b.0.1) (n, rest) b.2 in
    let t = uleb128_alone s.bytes b.0.1 b.0.0 b.1 in
    (t.0, subst (λ k. IsUleb128 t.0 k) v t.1, ap (section_of s.endian) t.2 ∙ ap (λ u. section_of u.endian (t.0 ++ u.bytes)) r)

-- the texts of attributes
attributes_alone : (e : Encoding) (xs : List Specification) (s rest : Section) (attributes : List NamedValue) → attributes_at e xs s ≡ Ok (attributes, rest)
    → (text : List ℕ) × AreAttributes e s.endian xs text attributes × IsTextAndRest s text rest
unfolding attributes_at
attributes_alone e [] s rest attributes h =
    let none : [] ≡ attributes = same_value {A = List NamedValue} ([], s) (attributes, rest) h in
    let same : s ≡ rest = same_rest {A = List NamedValue} ([], s) (attributes, rest) h in
    ([], subst (λ ys. AreAttributes e s.endian [] [] ys) none refl, same)
attributes_alone e (x ∷ xs) s rest attributes h =
    let a = bind_ok (attribute_at e x s) (λ a. attributes_at e xs a.1 >>= λ more. Ok (a.0 ∷ more.0, more.1)) (attributes, rest) h in
    let m = bind_ok (attributes_at e xs a.0.1) (λ more. Ok (a.0.0 ∷ more.0, more.1)) (attributes, rest) a.2 in
    let all : a.0.0 ∷ m.0.0 ≡ attributes = same_value {A = List NamedValue} (a.0.0 ∷ m.0.0, m.0.1) (attributes, rest) m.2 in
    let left : m.0.1 ≡ rest = same_rest {A = List NamedValue} (a.0.0 ∷ m.0.0, m.0.1) (attributes, rest) m.2 in
    let f = attribute_alone e x s a.0.1 a.0.0 a.1 in
    let t = attributes_alone e xs a.0.1 m.0.1 m.0.0 m.1 in
    let order : s.endian ≡ a.0.1.endian = ap (λ (u : Section). u.endian) f.2 in
    let whole : IsTextAndRest s (f.0 ++ t.0) rest = f.2 ∙ ap (λ u. section_of u.endian (f.0 ++ u.bytes)) t.2 ∙ ap (section_of m.0.1.endian) (sym (append_assoc f.0 t.0 m.0.1.bytes)) ∙ ap (λ u. section_of u.endian ((f.0 ++ t.0) ++ u.bytes)) left in
    (f.0 ++ t.0, subst (λ ys. AreAttributes e s.endian (x ∷ xs) (f.0 ++ t.0) ys) all (f.0, t.0, refl, f.1, subst (λ o. AreAttributes e o xs t.0 m.0.0) (sym order) t.1), whole)

-- what is read is the text of an item
pub record IsItemText (unit : EntryUnit) (start following : EntryCursor) (x : Item) : Type 0 where
  pub text : List ℕ
  pub is : IsEntryText unit start.left.endian x.entry text
  pub rest : IsTextAndRest start.left text following.left
  pub offset : x.offset ≡ offset_of unit start.left
  pub depth : x.depth ≡ start.depth
  pub after : following.depth ≡ depth_after x

record Texts (unit : EntryUnit) (start : EntryCursor) (r : Result (Option Item × EntryCursor) Error) : Type 0 where
  by : IfOk r (λ p. (x : Item) → p.0 ≡ Some x → IsItemText unit start p.1 x)

texts : (unit : EntryUnit) (start : EntryCursor) → Texts unit start (next_item_at unit start)
texts unit start = subst (Texts unit start) (sym (item_is unit start)) (subst (λ (r : Result (Option Abbrev × EntryCursor) Error). Texts unit start (cond (length start.left.bytes == 0) (Ok (None, start)) (r >>= λ x. item_from unit start x))) (sym (abbreviation_is unit.abbreviations start)) (at (length start.left.bytes == 0)))
  where
    closing : (t : Section) → uleb128_at start.left ≡ Ok (0, t) → Texts unit start (item_from unit start (None, record { left = t; depth = depth_after_closing start.depth }))
    closing t h = record {
      by = λ x k.
          let is : item_here unit start None ≡ x = cc in
          let f = code_alone start.left t 0 h in
          subst (λ y. IsItemText unit start (record { left = t; depth = depth_after_closing start.depth }) y) is (record { text = f.0; is = f.1; rest = f.2; offset = refl; depth = refl; after = refl });
    }

    read : (code : ℕ) (t : Section) (a : Abbrev) → uleb128_at start.left ≡ Ok (code, t) → (code == 0) ≡ false → with_code code unit.abbreviations ≡ Some a
        → (r : Reading (List NamedValue)) → attributes_at unit.encoding a.attributes t ≡ r
        → Texts unit start (r >>= λ x. Ok (Some (item_here unit start (Some (record { abbreviation = a; attributes = x.0 }))), record { left = x.1; depth = depth_after_entry a.has_children start.depth }))
    read code t a h z w (Ok x) k = record {
      by = λ y q.
          let is : item_here unit start (Some (record { abbreviation = a; attributes = x.0 })) ≡ y = cc in
          let f = code_alone start.left t code h in
          let m = attributes_alone unit.encoding a.attributes t x.1 x.0 k in
          let order : start.left.endian ≡ t.endian = ap (λ (u : Section). u.endian) f.2 in
          subst (λ i. IsItemText unit start (record { left = x.1; depth = depth_after_entry a.has_children start.depth }) i) is (record {
            text = f.0 ++ m.0;
            is = (code, f.0, m.0, refl, f.1, eqb-false _ _ z, w, subst (λ o. AreAttributes unit.encoding o a.attributes m.0 x.0) (sym order) m.1);
            rest = f.2 ∙ ap (λ u. section_of u.endian (f.0 ++ u.bytes)) m.2 ∙ ap (section_of x.1.endian) (sym (append_assoc f.0 m.0 x.1.bytes));
            offset = refl;
            depth = refl;
            after = refl;
          });
    }
    read code t a h z w (Err d) k = record { by = tt }

    found : (code : ℕ) (t : Section) → uleb128_at start.left ≡ Ok (code, t) → (code == 0) ≡ false → (o : Option Abbrev) → with_code code unit.abbreviations ≡ o
        → Texts unit start (opening_entry o (record { left = t; depth = start.depth }) >>= λ x. item_from unit start x)
    found code t h z None w = record { by = tt }
    found code t h z (Some a) w = read code t a h z w (attributes_at unit.encoding a.attributes t) refl

    picked : (code : ℕ) (t : Section) → uleb128_at start.left ≡ Ok (code, t) → (b : Bool) → (code == 0) ≡ b
        → Texts unit start (cond {A = Result (Option Abbrev × EntryCursor) Error} b (Ok (None, record { left = t; depth = depth_after_closing start.depth })) (opening_entry (with_code code unit.abbreviations) (record { left = t; depth = start.depth })) >>= λ x. item_from unit start x)
    picked code t h true z = closing t (h ∙ ap (λ n. Ok (n, t)) (eqb-true _ _ z))
    picked code t h false z = found code t h z (with_code code unit.abbreviations) refl

    coded : (r : Reading ℕ) → uleb128_at start.left ≡ r
        → Texts unit start ((r >>= λ code. cond {A = Result (Option Abbrev × EntryCursor) Error} (code.0 == 0) (Ok (None, record { left = code.1; depth = depth_after_closing start.depth })) (opening_entry (with_code code.0 unit.abbreviations) (record { left = code.1; depth = start.depth }))) >>= λ x. item_from unit start x)
    coded (Ok code) h = picked code.0 code.1 h (code.0 == 0) refl
    coded (Err e) h = record { by = tt }

    at : (b : Bool) → Texts unit start (cond b (Ok (None, start)) ((uleb128_at start.left >>= λ code. cond {A = Result (Option Abbrev × EntryCursor) Error} (code.0 == 0) (Ok (None, record { left = code.1; depth = depth_after_closing start.depth })) (opening_entry (with_code code.0 unit.abbreviations) (record { left = code.1; depth = start.depth }))) >>= λ x. item_from unit start x))
    at true = record { by = λ x k. absurd cc }
    at false = coded (uleb128_at start.left) refl

ok_same : (p q : Option Item × EntryCursor) → ◌≡◌ {A = Result (Option Item × EntryCursor) Error} (Ok p) (Ok q) → p ≡ q
ok_same p q h = cc

pub text_is : (unit : EntryUnit) (start following : EntryCursor) (x : Item) → next_item_at unit start ≡ Ok (Some x, following) → IsItemText unit start following x
text_is unit start following x h = on (next_item_at unit start) (texts unit start).by h
  where
    on : (r : Result (Option Item × EntryCursor) Error) → IfOk r (λ p. (y : Item) → p.0 ≡ Some y → IsItemText unit start p.1 y) → r ≡ Ok (Some x, following) → IsItemText unit start following x
    on (Ok p) t q =
        let value : p.0 ≡ Some x = ap (λ (o : Option Item × EntryCursor). o.0) (ok_same p (Some x, following) q) in
        let rest : p.1 ≡ following = ap (λ (o : Option Item × EntryCursor). o.1) (ok_same p (Some x, following) q) in
        subst (λ c. IsItemText unit start c x) rest (t x value)
    on (Err d) t q = absurd cc

-- where the next item begins
offset_after : (unit : EntryUnit) (s rest : Section) (text : List ℕ) → length s.bytes ≤ unit.length → IsTextAndRest s text rest → offset_of unit rest ≡ offset_of unit s + length text
offset_after unit s rest text l h =
    let whole : length s.bytes ≡ length (text ++ rest.bytes) = ap (λ (u : Section). length u.bytes) h in
    omega (arith, l, whole, length-append text rest.bytes)

left_within : (unit : EntryUnit) (s rest : Section) (text : List ℕ) → length s.bytes ≤ unit.length → IsTextAndRest s text rest → length rest.bytes ≤ unit.length
left_within unit s rest text l h =
    let whole : length s.bytes ≡ length (text ++ rest.bytes) = ap (λ (u : Section). length u.bytes) h in
    omega (arith, l, whole, length-append text rest.bytes)

no_item : (x : Item) (c d : EntryCursor) → ◌≡◌ {A = Result (Option Item × EntryCursor) Error} (Ok (Some x, d)) (Ok (None, c)) → ⊥
no_item x c d h =
    let pairs : ◌≡◌ {A = Option Item × EntryCursor} (Some x, d) (None, c) = cc in
    let same : Some x ≡ None = ap (λ (p : Option Item × EntryCursor). p.0) pairs in
    cc

-- at the end of the items nothing is left
none_left : (unit : EntryUnit) (start c : EntryCursor) → next_item_at unit start ≡ Ok (None, c) → start.left.bytes ≡ []
none_left unit start c h = at (length start.left.bytes == 0) refl (sym (item_is unit start) ∙ h)
  where
    read : (a : Abbrev) (cursor : EntryCursor) (r : Reading (List NamedValue)) → ◌>>=◌ {B = Option Item × EntryCursor} r (λ x. Ok (Some (item_here unit start (Some (record { abbreviation = a; attributes = x.0 }))), record { left = x.1; depth = cursor.depth })) ≡ Ok (None, c) → ⊥
    read a cursor (Ok x) h = no_item _ _ _ h
    read a cursor (Err d) h = cc

    coded : (r : Result (Option Abbrev × EntryCursor) Error) → (r >>= λ x. item_from unit start x) ≡ Ok (None, c) → ⊥
    coded (Ok (None, cursor)) h = no_item _ _ _ h
    coded (Ok (Some a, cursor)) h = read a cursor (attributes_at unit.encoding a.attributes cursor.left) h
    coded (Err d) h = cc

    at : (b : Bool) → (length start.left.bytes == 0) ≡ b → cond b (Ok (None, start)) (entry_abbreviation_at unit.abbreviations start >>= λ x. item_from unit start x) ≡ Ok (None, c) → start.left.bytes ≡ []
    at true k h = nil_from_length _ (eqb-true _ _ k)
    at false k h = absurd (coded (entry_abbreviation_at unit.abbreviations start) h)

-- the text of an item that is read of bytes
pub item_text : (unit : EntryUnit) (depth : ℤ) (s rest : Section) (x : Item) → item_at unit depth s ≡ Ok (Some x, rest) → IsItemText unit (record { left = s; depth = depth }) (record { left = rest; depth = depth_after x }) x
item_text unit depth s rest x h = text_is unit (record { left = s; depth = depth }) (record { left = rest; depth = depth_after x }) x (next_of_item unit depth s rest (Some x) h)

-- the law, for at most n items
cover_within : (unit : EntryUnit) (n : ℕ) (depth : ℤ) (s end : Section) → length s.bytes ≤ unit.length → (items_within unit n depth s).end ≡ Ok end
    → AreItems unit s.endian (offset_of unit s) depth (items_within unit n depth s).items s.bytes
unfolding items_within
cover_within unit zero depth s end l h = absurd cc
cover_within unit (suc n) depth s end l h = at (λ z t. cover_within unit n z t end) (item_at unit depth s) refl h
  where
    Covers : Type 0
    Covers = (z : ℤ) (t : Section) → length t.bytes ≤ unit.length → (items_within unit n z t).end ≡ Ok end → AreItems unit t.endian (offset_of unit t) z (items_within unit n z t).items t.bytes

    more : Covers → (x : Item) (t : Section) → IsItemText unit (record { left = s; depth = depth }) (record { left = t; depth = depth_after x }) x → (items_within unit n (depth_after x) t).end ≡ Ok end
        → AreItems unit s.endian (offset_of unit s) depth (x ∷ (items_within unit n (depth_after x) t).items) s.bytes
    more ih x t i q =
        let order : t.endian ≡ s.endian = sym (ap (λ (u : Section). u.endian) i.rest) in
        let rest = ih (depth_after x) t (left_within unit s t i.text l i.rest) q in
        let joined : s.bytes ≡ i.text ++ t.bytes = ap (λ (u : Section). u.bytes) i.rest in
        let moved = subst (λ o. AreItems unit o (offset_of unit t) (depth_after x) (items_within unit n (depth_after x) t).items t.bytes) order rest in
        (i.text, t.bytes, joined, i.is, i.offset, i.depth, subst (λ o. AreItems unit s.endian o (depth_after x) (items_within unit n (depth_after x) t).items t.bytes) (offset_after unit s t i.text l i.rest) moved)

    at : Covers → (r : Reading (Option Item)) → item_at unit depth s ≡ r → (items_after (items_within unit n) r).end ≡ Ok end
        → AreItems unit s.endian (offset_of unit s) depth (items_after (items_within unit n) r).items s.bytes
    at ih (Err e) k q = absurd cc
    at ih (Ok (None, t)) k q = none_left unit (record { left = s; depth = depth }) (record { left = t; depth = depth }) (next_of_item unit depth s t None k)
    at ih (Ok (Some x, t)) k q = more ih x t (item_text unit depth s t x k) q

pub items_cover : ItemsCover
items_cover unit depth s end l h = cover_within unit (length s.bytes + 1) depth s end l h
