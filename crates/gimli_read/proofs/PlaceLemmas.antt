-- An abbreviation is found by its place or by its pair (on specs/AbbreviationPlaces.antt).
use Rattle.gimli_read.proofs.Common.{◌≡◌, ◌≢◌, ℕ, zero, suc, List, [], ◌∷◌, ◌++◌, length, Option, Some, None, Bool, true, false, cond, ◌==◌, ◌⊎◌, inl, inr, refl, ap, sym, ◌∙◌, slice_get, eqb-true, Abbrev, with_code, HasDistinctCodes}
use Rattle.std.specs.Int.{abs_diff}
use Rattle.std.specs.Ordering.{nat_cmp, is_eq}
use Rattle.std.specs.declared.cmp.Ordering.{Ordering}
use Rattle.std.specs.declared.cmp.Ordering.TheVariants.{Less, Equal, Greater}
use Rattle.std.proofs.lemmas.Map.Lookups.{exact_unsigned}
use Rattle.std.proofs.lemmas.Bool.{eq-eqb}
use Rattle.std.specs.BTreeMap.{BTreeMap, get}
use Rattle.gimli_read.specs.AbbreviationPlaces.{if_coded, first_code_with, IsPlaced, IsSameApart}

-- what stands anywhere with a code is the abbreviation of the code
pub coded_found : (table : List Abbrev) → HasDistinctCodes table → (code i : ℕ) (a : Abbrev) → if_coded code (slice_get table i) ≡ Some a → with_code code table ≡ Some a
coded_found [] d code i a h = absurd cc
coded_found (x ∷ table) d code zero a h = at (x.code == code) h
  where
    at : (b : Bool) → cond b (Some x) None ≡ Some a → cond b (Some x) (with_code code table) ≡ Some a
    at true h = h
    at false h = absurd cc
coded_found (x ∷ table) d code (suc i) a h = at (x.code == code) refl (coded_found table d.1 code i a h)
  where
    at : (b : Bool) → (x.code == code) ≡ b → with_code code table ≡ Some a → cond b (Some x) (with_code code table) ≡ Some a
    at true e k = absurd (let c : with_code code table ≡ None = ap (λ n. with_code n table) (sym (eqb-true x.code code e)) ∙ d.0 in cc)
    at false e k = k

-- the abbreviation of a code has that code, and stands somewhere
pub found_coded : (table : List Abbrev) (code : ℕ) (a : Abbrev) → with_code code table ≡ Some a → (i : ℕ) × (slice_get table i ≡ Some a) × (a.code ≡ code)
found_coded [] code a h = absurd cc
found_coded (x ∷ table) code a h = at (x.code == code) refl h (found_coded table code a)
  where
    at : (b : Bool) → (x.code == code) ≡ b → cond b (Some x) (with_code code table) ≡ Some a → (with_code code table ≡ Some a → (i : ℕ) × (slice_get table i ≡ Some a) × (a.code ≡ code)) → (i : ℕ) × (slice_get (x ∷ table) i ≡ Some a) × (a.code ≡ code)
    at true e h more = let k : x ≡ a = cc in (0, h, ap (λ (y : Abbrev). y.code) (sym k) ∙ eqb-true x.code code e)
    at false e h more = let m = more h in (suc m.0, m.1, m.2)

-- what stands somewhere with its code
coded_itself : (o : Option Abbrev) (a : Abbrev) → o ≡ Some a → if_coded a.code o ≡ Some a
coded_itself o a e = ap (if_coded a.code) e ∙ ap (λ b. cond b (Some a) None) (eq-eqb a.code a.code refl)

-- what a pair of the map leads to
abbrev pub led_to : ℕ → List Abbrev → Option ℕ → Option Abbrev
led_to code table None = None
led_to code table (Some i) = if_coded code (slice_get table i)

-- an abbreviation that stands not where its code says is where the map leads to
pub displaced_found : (table : List Abbrev) (first : ℕ) (displaced : BTreeMap ℕ ℕ) → HasDistinctCodes table → IsPlaced table first displaced → (code : ℕ) → if_coded code (slice_get table (abs_diff first code)) ≡ None → led_to code table (get nat_cmp displaced code) ≡ with_code code table
displaced_found table first displaced d p code h = by_cases (with_code code table) refl
  where
    nowhere : with_code code table ≡ None → (i : ℕ) (o : Option Abbrev) → if_coded code (slice_get table i) ≡ o → if_coded code (slice_get table i) ≡ None
    nowhere e i None k = k
    nowhere e i (Some a) k = absurd (let c = coded_found table d code i a k in cc)

    none : with_code code table ≡ None → (o : Option ℕ) → led_to code table o ≡ None
    none e None = refl
    none e (Some i) = nowhere e i (if_coded code (slice_get table i)) refl

    not_there : (a : Abbrev) (i : ℕ) → slice_get table i ≡ Some a → a.code ≡ code → abs_diff first a.code ≡ i → ⊥
    not_there a i s c e =
        let place = abs_diff first code in
        let at : place ≡ i = ap (abs_diff first) (sym c) ∙ e in
        let there : slice_get table place ≡ Some a = ap (slice_get table) at ∙ s in
        let held : if_coded code (slice_get table place) ≡ Some a = ap (λ n. if_coded n (slice_get table place)) (sym c) ∙ coded_itself (slice_get table place) a there in
        let clash : None ≡ Some a = sym h ∙ held in
        absurd cc

    some : (a : Abbrev) (i : ℕ) → slice_get table i ≡ Some a → a.code ≡ code → led_to code table (get nat_cmp displaced code) ≡ Some a
    some a i s c =
        let pair : get nat_cmp displaced code ≡ Some i = ap (get nat_cmp displaced) (sym c) ∙ p i a s (not_there a i s c) in
        ap (led_to code table) pair ∙ ap (λ n. if_coded n (slice_get table i)) (sym c) ∙ coded_itself (slice_get table i) a s

    by_cases : (o : Option Abbrev) → with_code code table ≡ o → led_to code table (get nat_cmp displaced code) ≡ o
    by_cases None e = none e (get nat_cmp displaced code)
    by_cases (Some a) e = let f = found_coded table code a e in some a f.0 f.1 f.2

-- what stands in a table with one more abbreviation
pushed : (table : List Abbrev) (a x : Abbrev) (i : ℕ) → slice_get (table ++ a ∷ []) i ≡ Some x → (slice_get table i ≡ Some x) ⊎ ((i ≡ length table) × (a ≡ x))
pushed [] a x zero e = inr (refl, cc)
pushed [] a x (suc i) e = absurd cc
pushed (y ∷ table) a x zero e = inl e
pushed (y ∷ table) a x (suc i) e = more (pushed table a x i e)
  where
    more : (slice_get table i ≡ Some x) ⊎ ((i ≡ length table) × (a ≡ x)) → (slice_get table i ≡ Some x) ⊎ ((suc i ≡ suc (length table)) × (a ≡ x))
    more (inl s) = inl s
    more (inr k) = inr (ap suc k.0, k.1)

-- a code that the table hasn't, at no place
not_among : (table : List Abbrev) → HasDistinctCodes table → (code : ℕ) → with_code code table ≡ None → (i : ℕ) (x : Abbrev) → slice_get table i ≡ Some x → code ≢ x.code
not_among table d code n i x s e =
    let k : with_code x.code table ≡ Some x = coded_found table d x.code i x (coded_itself (slice_get table i) x s) in
    let c : with_code x.code table ≡ None = ap (λ m. with_code m table) (sym e) ∙ n in
    let clash : None ≡ Some x = sym c ∙ k in
    absurd cc

-- two numbers that differ do not compare equal
pub apart_cmp : (m n : ℕ) → (n ≢ m) → is_eq (nat_cmp m n) ≡ false
apart_cmp m n ne = at (nat_cmp m n) refl
  where
    at : (o : Ordering) → nat_cmp m n ≡ o → is_eq o ≡ false
    at Less e = refl
    at Equal e = absurd (ne (sym (exact_unsigned m n e)))
    at Greater e = refl

-- the first code of a table that is to have one more, of which `seen` is a copy
pub placed_first : (table seen : List Abbrev) (first code new : ℕ) (displaced : BTreeMap ℕ ℕ) → seen ≡ table → new ≡ first_code_with seen first code → IsPlaced table first displaced → IsPlaced table new displaced
placed_first table seen first code new displaced e is p = rw (is, e) (with table p)
  where
    with : (table : List Abbrev) → IsPlaced table first displaced → IsPlaced table (first_code_with table first code) displaced
    with [] p = λ i x s ne. absurd cc
    with (a ∷ table) p = p

-- where a new code leads says nothing of what stands
pub placed_apart : (table : List Abbrev) (first : ℕ) (old new : BTreeMap ℕ ℕ) (code : ℕ) → HasDistinctCodes table → IsPlaced table first old → with_code code table ≡ None → IsSameApart code old new → IsPlaced table first new
placed_apart table first old new code d p n same = λ i x s ne. same x.code (λ e. not_among table d code n i x s (sym e)) ∙ p i x s ne

-- one more abbreviation, where its code says or paired
pub placed-push : (table : List Abbrev) (first : ℕ) (displaced : BTreeMap ℕ ℕ) (a : Abbrev) → IsPlaced table first displaced → (abs_diff first a.code ≢ length table → get nat_cmp displaced a.code ≡ Some (length table)) → IsPlaced (table ++ a ∷ []) first displaced
placed-push table first displaced a p q = λ i x s ne. at i x ne (pushed table a x i s)
  where
    at : (i : ℕ) (x : Abbrev) → abs_diff first x.code ≢ i → (slice_get table i ≡ Some x) ⊎ ((i ≡ length table) × (a ≡ x)) → get nat_cmp displaced x.code ≡ Some i
    at i x ne (inl s) = p i x s ne
    at i x ne (inr k) = rw (sym k.1, k.0) (q (λ e. ne (ap (λ (y : Abbrev). abs_diff first y.code) (sym k.1) ∙ e ∙ sym k.0)))
