-- Ranges of units in order (on specs/IndexCover.antt and specs/IndexLeastBegins.antt).
use Rattle.addr2line_units.proofs.Common.{ℕ, ◌≡◌, ◌+◌, ◌≤◌, Bool, true, false, cond, not, ◌&&◌, nat_le, nat_lt, nat_cmp, List, [], ◌∷◌, get_or, arith, ◌∙◌, ap, sym, refl, zero, suc, AllByRecursion, IsSortedBy, IsSortedByKey, ties, nat_tests, ranks_by, filter_agree, in_order, IsInOrder, in_order_ordered, in_order_ties, one_order, UnitRange}
use Rattle.std.specs.Cmp.{IsStrictWeakOrder}
use Rattle.std.specs.List.{filter}
use Rattle.std.specs.Ordering.{is_lt, ordering_then}
use Rattle.std.proofs.lemmas.Cmp.{on_total, then_total, nat_cmp_total}
use Rattle.addr2line_units.specs.IndexCover.{cover, cover_range, ends_sooner, range_covers, range_overlaps}
use Rattle.addr2line_units.specs.IndexLeastBegins.{is_between}
use Rattle.addr2line_lines.proofs.Facts.{ordering_then_assoc}

-- what passes a test, in order, is what of the ordered list passes it
module _ {X : Type 0} (lt : X → X → Bool) (o : IsStrictWeakOrder lt) (p : X → Bool) where
  filter_all : (P : X → Type 0) (xs : List X) → AllByRecursion P xs → AllByRecursion P (filter p xs)
  filter_all P [] all = tt
  filter_all P (x ∷ xs) all = by_cases (p x) (filter_all P xs all.1)
    where
      by_cases : (b : Bool) → AllByRecursion P (filter p xs) → AllByRecursion P (cond b (x ∷ filter p xs) (filter p xs))
      by_cases true rest = (all.0, rest)
      by_cases false rest = rest

  pub filter_ordered : (xs : List X) → IsInOrder lt xs → IsInOrder lt (filter p xs)
  filter_ordered [] up = tt
  filter_ordered (x ∷ xs) up = by_cases (p x) (filter_ordered xs up.1)
    where
      by_cases : (b : Bool) → IsInOrder lt (filter p xs) → IsInOrder lt (cond b (x ∷ filter p xs) (filter p xs))
      by_cases true rest = (filter_all (λ y. lt y x ≡ false) xs up.0, rest)
      by_cases false rest = rest

  pub filter_swap : (q : X → Bool) (xs : List X) → filter q (filter p xs) ≡ filter p (filter q xs)
  filter_swap q [] = refl
  filter_swap q (x ∷ xs) = by_cases (p x) (q x) refl refl (filter_swap q xs)
    where
      by_cases : (b c : Bool) → p x ≡ b → q x ≡ c → filter q (filter p xs) ≡ filter p (filter q xs) → filter q (cond b (x ∷ filter p xs) (filter p xs)) ≡ filter p (cond c (x ∷ filter q xs) (filter q xs))
      by_cases true true e f rest = ap (λ d. cond d (x ∷ filter q (filter p xs)) (filter q (filter p xs))) f ∙ ap (λ ys. x ∷ ys) rest ∙ sym (ap (λ d. cond d (x ∷ filter p (filter q xs)) (filter p (filter q xs))) e)
      by_cases true false e f rest = ap (λ d. cond d (x ∷ filter q (filter p xs)) (filter q (filter p xs))) f ∙ rest
      by_cases false true e f rest = rest ∙ sym (ap (λ d. cond d (x ∷ filter p (filter q xs)) (filter p (filter q xs))) e)
      by_cases false false e f rest = rest

  pub filter_in_order : (xs : List X) → in_order lt (filter p xs) ≡ filter p (in_order lt xs)
  filter_in_order xs =
      one_order lt o _ _ (in_order_ordered lt o (filter p xs)) (filter_ordered (in_order lt xs) (in_order_ordered lt o xs))
      (λ z. in_order_ties lt o z (filter p xs) ∙ filter_swap (ties lt z) xs ∙ sym (ap (filter p) (in_order_ties lt o z xs)) ∙ sym (filter_swap (ties lt z) (in_order lt xs)))

-- by end, then by unit, then by begin is an order
pub ends_order : IsStrictWeakOrder ends_sooner
ends_order = ranks_by (then_total (on_total (λ (p : ℕ × ℕ × ℕ). p.0) nat_cmp_total) (then_total (on_total (λ (p : ℕ × ℕ × ℕ). p.1) nat_cmp_total) (on_total (λ (p : ℕ × ℕ × ℕ). p.2) nat_cmp_total))) (λ (r : UnitRange). (r.range.end, r.unit, r.range.begin))

-- a tuple compares from the left
pub by_tuple : (xs : List UnitRange)
    → IsSortedByKey (λ (r : UnitRange). (r.range.end, r.unit, r.range.begin)) (λ (a b : ℕ × ℕ × ℕ). ordering_then (ordering_then (nat_cmp a.0 b.0) (nat_cmp a.1 b.1)) (nat_cmp a.2 b.2)) xs
    → IsSortedBy ends_sooner xs
by_tuple xs up = λ k d low high.
    let a = get_or xs (k + 1) d in
    let b = get_or xs k d in
    ap is_lt (ordering_then_assoc (nat_cmp a.range.end b.range.end) (nat_cmp a.unit b.unit) (nat_cmp a.range.begin b.range.begin)) ∙ up k d low high

-- ranges that tie are the same
pub one_range : (x y : UnitRange) → ties ends_sooner x y ≡ true → y ≡ x
one_range x y h =
    let same = of_numbers x.range.end x.unit x.range.begin y.range.end y.unit y.range.begin h in
    of_parts x.unit y.unit x.range.begin y.range.begin x.range.end y.range.end same.1 same.2 same.0
  where
    of_numbers : (a b c d e f : ℕ)
        → (not (is_lt (ordering_then (nat_cmp a d) (ordering_then (nat_cmp b e) (nat_cmp c f)))) && not (is_lt (ordering_then (nat_cmp d a) (ordering_then (nat_cmp e b) (nat_cmp f c))))) ≡ true
        → (d ≡ a) × (e ≡ b) × (f ≡ c)
    of_numbers a b c d e f h = (grind (arith, nat_tests), grind (arith, nat_tests), grind (arith, nat_tests))

    of_parts : (u v b c e f : ℕ) → v ≡ u → c ≡ b → f ≡ e → ◌≡◌ {A = UnitRange} (record { unit = v; range = record { begin = c; end = f } }) (record { unit = u; range = record { begin = b; end = e } })
    of_parts u v b c e f g h k = cc

-- what covers a probe, of the ranges in order
cover_is : (probe : ℕ) (listed ranges : List UnitRange) → ranges ≡ in_order ends_sooner listed → filter (range_covers probe) ranges ≡ cover probe listed
cover_is probe listed ranges e = ap (filter (range_covers probe)) e ∙ sym (filter_in_order ends_sooner ends_order (range_covers probe) listed)

cover_range_is : (low high : ℕ) (listed ranges : List UnitRange) → ranges ≡ in_order ends_sooner listed → filter (range_overlaps low high) ranges ≡ cover_range low high listed
cover_range_is low high listed ranges e = ap (filter (range_overlaps low high)) e ∙ sym (filter_in_order ends_sooner ends_order (range_overlaps low high) listed)

-- what begins at or below the last address is what begins below the next
up_to_last : (low high last : ℕ) → high ≡ last + 1 → (ranges : List UnitRange) → filter (is_between low last) ranges ≡ filter (range_overlaps low high) ranges
up_to_last low high last e ranges = filter_agree (is_between low last) (range_overlaps low high) (λ r. of_numbers r.range.begin r.range.end) ranges
  where
    of_numbers : (b d : ℕ) → (nat_lt low d && nat_le b last) ≡ (nat_lt low d && nat_lt b high)
    of_numbers b d = grind (arith, nat_tests)

-- nothing begins below the first address
none_below_first : (low high : ℕ) → (1 ≤ high → ⊥) → (ranges : List UnitRange) → [] ≡ filter (range_overlaps low high) ranges
none_below_first low high first [] = refl
none_below_first low high first (r ∷ ranges) =
    none_below_first low high first ranges ∙ sym (ap (λ b. cond b (r ∷ filter (range_overlaps low high) ranges) (filter (range_overlaps low high) ranges)) (of_numbers r.range.begin r.range.end high first))
  where
    of_numbers : (b d n : ℕ) → (1 ≤ n → ⊥) → (nat_lt low d && nat_lt b n) ≡ false
    of_numbers b d zero f = grind (arith, nat_tests)
    of_numbers b d (suc n) f = absurd (f (omega arith))

-- what lies about one address covers it
at_probe : (probe : ℕ) (ranges : List UnitRange) → filter (is_between probe probe) ranges ≡ filter (range_covers probe) ranges
at_probe probe ranges = filter_agree (is_between probe probe) (range_covers probe) (λ r. of_numbers r.range.begin r.range.end) ranges
  where
    of_numbers : (b d : ℕ) → (nat_lt probe d && nat_le b probe) ≡ (nat_le b probe && nat_lt probe d)
    of_numbers b d = grind (arith, nat_tests)

-- what a search finds by the ranges as they are listed
pub covers_found : (probe : ℕ) (listed : List UnitRange) → filter (is_between probe probe) (in_order ends_sooner listed) ≡ cover probe listed
covers_found probe listed = at_probe probe (in_order ends_sooner listed) ∙ cover_is probe listed (in_order ends_sooner listed) refl

pub overlaps_found : (low high last : ℕ) → high ≡ last + 1 → (listed : List UnitRange) → filter (is_between low last) (in_order ends_sooner listed) ≡ cover_range low high listed
overlaps_found low high last e listed = up_to_last low high last e (in_order ends_sooner listed) ∙ cover_range_is low high listed (in_order ends_sooner listed) refl

pub none_overlaps : (low high : ℕ) → (1 ≤ high → ⊥) → (listed : List UnitRange) → [] ≡ cover_range low high listed
none_overlaps low high first listed = none_below_first low high first (in_order ends_sooner listed) ∙ cover_range_is low high listed (in_order ends_sooner listed) refl
