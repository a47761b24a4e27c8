-- Lists in order do not fall (on specs/InOrder.antt).
use Rattle.addr2line_lines.proofs.Common.{ℕ, ◌≡◌, ◌-◌, ◌≤◌, false, nat_cmp, List, [], ◌∷◌, length, arith, ◌∙◌, ap, sym, refl, zero, suc, AllByRecursion, IsNonDecreasingBy, is_lt, ordering_then, nat_tests, All-from_recursion, begins_sooner, IsInOrder, last}
use Rattle.std.specs.List.{slice_get}

-- the last element stands before the length
pub last_is : {X : Type 0} (xs : List X) → last xs ≡ slice_get xs (length xs - 1)
last_is [] = refl
last_is (x ∷ []) = refl
last_is (x ∷ y ∷ ys) =
    let i : length (x ∷ y ∷ ys) - 1 ≡ suc (length ys) = omega arith in
    let j : length (y ∷ ys) - 1 ≡ length ys = omega arith in
    last_is (y ∷ ys) ∙ ap (slice_get (y ∷ ys)) j ∙ sym (ap (slice_get (x ∷ y ∷ ys)) i)

module _ {X : Type 0} (n : X → ℕ) where
  -- no number is above a later one
  abbrev pub Up : List X → Type 0
  Up [] = Unit {0}
  Up (x ∷ xs) = AllByRecursion (λ y. n x ≤ n y) xs × Up xs

  pub non_decreasing : (xs : List X) → Up xs → IsNonDecreasingBy n xs
  non_decreasing [] up i j d le l = absurd (omega arith)
  non_decreasing (x ∷ xs) up zero zero d le l = omega arith
  non_decreasing (x ∷ xs) up zero (suc j) d le l = All-from_recursion (λ (y : X). n x ≤ n y) xs up.0 j d (omega arith)
  non_decreasing (x ∷ xs) up (suc i) zero d le l = absurd (omega arith)
  non_decreasing (x ∷ xs) up (suc i) (suc j) d le l = non_decreasing xs up.1 i j d (omega arith) (omega arith)

-- ranges in order begin in order
module _ {X : Type 0} (begin end : X → ℕ) where
  not_before : (x : X) (ys : List X) → AllByRecursion (λ y. begins_sooner begin end y x ≡ false) ys → AllByRecursion (λ y. begin x ≤ begin y) ys
  not_before x [] all = tt
  not_before x (y ∷ ys) all = (of_numbers (begin y) (end y) (begin x) (end x) all.0, not_before x ys all.1)
    where
      of_numbers : (a b c d : ℕ) → is_lt (ordering_then (nat_cmp a c) (nat_cmp b d)) ≡ false → c ≤ a
      of_numbers a b c d e = grind (arith, nat_tests)

  up_of : (xs : List X) → IsInOrder (begins_sooner begin end) xs → Up begin xs
  up_of [] o = tt
  up_of (x ∷ xs) o = (not_before x xs o.0, up_of xs o.1)

  pub begins_rise : (xs : List X) → IsInOrder (begins_sooner begin end) xs → IsNonDecreasingBy begin xs
  begins_rise xs o = non_decreasing begin xs (up_of xs o)
