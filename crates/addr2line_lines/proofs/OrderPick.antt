-- What counts among ranges in order (on specs/Pick.antt and specs/InOrder.antt).
use Rattle.addr2line_lines.proofs.Common.{ℕ, ◌≡◌, ◌<◌, ◌≤◌, ◌⊎◌, Bool, false, cond, not, ◌&&◌, ◌==◌, nat_cmp, nat_le, List, [], ◌∷◌, Some, None, arith, inl, inr, ◌∙◌, ap, sym, refl, is_lt, ordering_then, AllByRecursion, ties, cases_lt, nat_tests, All-from_recursion, filter_agree, in_order, begins_sooner, IsInOrder, OrderIsFree, last, at_or_below, candidate, if_past, In-filter, In-last, last-cond, le-leb}
use Rattle.std.specs.List.{filter}
use Rattle.std.specs.Option.{option_and_then}
use Rattle.addr2line_lines.proofs.PickLemmas.{IsBefore, same_ends, beginning_none, counting_is, counting_none}
use Rattle.addr2line_lines.proofs.OrderLemmas.{in_order_all_back, in_order_ordered, in_order_ties, begins_order, All-in}
use Rattle.addr2line_lines.proofs.Facts.{both_same}

module _ {X : Type 0} (begin end : X → ℕ) where
  abbrev sooner : X → X → Bool
  sooner x y = begins_sooner begin end x y

  -- the range is past the probe
  abbrev PastAll : ℕ → List X → Type 0
  PastAll probe ys = AllByRecursion (λ y. probe < begin y) ys

  before_of : (z y : X) → sooner z y ≡ false → IsBefore begin end z y
  before_of z y h = of_numbers (begin z) (end z) (begin y) (end y) h
    where
      of_numbers : (a b c d : ℕ) → is_lt (ordering_then (nat_cmp a c) (nat_cmp b d)) ≡ false → (c < a) ⊎ ((c ≡ a) × (d ≤ b))
      of_numbers a b c d e = grind (arith, nat_tests)

  ties_are : (z x : X) → same_ends begin end z x ≡ ties sooner z x
  ties_are z x = of_numbers (begin z) (end z) (begin x) (end x)
    where
      of_numbers : (a b c d : ℕ) → (c == a && d == b) ≡ (not (is_lt (ordering_then (nat_cmp a c) (nat_cmp b d))) && not (is_lt (ordering_then (nat_cmp c a) (nat_cmp d b))))
      of_numbers a b c d = grind (arith, nat_tests)

  -- a range counts in ys, in the form that `counting_is` takes, and is the last that begins at or
  -- below the probe
  record Counts (probe : ℕ) (ys : List X) : Type 0 where
    it : X
    before : AllByRecursion (λ y. (probe < begin y) ⊎ IsBefore begin end it y) ys
    low : begin it ≤ probe
    is : last (filter (same_ends begin end it) ys) ≡ Some it
    at : last (at_or_below begin probe ys) ≡ Some it

  none_same : (probe : ℕ) (z : X) (ys : List X) → begin z ≤ probe → PastAll probe ys → filter (same_ends begin end z) ys ≡ []
  none_same probe z [] low all = refl
  none_same probe z (y ∷ ys) low all =
      ap (λ b. cond b (y ∷ filter (same_ends begin end z) ys) (filter (same_ends begin end z) ys)) (differs (begin y) (begin z) (end y == end z) probe low all.0) ∙ none_same probe z ys low all.1
    where
      differs : (a b : ℕ) (t : Bool) (p : ℕ) → b ≤ p → p < a → (a == b && t) ≡ false
      differs a b t p h l = grind (arith, nat_tests)

  past_or_before : (probe : ℕ) (z : X) (ys : List X) → PastAll probe ys → AllByRecursion (λ y. (probe < begin y) ⊎ IsBefore begin end z y) ys
  past_or_before probe z [] all = tt
  past_or_before probe z (y ∷ ys) all = (inl all.0, past_or_before probe z ys all.1)

  none_by : (probe : ℕ) (ys : List X) → PastAll probe ys → at_or_below begin probe ys ≡ []
  none_by probe ys past = beginning_none begin end probe ys (All-from_recursion (λ (y : X). probe < begin y) ys past)

  -- the first range counts where all later ones are past the probe
  first_counts : (probe : ℕ) (y : X) (ys : List X) → PastAll probe ys → begin y ≤ probe → Counts probe (y ∷ ys)
  first_counts probe y ys past le = record {
    it = y;
    before = (inr (inr (refl, omega arith)), past_or_before probe y ys past);
    low = le;
    is = ap (λ b. last (cond b (y ∷ filter (same_ends begin end y) ys) (filter (same_ends begin end y) ys))) (both_same (begin y) (end y)) ∙ ap (λ zs. last (y ∷ zs)) (none_same probe y ys le past);
    at = ap (λ b. last (cond b (y ∷ at_or_below begin probe ys) (at_or_below begin probe ys))) (le-leb (begin y) probe le) ∙ ap (λ zs. last (y ∷ zs)) (none_by probe ys past);
  }

  -- what counts among the later ranges counts
  later_counts : (probe : ℕ) (y : X) (ys : List X) → IsInOrder sooner (y ∷ ys) → Counts probe ys → Counts probe (y ∷ ys)
  later_counts probe y ys up c =
      let i = (In-filter (same_ends begin end c.it) ys c.it (In-last (filter (same_ends begin end c.it) ys) c.it c.is)).0 in
      let ge = All-in (λ w. sooner w y ≡ false) ys c.it up.0 i in
      record {
        it = c.it;
        before = (inr (before_of c.it y ge), c.before);
        low = c.low;
        is = last-cond (same_ends begin end c.it y) y c.it (filter (same_ends begin end c.it) ys) c.is;
        at = last-cond (nat_le (begin y) probe) y c.it (at_or_below begin probe ys) c.at;
      }

  -- something counts, or all ranges are past the probe
  split : (probe : ℕ) (ys : List X) → IsInOrder sooner ys → PastAll probe ys ⊎ Counts probe ys
  split probe [] up = inl tt
  split probe (y ∷ ys) up =
      elim (split probe ys up.1) [
        | inr c ↦ inr (later_counts probe y ys up c)
        | inl past ↦ elim (cases_lt probe (begin y)) [ inl lt ↦ inl (lt, past) | inr le ↦ inr (first_counts probe y ys past le) ]
      ]

  none_counts : (probe : ℕ) (ys : List X) → PastAll probe ys → candidate begin end probe ys ≡ None
  none_counts probe ys past = counting_none begin end probe ys (All-from_recursion (λ (y : X). probe < begin y) ys past)

  it_counts : (probe : ℕ) (ys : List X) (c : Counts probe ys) → candidate begin end probe ys ≡ Some c.it
  it_counts probe ys c = counting_is begin end probe ys c.it (All-from_recursion (λ y. (probe < begin y) ⊎ IsBefore begin end c.it y) ys c.before) c.low c.is

  -- of ranges in order the last that begins at or below the probe counts
  pub candidate_ordered : (probe : ℕ) (ys : List X) → IsInOrder sooner ys → candidate begin end probe ys ≡ last (at_or_below begin probe ys)
  candidate_ordered probe ys up =
      elim (split probe ys up) [
        | inl past ↦ none_counts probe ys past ∙ ap last (sym (none_by probe ys past))
        | inr c ↦ it_counts probe ys c ∙ sym c.at
      ]

  -- what counts among ranges as they are listed is what counts among them in order
  pub counting_in_order : (probe : ℕ) (xs : List X) → candidate begin end probe (in_order sooner xs) ≡ candidate begin end probe xs
  counting_in_order probe xs =
      let o = begins_order begin end in
      let ys : List X = in_order sooner xs in
      elim (split probe ys (in_order_ordered sooner o xs)) [
        | inl past ↦ none_counts probe ys past ∙ sym (none_counts probe xs (in_order_all_back sooner (λ (y : X). probe < begin y) xs past))
        | inr c ↦ (
            let P : X → Type 0 = λ y. (probe < begin y) ⊎ IsBefore begin end c.it y in
            let e : filter (same_ends begin end c.it) xs ≡ filter (same_ends begin end c.it) ys =
            filter_agree (same_ends begin end c.it) (ties sooner c.it) (ties_are c.it) xs ∙ sym (in_order_ties sooner o c.it xs) ∙ sym (filter_agree (same_ends begin end c.it) (ties sooner c.it) (ties_are c.it) ys) in
            it_counts probe ys c ∙ sym (counting_is begin end probe xs c.it (All-from_recursion P xs (in_order_all_back sooner P xs c.before)) c.low (ap last e ∙ c.is)))
      ]

  pub pick_in_order : OrderIsFree begin end
  pick_in_order probe xs = ap (option_and_then (if_past end probe)) (counting_in_order probe xs)
