-- What decides which range counts (on specs/Pick.antt).
use Rattle.addr2line_lines.proofs.Common.{ℕ, ◌≡◌, ◌<◌, ◌≤◌, ◌⊎◌, Bool, false, cond, ◌&&◌, List, [], ◌∷◌, Some, None, nat_le, ◌==◌, arith, inl, inr, ◌∙◌, ap, refl, All, All-head, All-tail, filter_agree, nat_tests, greatest, topmost, last, In, In-last, In-filter, In-passes, All-passing, filter-filter, greatest_is, at_or_below, candidate}
use Rattle.std.specs.List.{filter}

module _ {X : Type 0} (begin end : X → ℕ) where
  -- x begins before z, or with z and ends no later
  abbrev pub IsBefore : X → X → Type 0
  IsBefore z x = (begin x < begin z) ⊎ ((begin x ≡ begin z) × (end x ≤ end z))

  -- x has the ends of z
  abbrev pub same_ends : X → X → Bool
  same_ends z x = begin x == begin z && end x == end z

  begin_le : (z x : X) → IsBefore z x → begin x ≤ begin z
  begin_le z x h = elim h [ inl lt ↦ omega arith | inr e ↦ (let f = e.0 in omega arith) ]

  end_le : (z x : X) → begin x ≡ begin z → IsBefore z x → end x ≤ end z
  end_le z x e h = elim h [ inl lt ↦ absurd (omega arith) | inr i ↦ i.1 ]

  -- z counts where each range is past the probe or before z, and z is the last with its ends
  pub counting_is : (probe : ℕ) (xs : List X) (z : X) → All (λ x. (probe < begin x) ⊎ IsBefore z x) xs → begin z ≤ probe → last (filter (same_ends z) xs) ≡ Some z → candidate begin end probe xs ≡ Some z
  counting_is probe xs z all low is =
      let below : X → Bool = λ x. nat_le (begin x) probe in
      let bs = filter below xs in
      let i = In-filter (same_ends z) xs z (In-last (filter (same_ends z) xs) z is) in
      let before : All (IsBefore z) bs = All-passing (λ x. (probe < begin x) ⊎ IsBefore z x) (IsBefore z) below (λ x t h. elim h [ inl past ↦ absurd (grind (arith, nat_tests)) | inr b ↦ b ]) xs all in
      let inb : In z bs = In-passes below xs z i.0 (grind (arith, nat_tests)) in
      let B : greatest begin bs ≡ begin z = greatest_is begin bs z (λ k d l. begin_le z _ (before k d l)) inb in
      let first : X → Bool = λ x. begin x == begin z in
      let ts = filter first bs in
      let T : topmost begin bs ≡ ts = ap (λ n. filter (λ x. begin x == n) bs) B in
      let later : All (λ x. end x ≤ end z) ts = All-passing (IsBefore z) (λ x. end x ≤ end z) first (λ x t h. end_le z x (grind (arith, nat_tests)) h) bs before in
      let int : In z ts = In-passes first bs z inb (grind (arith, nat_tests)) in
      let E : greatest end ts ≡ end z = greatest_is end ts z later int in
      let S : topmost end ts ≡ filter (λ x. end x == end z) ts = ap (λ n. filter (λ x. end x == n) ts) E in
      let R : filter (λ x. end x == end z) ts ≡ filter (same_ends z) xs =
      filter-filter first (λ x. end x == end z) bs ∙ filter-filter below (same_ends z) xs ∙ filter_agree (λ x. below x && same_ends z x) (same_ends z) (λ x. agrees (begin x) (begin z) probe (end x == end z) low) xs in
      ap (λ (ys : List X). last (topmost end ys)) T ∙ ap last (S ∙ R) ∙ is
    where
      agrees : (a b p : ℕ) (t : Bool) → b ≤ p → (nat_le a p && (a == b && t)) ≡ (a == b && t)
      agrees a b p t h = grind (arith, nat_tests)

  -- nothing begins at or below a probe that all ranges are past
  pub beginning_none : (probe : ℕ) (xs : List X) → All (λ x. probe < begin x) xs → at_or_below begin probe xs ≡ []
  beginning_none probe [] all = refl
  beginning_none probe (x ∷ xs) all =
      let h = All-head (λ (y : X). probe < begin y) x xs all in
      let e : nat_le (begin x) probe ≡ false = grind (arith, nat_tests) in
      ap (λ b. cond b (x ∷ at_or_below begin probe xs) (at_or_below begin probe xs)) e ∙ beginning_none probe xs (All-tail (λ (y : X). probe < begin y) x xs all)

  -- nothing counts where all ranges are past the probe
  pub counting_none : (probe : ℕ) (xs : List X) → All (λ x. probe < begin x) xs → candidate begin end probe xs ≡ None
  counting_none probe xs all = ap (λ (ys : List X). last (topmost end (topmost begin ys))) (beginning_none probe xs all)
