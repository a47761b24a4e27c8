-- The first byte that passes a test, as a search tells it and as a place in a list.
use Rattle.gimli_read.proofs.Common.{◌≡◌, ℕ, ◌+◌, ◌<◌, ◌≤◌, Bool, true, false, cond, List, [], ◌∷◌, length, get_or, Option, Some, None, refl, ap, sym, ◌∙◌, arith, zero, suc, position, position_from}
use Rattle.std.specs.Prelude.{MatchOption}
use Rattle.std.proofs.lemmas.Iterator.Adapters.{position_from-zero}

module _ (test : ℕ → Bool) where
  -- where no byte passes there is no place
  none_passes : (i : ℕ) (xs : List ℕ) → ((k : ℕ) → k < length xs → test (get_or xs k 0) ≡ true → ⊥) → position_from test i xs ≡ None
  none_passes i [] h = refl
  none_passes i (x ∷ xs) h = by_cases (test x) refl (none_passes (i + 1) xs (λ k l p. h (suc k) (omega arith) p))
    where
      by_cases : (b : Bool) → test x ≡ b → position_from test (i + 1) xs ≡ None → cond b (Some i) (position_from test (i + 1) xs) ≡ None
      by_cases true e rest = absurd (h zero (omega arith) e)
      by_cases false e rest = rest

  -- the first byte that passes
  one_passes : (i : ℕ) (xs : List ℕ) (n : ℕ) → n < length xs → ((k : ℕ) → k < n → test (get_or xs k 0) ≡ true → ⊥) → test (get_or xs n 0) ≡ true → position_from test i xs ≡ Some (i + n)
  one_passes i [] n l h e = absurd (omega arith)
  one_passes i (x ∷ xs) zero l h e = ap (λ b. cond b (Some i) (position_from test (i + 1) xs)) e ∙ ap Some (let a : i ≡ i + zero = omega arith in a)
  one_passes i (x ∷ xs) (suc n) l h e = by_cases (test x) refl (one_passes (i + 1) xs n (omega arith) (λ k m p. h (suc k) (omega arith) p) e)
    where
      by_cases : (b : Bool) → test x ≡ b → position_from test (i + 1) xs ≡ Some (i + 1 + n) → cond b (Some i) (position_from test (i + 1) xs) ≡ Some (i + suc n)
      by_cases true q rest = absurd (h zero (omega arith) q)
      by_cases false q rest = rest ∙ ap Some (let a : i + 1 + n ≡ i + suc n = omega arith in a)

  -- N says of a place that it is in the list, and that no byte before it passes
  pub position_is : {N : ℕ → Type 0} (xs : List ℕ) (r : Option ℕ)
      → MatchOption r ((k : ℕ) → 0 ≤ k → k < length xs → test (get_or xs k 0) ≡ true → ⊥) (λ k. N k × (test (get_or xs k 0) ≡ true))
      → ((k : ℕ) → N k → k < length xs) → ((k : ℕ) → N k → (j : ℕ) → 0 ≤ j → j < k → test (get_or xs j 0) ≡ true → ⊥) → r ≡ position test xs
  position_is xs None h high before = sym (position_from-zero test xs ∙ none_passes 0 xs (λ k l. h k (omega arith) l))
  position_is xs (Some n) h high before = sym (position_from-zero test xs ∙ one_passes 0 xs n (high n h.0) (λ k l. before n h.0 k (omega arith) l) h.1 ∙ ap Some (let a : 0 + n ≡ n = omega arith in a))
