-- The first column for a section (on specs/Parts.antt).
use Rattle.package.proofs.Common.{◌≡◌, ◌∙◌, ℕ, ◌+◌, ◌<◌, ◌≤◌, ◌==◌, ◌⊎◌, inl, inr, Bool, false, cond, ltb, List, length, Option, Some, None, ap, sym, arith, slice_index, cases_lt, cond-true, cond-false, eq-eqb, le-ltb, lt-ltb, ne_eqb, position}
use Rattle.std.specs.List.{position_or_len}
use Rattle.std.proofs.lemmas.List.Sums.{position_or_len_is}

-- none of the first n numbers is this one
pub record NoneIs (numbers : List ℕ) (number n : ℕ) : Type 0 where
  pub by : (k : ℕ) → k < n → (slice_index numbers k == number) ≡ false

pub none_at_first : (numbers : List ℕ) (number : ℕ) → NoneIs numbers number 0
none_at_first numbers number = record { by = λ k l. absurd (omega arith) }

pub one_more : (numbers : List ℕ) (number n read : ℕ) → NoneIs numbers number n → read ≡ slice_index numbers n → (read ≡ number → ⊥) → NoneIs numbers number (n + 1)
one_more numbers number n read none there other = record { by = λ k l. below k l (cases_lt k n) }
  where
    below : (k : ℕ) → k < n + 1 → (k < n) ⊎ (n ≤ k) → (slice_index numbers k == number) ≡ false
    below k l (inl m) = none.by k m
    below k l (inr m) =
        let same : k ≡ n = omega arith in
        ap (λ (j : ℕ). slice_index numbers j == number) same ∙ ne_eqb _ _ (λ e. other (there ∙ e))

-- where the first stands
pub column_found : (numbers : List ℕ) (number n read : ℕ) → n < length numbers → NoneIs numbers number n → read ≡ slice_index numbers n → read ≡ number → Some n ≡ position (λ k. k == number) numbers
column_found numbers number n read l none there is =
    let p : ℕ → Bool = λ k. k == number in
    let at : position_or_len p numbers ≡ n = position_or_len_is p numbers n 0 (omega arith) none.by (λ _. eq-eqb _ _ (sym there ∙ is)) in
    sym (ap (λ (k : ℕ). cond (ltb k (length numbers)) (Some k) None) at ∙ cond-true (ltb n (length numbers)) (Some n) None (lt-ltb n (length numbers) l))

-- or there is none
pub no_column : (numbers : List ℕ) (number n : ℕ) → length numbers ≤ n → NoneIs numbers number n → ◌≡◌ {A = Option ℕ} None (position (λ k. k == number) numbers)
no_column numbers number n l none =
    let p : ℕ → Bool = λ k. k == number in
    let at : position_or_len p numbers ≡ length numbers = position_or_len_is p numbers (length numbers) 0 (omega arith) (λ k m. none.by k (omega arith)) (λ m. absurd (omega arith)) in
    sym (ap (λ (k : ℕ). cond (ltb k (length numbers)) (Some k) None) at ∙ cond-false (ltb (length numbers) (length numbers)) (Some (length numbers)) None (le-ltb (length numbers) (length numbers) (omega arith)))
