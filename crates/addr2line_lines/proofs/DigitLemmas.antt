-- How the number of binary digits grows (on specs/Digits.antt).
use Rattle.addr2line_lines.proofs.Common.{ℕ, ◌≡◌, ◌+◌, ◌/◌, ◌<◌, ◌≤◌, ◌^◌, length, arith, subst}
use Rattle.std.proofs.lemmas.Int.Digits.{length-digits_of_step, length-digits_of-le, number_lt, number_digits_of, all_below_base_digits_of}
use Rattle.std.specs.Int.Digits.{digits_of}
use Rattle.addr2line_lines.specs.Digits.{digits}

below_power : (n : ℕ) → n < 2 ^ length (digits_of 2 n)
below_power n =
    let P : ℕ → Type 0 = λ m. m < 2 ^ length (digits_of 2 n) in
    subst P (number_digits_of 2 n (omega arith)) (number_lt 2 (digits_of 2 n) (all_below_base_digits_of 2 n (omega arith)))

pub digits_le : (m n : ℕ) → m ≤ n → digits m ≤ digits n
unfolding digits
digits_le m n h = let w = below_power n in length-digits_of-le 2 (length (digits_of 2 n)) m (omega arith) (omega arith)

digits_step : (n : ℕ) → 0 < n → digits n ≡ digits (n / 2) + 1
unfolding digits
digits_step n pos = length-digits_of_step 2 n (omega arith) pos

-- one step of halving
pub digits_half : (m n : ℕ) → 0 < n → m ≤ n / 2 → digits m + 1 ≤ digits n
digits_half m n pos h = let e = digits_step n pos in let l = digits_le m (n / 2) h in omega arith
