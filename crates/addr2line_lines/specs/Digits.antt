-- Numbers in base 2.
use Rattle.std.specs.Prelude.{ℕ, length}
use Rattle.std.specs.Int.Digits.{digits_of}

-- the number of binary digits of n, none for 0
unfoldable pub digits : ℕ → ℕ
digits n = length (digits_of 2 n)
