-- Numbers that fit, and where tables end (on specs/Index.antt and specs/Search.antt).
use Rattle.package.proofs.Common.{◌≡◌, ◌∙◌, ℕ, ◌+◌, ◌-◌, ◌*◌, ◌/◌, ◌^◌, ◌<◌, ◌≤◌, ◌⊎◌, inl, inr, ap, sym, arith, ltb, cases_lt, le-ltb, lt-ltb}
use Rattle.std.specs.Prelude.{bit_or}
use Rattle.std.proofs.lemmas.Nat.{mul-le, or_lt}

-- a number of 32 bits, made odd
pub odd_fits : (n : ℕ) → n < 2 ^ 32 → bit_or n 1 < 2 ^ 32
odd_fits n l = or_lt 32 n 1 l (omega arith)

-- the product of two numbers of 32 bits leaves room for a third
pub product_fits : (a b : ℕ) → a < 2 ^ 32 → b < 2 ^ 32 → a * b + 2 ^ 32 ≤ 2 ^ 64
product_fits a b l k =
    let p : a * b ≤ (2 ^ 32 - 1) * (2 ^ 32 - 1) = mul-le a b (2 ^ 32 - 1) (2 ^ 32 - 1) (omega arith) (omega arith) in
    omega (arith, p)

-- so many bytes are too few for two tables of so many numbers of four bytes
pub ends_by : (front cells len : ℕ) → front ≤ len → ltb ((len - front) / 8) cells ≡ ltb len (front + 4 * cells + 4 * cells)
ends_by front cells len h = by (cases_lt len (front + 4 * cells + 4 * cells))
  where
    by : (len < front + 4 * cells + 4 * cells) ⊎ (front + 4 * cells + 4 * cells ≤ len) → ltb ((len - front) / 8) cells ≡ ltb len (front + 4 * cells + 4 * cells)
    by (inl l) = lt-ltb ((len - front) / 8) cells (omega arith) ∙ sym (lt-ltb len (front + 4 * cells + 4 * cells) l)
    by (inr l) = le-ltb ((len - front) / 8) cells (omega arith) ∙ sym (le-ltb len (front + 4 * cells + 4 * cells) l)

-- the product of the same numbers
pub same_product : (a b x y : ℕ) → a ≡ x → b ≡ y → a * b ≡ x * y
same_product a b x y e f = ap (λ (n : ℕ). n * b) e ∙ ap (λ (n : ℕ). x * n) f
