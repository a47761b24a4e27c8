-- Values of digits: one digit more, and none less.
use Rattle.std.proofs.Common.{◌≡◌, ℕ, ◌+◌, ◌*◌, ◌^◌, ◌<◌, ◌≤◌, List, [], ◌∷◌, length, drop, get_or, arith, add-one, drop-cons}
use Rattle.std.proofs.Common.{refl}
use Rattle.std.proofs.Math.Nat.{mul-le-mul_left}
use Rattle.rust_v0.specs.Numbers.{digit_of, value_from}

-- the digit at a place, and those after it
pub value_more : (base i : ℕ) (digits : List ℕ) (n : ℕ) → i < length digits
    → value_from base n (drop i digits) ≡ value_from base (n * base + digit_of (get_or digits i 0)) (drop (i + 1) digits)
value_more base i digits n lt = rw (add-one, drop-cons digits i 0) refl

-- digits never make a number smaller
value_le : (base n : ℕ) (digits : List ℕ) → 1 ≤ base → n ≤ value_from base n digits
value_le base n [] pos = omega arith
value_le base n (c ∷ digits) pos =
    let more : n * base + digit_of c ≤ value_from base (n * base + digit_of c) digits = value_le base (n * base + digit_of c) digits pos in
    let here : n * 1 ≤ n * base = mul-le-mul_left n pos in
    omega (arith, more, here)

pub value_past : (base i : ℕ) (digits : List ℕ) (n : ℕ) → 1 ≤ base → i < length digits
    → 2 ^ 64 ≤ n * base + digit_of (get_or digits i 0)
    → 2 ^ 64 ≤ value_from base n (drop i digits)
value_past base i digits n pos lt h =
    let more : n * base + digit_of (get_or digits i 0) ≤ value_from base (n * base + digit_of (get_or digits i 0)) (drop (i + 1) digits) = value_le base _ (drop (i + 1) digits) pos in
    rw (value_more base i digits n lt) (omega (arith, more, h))
