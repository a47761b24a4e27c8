-- Quotients of sums.
use Rattle.gimli_line.proofs.Common.{ℕ, ◌≡◌, ◌+◌, ◌*◌, ◌-◌, ◌^◌, ◌/◌, ◌%◌, ◌<◌, ◌≤◌, lit<, arith, ◌∙◌, ap, sym}
use Rattle.std.proofs.Math.Nat.{div-add-mod, add-mul-mod_self_left, add-mul-div_left, mul-le-mul_right, lt_of_mul-lt-mul_left, div-eq_of_lt, mod-lt}

whole : (i n m : ℕ) → i + n ≡ (n % m + i) + m * (n / m)
whole i n m = let e = div-add-mod n m in omega arith

-- the quotient of a sum, in the parts that the code adds
pub div_sum : (i n m : ℕ) → 0 < m → (i + n) / m ≡ n / m + (n % m + i) / m
div_sum i n m pos = let e = ap (λ k. k / m) (whole i n m) ∙ add-mul-div_left (n % m + i) (n / m) pos in omega arith

-- and its remainder
pub mod_sum : (i n m : ℕ) → (i + n) % m ≡ (n % m + i) % m
mod_sum i n m = ap (λ k. k % m) (whole i n m) ∙ add-mul-mod_self_left (n % m + i) m (n / m)

times_whole : (a b q s d : ℕ) → ((s + d) * a + b) * (q + 1) ≡ (a * d + b * (q + 1)) + ((s + d) * q + s) * a
times_whole a b q s d = omega arith

times_rest : (a b q s d : ℕ) → (s + d) * (a * d + b * (q + 1)) ≡ ((s + d) * a + b) * d + ((s + d) * q + s) * b
times_rest a b q s d = omega arith

-- what is left below 2^16 of a product with the reciprocal
rest_small : (a b q s d n : ℕ) → n ≡ (s + d) * a + b → 65536 ≡ (s + d) * q + s → b < s + d → s + d < 256 → n < 256 → a * d + b * (q + 1) < 65536
rest_small a b q s d n e f small range byte =
    let t : (s + d) * (a * d + b * (q + 1)) ≡ n * d + 65536 * b = times_rest a b q s d ∙ ap (λ k. k * d + ((s + d) * q + s) * b) (sym e) ∙ ap (λ k. n * d + k * b) (sym f) in
    let m : n * d ≤ 255 * d = mul-le-mul_right {m = n} {n = 255} d (omega arith) in
    lt_of_mul-lt-mul_left (s + d) (omega (arith, t, m))

by_parts : (a b q s d n : ℕ) → n ≡ (s + d) * a + b → 65536 ≡ (s + d) * q + s → b < s + d → s + d < 256 → n < 256 → n * (q + 1) / 65536 ≡ a
by_parts a b q s d n e f small range byte =
    let c : ℕ = a * d + b * (q + 1) in
    let t : n * (q + 1) ≡ c + 65536 * a = ap (λ k. k * (q + 1)) e ∙ times_whole a b q s d ∙ ap (λ k. c + k * a) (sym f) in
    let z : c / 65536 ≡ 0 = div-eq_of_lt (rest_small a b q s d n e f small range byte) in
    let g : n * (q + 1) / 65536 ≡ c / 65536 + a = ap (λ k. k / 65536) t ∙ add-mul-div_left c a (lit< tt) in
    omega (arith, g, z)

-- a division by a number below 256, through its reciprocal
pub by_reciprocal : (n r : ℕ) → 0 < r → r < 256 → n < 256 → n * (65536 / r + 1) / 65536 ≡ n / r
by_reciprocal n r some range byte =
    let s : ℕ = 65536 % r in
    let k = mod-lt 65536 some in
    let l = mod-lt n some in
    let e : s + (r - s) ≡ r = omega arith in
    let x : n ≡ (s + (r - s)) * (n / r) + n % r = sym (ap (λ m. m * (n / r) + n % r) e ∙ div-add-mod n r) in
    let y : 65536 ≡ (s + (r - s)) * (65536 / r) + s = sym (ap (λ m. m * (65536 / r) + s) e ∙ div-add-mod 65536 r) in
    by_parts (n / r) (n % r) (65536 / r) s (r - s) n x y (omega arith) (omega arith) byte

-- no quotient is greater than the number, and no product with it
pub product_small : (n m : ℕ) → n < 256 → m ≤ 65537 → n * m < 2 ^ 32
product_small n m h k =
    let a : n * m ≤ 255 * m = mul-le-mul_right {m = n} {n = 255} m (omega arith) in
    omega arith
