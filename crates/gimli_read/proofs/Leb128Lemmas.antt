-- Sums of seven bits each (on specs/Leb128.antt).
use Rattle.gimli_read.proofs.Common.{◌≡◌, ℕ, zero, suc, lit<, ◌+◌, ◌*◌, ◌%◌, ◌^◌, ◌<◌, ◌≤◌, List, [], ◌∷◌, ◌++◌, length, take, get_or, refl, sym, ap, ◌∙◌, arith, ◌-◌, pos, negsuc, ◌-ℤ◌, common_steps, take_more, sum_from, uleb128_value}
use Rattle.std.proofs.Math.Nat.{pow-suc, pow-le-pow_right, suc-mul, mul-le-mul_right}
use Rattle.std.proofs.lemmas.Nat.{pow-add, one_shl}

-- one more byte
pub sum_from-push : (from : ℕ) (bytes : List ℕ) (b : ℕ) → sum_from from (bytes ++ b ∷ []) ≡ sum_from from bytes + b % 128 * 128 ^ (from + length bytes)
unfolding sum_from
sum_from-push from [] b = grind (arith, common_steps)
sum_from-push from (x ∷ bytes) b =
    let h = sum_from-push (suc from) bytes b in
    grind (arith, common_steps, h)

digit-bound : (d p : ℕ) → d < 128 → d * p + p ≤ p * 128
digit-bound d p h = omega (arith, suc-mul d p, mul-le-mul_right {m = suc d} {n = 128} p (omega arith))

-- the sum of n bytes is below 128 ^ n
pub sum_from-bound : (from : ℕ) (bytes : List ℕ) → sum_from from bytes + 128 ^ from ≤ 128 ^ (from + length bytes)
unfolding sum_from
sum_from-bound from [] = grind (arith, common_steps)
sum_from-bound from (x ∷ bytes) =
    let h = sum_from-bound (suc from) bytes in
    let e : 128 ^ suc from ≡ 128 ^ from * 128 = pow-suc 128 from in
    let k : from + suc (length bytes) ≡ suc from + length bytes = omega arith in
    let g = digit-bound (x % 128) (128 ^ from) (omega arith) in
    rw k (omega (arith, h, e, g))

pub uleb128_value-more : (text : List ℕ) (i : ℕ) → i < length text → uleb128_value (take (i + 1) text) ≡ uleb128_value (take i text) + get_or text i 0 % 128 * 128 ^ i
uleb128_value-more text i h =
    ap uleb128_value (take_more text i 0 h) ∙ sum_from-push 0 (take i text) (get_or text i 0) ∙ grind (arith, common_steps)

pub uleb128_value-bound : (text : List ℕ) → uleb128_value text < 128 ^ length text
uleb128_value-bound text = let h : uleb128_value text + 1 ≤ 128 ^ (0 + length text) = sum_from-bound 0 text in let e : 0 + length text ≡ length text = omega arith in let g : uleb128_value text + 1 ≤ 128 ^ length text = rw e at h in omega (arith, g)

pub scale-bound : (i : ℕ) → i < 10 → 128 ^ i ≤ 128 ^ 9
scale-bound i h = pow-le-pow_right {n = 128} (lit< tt) {i = i} {j = 9} (omega arith)

pub short_scale : (i : ℕ) → i < 9 → 128 ^ i ≤ 128 ^ 8
short_scale i h = pow-le-pow_right {n = 128} (lit< tt) {i = i} {j = 8} (omega arith)

-- a number of at most nine bytes has 64 bits
pub short_fits : (text : List ℕ) → length text < 10 → uleb128_value text < 2 ^ 64
short_fits text h =
    let g : 128 ^ length text ≤ 128 ^ 9 = pow-le-pow_right {n = 128} (lit< tt) {i = length text} {j = 9} (omega arith) in
    omega (arith, g, uleb128_value-bound text)

sevens : (n : ℕ) → 2 ^ (7 * n) ≡ 128 ^ n
sevens zero = refl
sevens (suc n) =
    let e : 7 * suc n ≡ 7 * n + 7 = omega arith in
    ap (λ (k : ℕ). 2 ^ k) e ∙ pow-add 2 (7 * n) 7 ∙ ap (λ (k : ℕ). k * 128) (sevens n) ∙ sym (pow-suc 128 n)

-- a shift by seven bits for each byte
pub scale_of : (n : ℕ) → n ≤ 10 → 1 * 2 ^ (7 * n) % 2 ^ 128 ≡ 128 ^ n
scale_of n h = one_shl (7 * n) 128 (omega arith) ∙ sevens n

pub negative_is : (a b : ℕ) → a < b → pos a -ℤ pos b ≡ negsuc (b - 1 - a)
negative_is a b h = grind (arith, common_steps)

pub ruleset leb128_steps = (uleb128_value-more, uleb128_value-bound, scale-bound)
