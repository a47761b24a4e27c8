-- Numbers of one byte and of two (on specs/Leb128.antt).
use Rattle.gimli_read.proofs.Common.{◌≡◌, ℕ, zero, suc, ◌+◌, ◌*◌, ◌%◌, ◌<◌, ◌≤◌, ◌^◌, List, [], ◌∷◌, length, drop, get_or, Some, Ok, true, refl, sym, ap, ◌∙◌, ◌⊎◌, inl, inr, arith, pos, negsuc, ◌-◌, ◌-ℤ◌, w64, to_z, of_z, ◌/◌, rules, lt-ltb, le-ltb, cases_lt, slice_get, common_steps, fits_i64, uleb128_value, sleb128_value, uleb128_in, sleb128_in, sum_from, IsLeb128Text}
use Rattle.std.proofs.Math.Facts.{to_z_pos}
use Rattle.std.proofs.lemmas.Int.{to_z-of_z}
use Rattle.gimli_read.proofs.Leb128Texts.{uleb128_reads, sleb128_reads}

-- a byte below 128 is the text of a number
pub byte_text : (b : ℕ) → b < 128 → IsLeb128Text (b ∷ [])
byte_text b h = record {
  some = omega arith;
  at_most_ten = omega arith;
  continued = λ k l. absurd (omega arith);
  ended = h;
}

pub byte_value : (b : ℕ) → b < 128 → b ≡ uleb128_value (b ∷ [])
unfolding sum_from
byte_value b h = grind (arith, common_steps)

pub unsigned_byte : (bytes : List ℕ) (b : ℕ) → slice_get bytes 0 ≡ Some b → b < 128 → uleb128_in bytes ≡ Ok (b, drop 1 bytes)
unsigned_byte [] b e h = absurd cc
unsigned_byte (x ∷ rest) b e h =
    let same : x ≡ b = cc in
    ap (λ y. uleb128_in (y ∷ rest)) same ∙ uleb128_reads (b ∷ []) rest b (byte_text b h, byte_value b h, omega arith)

-- a byte from 128 on, and one below it, are the text of a number
pub pair_text : (a b : ℕ) → 128 ≤ a → b < 128 → IsLeb128Text (a ∷ b ∷ [])
pair_text a b h k = record {
  some = omega arith;
  at_most_ten = omega arith;
  continued = first;
  ended = k;
}
  where
    first : (i : ℕ) → i + 1 < 2 → 128 ≤ get_or (a ∷ b ∷ []) i 0
    first zero l = h
    first (suc i) l = absurd (omega arith)

pub pair_value : (a b : ℕ) → b < 128 → a % 128 + b * 128 ≡ uleb128_value (a ∷ b ∷ [])
unfolding sum_from
pair_value a b k = grind (arith, common_steps)

pub unsigned_pair : (bytes : List ℕ) → 2 ≤ length bytes → 128 ≤ get_or bytes 0 0 → get_or bytes 1 0 < 128 → uleb128_in bytes ≡ Ok (get_or bytes 0 0 % 128 + get_or bytes 1 0 * 128, drop 2 bytes)
unsigned_pair [] l h k = absurd (omega arith)
unsigned_pair (a ∷ []) l h k = absurd (omega arith)
unsigned_pair (a ∷ b ∷ rest) l h k = uleb128_reads (a ∷ b ∷ []) rest (a % 128 + b * 128) (pair_text a b h k, pair_value a b k, omega arith)

positive_is : (b : ℕ) → b < 64 → pos b ≡ sleb128_value (b ∷ [])
positive_is b h = rw (lt-ltb b 64 h) (ap pos (byte_value b (omega arith)))

negative_byte_is : (b : ℕ) → 64 ≤ b → b < 128 → pos b -ℤ pos 128 ≡ sleb128_value (b ∷ [])
negative_byte_is b k h = rw (le-ltb b 64 k) (ap (λ n. pos n -ℤ pos 128) (byte_value b h))

below_zero : (b : ℕ) → b < 128 → pos b -ℤ pos 128 ≡ negsuc (127 - b)
below_zero b h = grind (arith, common_steps)

value_fits : (b : ℕ) → b < 128 → fits_i64 (sleb128_value (b ∷ [])) ≡ true
value_fits b h = by_sign (cases_lt b 64)
  where
    by_sign : (b < 64) ⊎ (64 ≤ b) → fits_i64 (sleb128_value (b ∷ [])) ≡ true
    by_sign (inl l) = let big : b < 2 ^ 63 = omega arith in ap fits_i64 (sym (positive_is b l)) ∙ lt-ltb b (2 ^ 63) big
    by_sign (inr k) = let big : 127 - b < 2 ^ 63 = omega arith in ap fits_i64 (sym (negative_byte_is b k h) ∙ below_zero b h) ∙ lt-ltb (127 - b) (2 ^ 63) big

-- a small difference is one of signed numbers
difference_is : (m n : ℕ) → m < 128 → n ≤ 128 → to_z w64 (of_z w64 (to_z w64 m -ℤ to_z w64 n)) ≡ pos m -ℤ pos n
difference_is m n h k =
    let m_big : m < 2 ^ 63 = omega arith in
    let n_big : n < 2 ^ 63 = omega arith in
    rw (to_z_pos w64 m_big, to_z_pos w64 n_big) (to_z-of_z w64 (pos m -ℤ pos n) (search rules))

-- the sign is 128 times bit 6
pub sign_value : (b : ℕ) → b < 128 → to_z w64 (of_z w64 (to_z w64 b -ℤ to_z w64 (b / 64 * 128))) ≡ sleb128_value (b ∷ [])
sign_value b h = by_sign (cases_lt b 64)
  where
    by_sign : (b < 64) ⊎ (64 ≤ b) → to_z w64 (of_z w64 (to_z w64 b -ℤ to_z w64 (b / 64 * 128))) ≡ sleb128_value (b ∷ [])
    by_sign (inl l) =
        let sign : b / 64 * 128 ≡ 0 = omega arith in
        let whole : pos b -ℤ pos 0 ≡ pos b = grind (arith, common_steps) in
        rw sign (difference_is b 0 h (omega arith) ∙ whole ∙ positive_is b l)
    by_sign (inr k) =
        let sign : b / 64 * 128 ≡ 128 = omega arith in
        rw sign (difference_is b 128 h (omega arith) ∙ negative_byte_is b k h)

pub signed_byte : (bytes : List ℕ) (b : ℕ) → slice_get bytes 0 ≡ Some b → b < 128 → sleb128_in bytes ≡ Ok (sleb128_value (b ∷ []), drop 1 bytes)
signed_byte [] b e h = absurd cc
signed_byte (x ∷ rest) b e h =
    let same : x ≡ b = cc in
    ap (λ y. sleb128_in (y ∷ rest)) same ∙ sleb128_reads (b ∷ []) rest (sleb128_value (b ∷ [])) (byte_text b h, refl, value_fits b h)
