-- LEB128 numbers of one byte or two at the front of bytes (on specs/Leb128.antt of gimli_read).
use Rattle.gimli_line.proofs.Common.{◌≡◌, ℕ, ◌+◌, ◌*◌, ◌%◌, ◌/◌, ◌<◌, ◌≤◌, ◌^◌, List, [], ◌∷◌, Ok, true, refl, sym, ap, ◌∙◌, ◌⊎◌, inl, inr, arith, ℤ, pos, negsuc, ◌-◌, ◌-ℤ◌, lt-ltb, le-ltb, cases_lt, fits_i64}
use Rattle.std.proofs.lemmas.Grind.{common_steps}
use Rattle.gimli_read.specs.Leb128.{sleb128_value, uleb128_in, sleb128_in}
use Rattle.gimli_read.proofs.Leb128Texts.{sleb128_reads}
use Rattle.gimli_read.proofs.ShortLeb128.{unsigned_byte, unsigned_pair, byte_text, byte_value, pair_text, pair_value}

-- unsigned, of one byte
pub short_unsigned : (a b : ℕ) → a < 128 → (rest : List ℕ) → uleb128_in (a ∷ b ∷ rest) ≡ Ok (a, b ∷ rest)
short_unsigned a b h rest = unsigned_byte (a ∷ b ∷ rest) a refl h

-- and of two
pub long_unsigned : (a b : ℕ) → 128 ≤ a → b < 128 → (rest : List ℕ) → uleb128_in (a ∷ b ∷ rest) ≡ Ok (a % 128 + b * 128, rest)
long_unsigned a b h k rest = unsigned_pair (a ∷ b ∷ rest) (omega arith) h k

-- n less m, which has the sign of its text
difference : (n m : ℕ) → n < 2 ^ 63 → m ≤ 2 ^ 63 → fits_i64 (pos n -ℤ pos m) ≡ true
difference n m h k = by_sign (cases_lt n m)
  where
    by_sign : (n < m) ⊎ (m ≤ n) → fits_i64 (pos n -ℤ pos m) ≡ true
    by_sign (inl l) =
        let below : pos n -ℤ pos m ≡ negsuc (m - 1 - n) = grind (arith, common_steps) in
        let small : m - 1 - n < 2 ^ 63 = omega arith in
        ap fits_i64 below ∙ lt-ltb (m - 1 - n) (2 ^ 63) small
    by_sign (inr l) =
        let above : pos n -ℤ pos m ≡ pos (n - m) = grind (arith, common_steps) in
        let small : n - m < 2 ^ 63 = omega arith in
        ap fits_i64 above ∙ lt-ltb (n - m) (2 ^ 63) small

no_less : (n : ℕ) → pos n ≡ pos n -ℤ pos 0
no_less n = grind (arith, common_steps)

byte_signed : (a : ℕ) → a < 128 → pos a -ℤ pos (a / 64 * 128) ≡ sleb128_value (a ∷ [])
byte_signed a h = by_sign (cases_lt a 64)
  where
    by_sign : (a < 64) ⊎ (64 ≤ a) → pos a -ℤ pos (a / 64 * 128) ≡ sleb128_value (a ∷ [])
    by_sign (inl l) =
        let sign : a / 64 * 128 ≡ 0 = omega arith in
        rw (sign, lt-ltb a 64 l) (sym (no_less a) ∙ ap pos (byte_value a h))
    by_sign (inr k) =
        let sign : a / 64 * 128 ≡ 128 = omega arith in
        rw (sign, le-ltb a 64 k) (ap (λ n. pos n -ℤ pos 128) (byte_value a h))

pair_signed : (a b : ℕ) → b < 128 → pos (a % 128 + b * 128) -ℤ pos (b / 64 * 16384) ≡ sleb128_value (a ∷ b ∷ [])
pair_signed a b h = by_sign (cases_lt b 64)
  where
    by_sign : (b < 64) ⊎ (64 ≤ b) → pos (a % 128 + b * 128) -ℤ pos (b / 64 * 16384) ≡ sleb128_value (a ∷ b ∷ [])
    by_sign (inl l) =
        let sign : b / 64 * 16384 ≡ 0 = omega arith in
        rw (sign, lt-ltb b 64 l) (sym (no_less (a % 128 + b * 128)) ∙ ap pos (pair_value a b h))
    by_sign (inr k) =
        let sign : b / 64 * 16384 ≡ 16384 = omega arith in
        rw (sign, le-ltb b 64 k) (ap (λ n. pos n -ℤ pos 16384) (pair_value a b h))

-- signed, of one byte
pub short_signed : (a b : ℕ) (z : ℤ) → a < 128 → z ≡ pos a -ℤ pos (a / 64 * 128) → (rest : List ℕ) → sleb128_in (a ∷ b ∷ rest) ≡ Ok (z, b ∷ rest)
short_signed a b z h is rest =
    let small : a < 2 ^ 63 = omega arith in
    let sign : a / 64 * 128 ≤ 2 ^ 63 = omega arith in
    sleb128_reads (a ∷ []) (b ∷ rest) z (byte_text a h, is ∙ byte_signed a h, ap fits_i64 is ∙ difference a (a / 64 * 128) small sign)

-- and of two
pub long_signed : (a b : ℕ) (z : ℤ) → 128 ≤ a → b < 128 → z ≡ pos (a % 128 + b * 128) -ℤ pos (b / 64 * 16384) → (rest : List ℕ) → sleb128_in (a ∷ b ∷ rest) ≡ Ok (z, rest)
long_signed a b z h k is rest =
    let small : a % 128 + b * 128 < 2 ^ 63 = omega arith in
    let sign : b / 64 * 16384 ≤ 2 ^ 63 = omega arith in
    sleb128_reads (a ∷ b ∷ []) rest z (pair_text a b h k, is ∙ pair_signed a b k, ap fits_i64 is ∙ difference (a % 128 + b * 128) (b / 64 * 16384) small sign)
