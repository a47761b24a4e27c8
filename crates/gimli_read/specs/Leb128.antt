-- LEB128 numbers (DWARF 5, section 7.6): seven bits of the number in each byte, the lowest first,
-- and the last byte alone is below 128.
-- Own: at most ten bytes, and a value of 64 bits; anything else is BadLeb128.
use Rattle.std.specs.List.{position}
use Rattle.std.specs.Prelude.{◌≡◌, ℕ, suc, ◌+◌, ◌-◌, ◌*◌, ◌%◌, ◌^◌, ◌<◌, ◌≤◌, List, [], ◌∷◌, ◌++◌, length, take, drop, slice_index, true, Option, Some, None, Result, Ok, Err, nat_lt, if◌then◌else◌, ℤ, pos, ◌-ℤ◌}
use Rattle.gimli_read.specs.declared.leb128.TheConstants.{MAX_LEB128_LEN}
use Rattle.gimli_read.specs.declared.error.Error.{Error}
use Rattle.gimli_read.specs.declared.error.Error.TheVariants.{UnexpectedEof, BadLeb128}
use Rattle.gimli_read.specs.Section.{Section}
use Rattle.gimli_read.specs.Reading.{Reading, ◌>>=◌}
use Rattle.gimli_read.specs.Number.{fits_u64, fits_i64}

-- the sum of the low seven bits of byte i times 128 ^ (from + i)
unfoldable pub sum_from : ℕ → List ℕ → ℕ
sum_from from [] = 0
sum_from from (b ∷ bytes) = b % 128 * 128 ^ from + sum_from (suc from) bytes

-- the unsigned number that a text stands for
abbrev pub uleb128_value : List ℕ → ℕ
uleb128_value text = sum_from 0 text

-- the signed number that a text stands for: bit 6 of its last byte is the sign
abbrev pub sleb128_value : List ℕ → ℤ
sleb128_value text =
    if nat_lt (slice_index text (length text - 1)) 64 then pos (uleb128_value text)
    else pos (uleb128_value text) -ℤ pos (128 ^ length text)

-- the text is one number: at most ten bytes, the last one alone below 128
pub record IsLeb128Text (text : List ℕ) : Type 0 where
  pub some : 0 < length text
  pub at_most_ten : length text ≤ MAX_LEB128_LEN
  pub continued : (k : ℕ) → k + 1 < length text → 128 ≤ slice_index text k
  pub ended : slice_index text (length text - 1) < 128

-- the text is one unsigned number, and this is its value
abbrev pub IsUleb128 : List ℕ → ℕ → Type 0
IsUleb128 text n = IsLeb128Text text × (n ≡ uleb128_value text) × (n < 2 ^ 64)

-- the text is one signed number, and this is its value
abbrev pub IsSleb128 : List ℕ → ℤ → Type 0
IsSleb128 text z = IsLeb128Text text × (z ≡ sleb128_value text) × (fits_i64 z ≡ true)

-- a text up to the place of its last byte, and what follows it
abbrev pub cut_after : List ℕ → Option ℕ → Result (List ℕ × List ℕ) Error
cut_after bytes None =
    Err (if nat_lt (length bytes) MAX_LEB128_LEN then UnexpectedEof else BadLeb128)
cut_after bytes (Some n) = Ok (take (n + 1) bytes, drop (n + 1) bytes)

-- the text of a number at the front
abbrev pub leb128_text : List ℕ → Result (List ℕ × List ℕ) Error
leb128_text bytes = cut_after bytes (position (λ b. nat_lt b 128) (take MAX_LEB128_LEN bytes))

-- the unsigned number at the front of bytes, and the bytes after it
unfoldable pub uleb128_in : List ℕ → Result (ℕ × List ℕ) Error
uleb128_in bytes = do
  text ← leb128_text bytes
  if fits_u64 (uleb128_value text.0) then Ok (uleb128_value text.0, text.1)
      else Err BadLeb128

-- the signed number at the front of bytes, and the bytes after it
unfoldable pub sleb128_in : List ℕ → Result (ℤ × List ℕ) Error
sleb128_in bytes = do
  text ← leb128_text bytes
  if fits_i64 (sleb128_value text.0) then Ok (sleb128_value text.0, text.1) else Err BadLeb128

-- a reading of bytes as one of a section
abbrev pub within : {A : Type 0} → (List ℕ → Result (A × List ℕ) Error) → Section → Reading A
within read s = read s.bytes >>= λ x. Ok (x.0, record s { bytes = x.1 })

-- an unsigned number
abbrev pub uleb128_at : Section → Reading ℕ
uleb128_at s = within uleb128_in s

-- a signed number
abbrev pub sleb128_at : Section → Reading ℤ
sleb128_at s = within sleb128_in s

-- each text of a number is read as that number, whatever follows
abbrev pub ReadsUleb128 : Type 0
ReadsUleb128 =
    (text rest : List ℕ) (n : ℕ) → IsUleb128 text n → uleb128_in (text ++ rest) ≡ Ok (n, rest)

-- and nothing else is read
abbrev pub ReadsUleb128Alone : Type 0
ReadsUleb128Alone =
    (bytes rest : List ℕ) (n : ℕ) → uleb128_in bytes ≡ Ok (n, rest)
    → (text : List ℕ) × IsUleb128 text n × (bytes ≡ text ++ rest)

-- the same of signed numbers
abbrev pub ReadsSleb128 : Type 0
ReadsSleb128 =
    (text rest : List ℕ) (z : ℤ) → IsSleb128 text z → sleb128_in (text ++ rest) ≡ Ok (z, rest)

-- and nothing else is read
abbrev pub ReadsSleb128Alone : Type 0
ReadsSleb128Alone =
    (bytes rest : List ℕ) (z : ℤ) → sleb128_in bytes ≡ Ok (z, rest)
    → (text : List ℕ) × IsSleb128 text z × (bytes ≡ text ++ rest)

-- numbers without a sign and with one
pub record Leb128Laws : Type 0 where
  pub unsigned : ReadsUleb128
  pub unsigned_alone : ReadsUleb128Alone
  pub signed : ReadsSleb128
  pub signed_alone : ReadsSleb128Alone
