-- Numbers of v0 names, and the digits that they are spelled by.
-- Source: Rust RFC 2603. Own: each number but that of a constant has at most 64 bits.
use Rattle.std.specs.Prelude.{ℕ, ◌+◌, ◌-◌, ◌*◌, ◌^◌, ◌==◌, ◌||◌, Bool, List, [], ◌∷◌, length, take, drop, nat_lt, if◌then◌else◌, Option, Some, None, option_map, option_and_then}
use Rattle.std.specs.Char.{is_ascii_digit, is_ascii_lowercase, is_ascii_uppercase, is_ascii_alphanumeric}
use Rattle.std.specs.Int.{is_in_range}
use Rattle.std.specs.List.{prefix_len}
use Rattle.std.specs.Str.{byte}

-- the bases of numbers: decimal, hexadecimal, base 62
abbrev pub decimal_base : ℕ
decimal_base = 10

abbrev pub hex_base : ℕ
hex_base = 16

abbrev pub base_62 : ℕ
base_62 = 62

-- how many letters the alphabet has
abbrev pub letter_count : ℕ
letter_count = 26

-- the value of a digit: `0` to `9`, `a` to `z` from 10 on, `A` to `Z` from 36 on
abbrev pub digit_of : ℕ → ℕ
digit_of c =
    if is_ascii_digit c then c - byte "0"
    else (if is_ascii_lowercase c then c - byte "a" + decimal_base
    else (if is_ascii_uppercase c then c - byte "A" + (decimal_base + letter_count) else 0))

-- the value of digits after those of a number
abbrev pub value_from : ℕ → ℕ → List ℕ → ℕ
value_from base number [] = number
value_from base number (c ∷ digits) = value_from base (number * base + digit_of c) digits

-- the value of digits
unfoldable pub value_in : ℕ → List ℕ → ℕ
value_in base digits = value_from base 0 digits

-- a number of at most 64 bits
abbrev pub fits : ℕ → Option ℕ
fits n = if nat_lt n (2 ^ 64) then Some n else None

-- what follows that byte, if it stands first
abbrev pub after : ℕ → List ℕ → Option (List ℕ)
after b [] = None
after b (c ∷ bytes) = if c == b then Some bytes else None

-- the value of digits in base 62 and one more, and zero without a digit
unfoldable pub value_62 : List ℕ → Option ℕ
value_62 digits = if length digits == 0 then Some 0 else fits (value_in base_62 digits + 1)

-- a number in base 62 up to its `_`, and what follows
unfoldable pub number_62 : List ℕ → Option (ℕ × List ℕ)
number_62 bytes =
    let n = prefix_len is_ascii_alphanumeric bytes in
    option_and_then (λ rest. option_map (λ value. (value, rest)) (value_62 (take n bytes)))
    (after (byte "_") (drop n bytes))

-- one more than a number after its letter, and zero without the letter
abbrev pub counted_after : Option (List ℕ) → List ℕ → Option (ℕ × List ℕ)
counted_after None bytes = Some (0, bytes)
counted_after (Some spelled) bytes =
    option_and_then (λ p. option_map (λ value. (value, p.1)) (fits (p.0 + 1))) (number_62 spelled)

-- the same of the letter that may stand first, and what follows
unfoldable pub counted : ℕ → List ℕ → Option (ℕ × List ℕ)
counted letter bytes = counted_after (after letter bytes) bytes

-- `0` to `9`, `a` to `f`
abbrev pub is_nibble : ℕ → Bool
is_nibble c = is_ascii_digit c || is_in_range (byte "a") (byte "f") c

-- hexadecimal digits up to their `_`, and what follows
unfoldable pub nibbles : List ℕ → Option (List ℕ × List ℕ)
nibbles bytes =
    let n = prefix_len is_nibble bytes in
    option_map (λ rest. (take n bytes, rest)) (after (byte "_") (drop n bytes))
