-- Identifiers: words after their lengths, and Punycode.
-- Source: Rust RFC 2603; RFC 3492 (Punycode).
-- Own: of Punycode that is invalid, of more than 1,024 bytes or of more than 128 characters, its own
-- letters are shown, in `punycode{}`.
use Rattle.std.specs.Prelude.{ℕ, ◌==◌, ◌&&◌, ◌||◌, Bool, true, false, List, ◌++◌, length, take, drop, nat_le, if◌then◌else◌, Option, Some, None, is_some, option_and_then, unwrap_or, codes}
use Rattle.std.specs.Char.{is_ascii, is_ascii_digit, is_ascii_lowercase}
use Rattle.std.specs.List.{list_all, prefix_len, before_last, after_last}
use Rattle.std.specs.Str.{byte}
use Rattle.idna.specs.Punycode.{decode}
use Rattle.rust_v0.specs.Numbers.{after, decimal_base, value_in}

-- how many digits a length has: a `0` stands alone
abbrev pub length_digits : List ℕ → ℕ
length_digits bytes =
    if is_some (after (byte "0") bytes) then 1 else prefix_len is_ascii_digit bytes

-- so many bytes, all of them ASCII, and what follows them
abbrev pub split_word : ℕ → List ℕ → Option (List ℕ × List ℕ)
split_word n bytes =
    if nat_le n (length bytes) && list_all is_ascii (take n bytes)
    then Some (take n bytes, drop n bytes) else None

-- what follows a `_`, or all where none stands first
abbrev pub without_underscore : List ℕ → List ℕ
without_underscore bytes = unwrap_or (after (byte "_") bytes) bytes

-- the word after its length, and what follows it
unfoldable pub word_at : List ℕ → Option (List ℕ × List ℕ)
word_at bytes =
    let n = length_digits bytes in
    if length (take n bytes) == 0 then None
    else split_word (value_in decimal_base (take n bytes)) (without_underscore (drop n bytes))

-- whether a byte is `_`
abbrev pub is_underscore : ℕ → Bool
is_underscore c = c == byte "_"

-- what of Punycode stands for itself
unfoldable pub ascii_part : List ℕ → List ℕ
ascii_part word = before_last is_underscore word

-- its digits
unfoldable pub digits_part : List ℕ → List ℕ
digits_part word = after_last is_underscore word

-- a word as an identifier: Punycode has digits
abbrev pub as_identifier : Bool → List ℕ × List ℕ → Option ((Bool × List ℕ) × List ℕ)
as_identifier is_punycode p =
    if is_punycode && length (digits_part p.0) == 0 then None
    else Some ((is_punycode, p.0), p.1)

-- an identifier after the `u` that may stand there: whether it is Punycode, and its word
abbrev pub identifier_after : Option (List ℕ) → List ℕ → Option ((Bool × List ℕ) × List ℕ)
identifier_after None bytes = option_and_then (as_identifier false) (word_at bytes)
identifier_after (Some spelled) bytes = option_and_then (as_identifier true) (word_at spelled)

-- an identifier, and what follows it
unfoldable pub identifier_at : List ℕ → Option ((Bool × List ℕ) × List ℕ)
identifier_at bytes = identifier_after (after (byte "u") bytes) bytes

-- a lower case letter or a decimal digit
abbrev pub is_puny_digit : ℕ → Bool
is_puny_digit c = is_ascii_lowercase c || is_ascii_digit c

-- Punycode as it is usually written, with a hyphen after the part that is ASCII
unfoldable pub hyphenated : List ℕ → List ℕ
hyphenated word =
    if length (ascii_part word) == 0 then digits_part word
    else ascii_part word ++ codes "-" ++ digits_part word

-- the most bytes of Punycode, and the most characters, that are decoded
abbrev pub most_punycode : ℕ
most_punycode = 1_024

abbrev pub most_characters : ℕ
most_characters = 128

-- characters, if they are few enough
abbrev pub if_few : Option (List ℕ) → Option (List ℕ)
if_few found =
    option_and_then (λ cs. if nat_le (length cs) most_characters then Some cs else None) found

-- whether a word is read as Punycode at all
abbrev pub is_decodable : List ℕ → Bool
is_decodable word =
    nat_le (length (hyphenated word)) most_punycode && list_all is_puny_digit (digits_part word)

-- the characters that Punycode is shown as
unfoldable pub decoded : List ℕ → Option (List ℕ)
decoded word = if is_decodable word then if_few (decode (hyphenated word)) else None
