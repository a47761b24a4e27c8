-- Numbers, identifiers, ABI tags and discriminators.
-- Source: Itanium C++ ABI, 5.1.2 (<number>, <source-name>, <abi-tags>), and of 5.1 Scope Encoding
-- (<discriminator>) and Compression (<seq-id>).
-- Own: a length, and the number of a substitution or of a template parameter, is below 2^64; an
-- identifier may have any bytes; a discriminator that isn't well formed is left where it stands.
use Rattle.std.specs.Prelude.{ℕ, zero, suc, ◌+◌, ◌^◌, ◌==◌, ◌||◌, Bool, List, [], ◌++◌, length, drop, nat_eq, nat_lt, if◌then◌else◌, Option, Some, None, option_and_then, unwrap_or, codes}
use Rattle.std.specs.Char.{is_ascii_digit, is_ascii_uppercase}
use Rattle.std.specs.List.{list_all, prefix_len, starts_with}
use Rattle.std.specs.Option.{option_or}
use Rattle.std.specs.Str.Parse.{digits_value}
use Rattle.itanium.specs.Tree.{Text, Tree, tagged}
use Rattle.itanium.specs.Reading.{Reading, ◌>>=◌, ◌>>◌, give, fault, after, after_byte, need, next_bytes, leading, if_next}

-- the bases of numbers
abbrev pub decimal_base : ℕ
decimal_base = 10

abbrev pub seq_base : ℕ
seq_base = 36

-- a digit of a <seq-id>
abbrev pub is_seq_digit : ℕ → Bool
is_seq_digit c = is_ascii_digit c || is_ascii_uppercase c

-- decimal digits, one at least
unfoldable pub decimal_digits : Reading Text
decimal_digits = do
  text ← leading is_ascii_digit
  if length text == 0 then fault else give text

-- <number>, as it is shown: an `n` before its digits is a minus
unfoldable pub number : Reading Text
number = if_next (codes "n") (do
  text ← decimal_digits
  give (codes "-" ++ text)) decimal_digits

-- a number of at most 64 bits
abbrev pub fits : ℕ → Reading ℕ
fits n = if nat_lt n (2 ^ 64) then give n else fault

-- the length of an identifier
unfoldable pub name_length : Reading ℕ
name_length = do
  text ← decimal_digits
  fits (digits_value decimal_base text)

-- the digits before a `_`: none is 0, and any other number one more than it says
unfoldable pub counted : ℕ → (ℕ → Bool) → Reading ℕ
counted base is_digit = do
  text ← leading is_digit
  need (codes "_")
  if length text == 0 then give 0 else fits (digits_value base text + 1)

-- an identifier after its length, which isn't 0
unfoldable pub identifier : Reading Text
identifier = do
  n ← name_length
  if n == 0 then fault else next_bytes n

-- the text of an identifier: that of a namespace without a name is the compiler's
abbrev pub identifier_text : Text → Text
identifier_text name =
    if starts_with nat_eq name (codes "_GLOBAL__N") then codes "(anonymous namespace)" else name

-- <source-name>
unfoldable pub source_name : Reading Text
source_name = do
  name ← identifier
  give (identifier_text name)

-- <abi-tags>, as long as a `B` stands first
unfoldable pub abi_tags : ℕ → Tree → Reading Tree
abi_tags zero name = give name
abi_tags (suc turns) name = if_next (codes "B") (do
  tag ← identifier
  abi_tags turns (tagged name tag)) (give name)

-- a name with the ABI tags that follow it
abbrev pub tagged_name : Tree → Reading Tree
tagged_name name = λ s. abi_tags (length s.bytes) name s

-- ---- discriminators, which aren't shown

-- what follows `_` and a digit
abbrev pub after_short : List ℕ → Option (List ℕ)
after_short bytes = option_and_then (after_byte is_ascii_digit) (after (codes "_") bytes)

-- what follows `__`, digits and `_`
abbrev pub after_digits : List ℕ → Option (List ℕ)
after_digits bytes =
    let n = prefix_len is_ascii_digit bytes in
    if n == 0 then None else after (codes "_") (drop n bytes)

abbrev pub after_long : List ℕ → Option (List ℕ)
after_long bytes = option_and_then after_digits (after (codes "__") bytes)

-- what follows digits up to the end of the name
abbrev pub after_bare : List ℕ → Option (List ℕ)
after_bare bytes = if list_all is_ascii_digit bytes then Some [] else None

-- what follows a discriminator, if one stands first
unfoldable pub after_discriminator : List ℕ → Option (List ℕ)
after_discriminator bytes =
    option_or (after_short bytes) (option_or (after_long bytes) (after_bare bytes))

-- a discriminator, if one stands here
unfoldable pub discriminator : Reading (Unit {0})
discriminator = λ s. Some (tt, record s { bytes = unwrap_or (after_discriminator s.bytes) s.bytes })
