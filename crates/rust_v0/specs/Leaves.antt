-- What has no production inside: names, lifetimes, literals, what stands before a function.
-- Source: Rust RFC 2603. Own: at most 2^64 - 1 lifetimes are bound.
use Rattle.std.specs.Prelude.{ℕ, zero, suc, ◌+◌, ◌-◌, ◌*◌, ◌^◌, ◌%◌, ◌==◌, ◌||◌, Bool, true, List, [], ◌∷◌, length, map, chars, nat_lt, if◌then◌else◌, Option, Some, None, option_map, codes}
use Rattle.std.specs.Char.{is_ascii_digit, is_ascii_alphabetic, is_ascii_uppercase}
use Rattle.std.specs.Int.{is_in_range}
use Rattle.std.specs.Str.{byte, is_utf8}
use Rattle.rust_v0.specs.declared.grammar.Leaf.{Leaf}
use Rattle.rust_v0.specs.declared.grammar.Leaf.TheVariants.{Root, ReferenceLifetime, ObjectLifetime, Binder, Unsafety, Abi, Integer, Sign, Boolean, Character, Text, Open}
use Rattle.idna.specs.Punycode.{is_scalar}
use Rattle.rust_v0.specs.Numbers.{after, counted, decimal_base, hex_base, letter_count, nibbles, number_62, value_in}
use Rattle.rust_v0.specs.Identifiers.{identifier_at, word_at}
use Rattle.rust_v0.specs.State.{State, Reading, say, is_hidden, taken, ◌>>=◌}
use Rattle.rust_v0.specs.Shown.{say_char, say_chars, say_decimal, say_escaped, say_identifier, say_quoted}

-- one reading where a byte stands first, and another where it doesn't
abbrev pub after_or : State → Option (List ℕ) → Reading → Option State → Option State
after_or s None next other = other
after_or s (Some rest) next other = next (record s { bytes = rest })

abbrev pub if_next : ℕ → Reading → Reading → Reading
if_next b next other s = after_or s (after b s.bytes) next (other s)

-- nothing
abbrev pub nothing : Reading
nothing s = Some s

-- a number in base 62
abbrev pub number : State → Option (ℕ × State)
number s = taken s (number_62 s.bytes)

-- one more than the number after that letter, and zero without it
abbrev pub counted_in : ℕ → State → Option (ℕ × State)
counted_in letter s = taken s (counted letter s.bytes)

-- an identifier
abbrev pub identifier : State → Option ((Bool × List ℕ) × State)
identifier s = taken s (identifier_at s.bytes)

-- a letter of either case
abbrev pub letter_at : List ℕ → Option (ℕ × List ℕ)
letter_at [] = None
letter_at (c ∷ bytes) = if is_ascii_alphabetic c then Some (c, bytes) else None

abbrev pub letter : State → Option (ℕ × State)
letter s = taken s (letter_at s.bytes)

-- ---- lifetimes

-- the name of a lifetime that is bound: level 0 is the outermost
unfoldable pub say_level : ℕ → Reading
say_level level s =
    if nat_lt level letter_count then say (codes "'") s >>= say_char (byte "a" + level)
    else say (codes "'_") s >>= say_decimal level

-- the name of a lifetime: 1 is the innermost, and 0 an erased one
unfoldable pub say_lifetime : ℕ → Reading
say_lifetime index s =
    if is_hidden s.mode then Some s
    else (if index == 0 then say (codes "'_") s
    else (if nat_lt s.bound index then None else say_level (s.bound - index) s))

-- the names of so many lifetimes from that level on, after others
unfoldable pub more_levels : ℕ → ℕ → Reading
more_levels level zero s = Some s
more_levels level (suc count) s = do
  comma ← say (codes ", ") s
  named ← say_level level comma
  more_levels (level + 1) count named

-- so many lifetimes bound, one at least
abbrev pub bind_some : ℕ → Reading
bind_some count s = do
  opened ← say (codes "for<") s
  first ← say_level s.bound opened
  all ← more_levels (s.bound + 1) (count - 1) first
  closed ← say (codes "> ") all
  Some (record closed { bound = s.bound + count })

-- so many lifetimes bound
unfoldable pub bind : ℕ → Reading
bind count s =
    if is_hidden s.mode || count == 0 then Some s
    else (if nat_lt (s.bound + count) (2 ^ 64) then bind_some count s else None)

-- the lifetimes that are bound from here on, if there are some
unfoldable pub binder : Reading
binder s = do
  count ← counted_in (byte "G") s
  bind count.0 count.1

-- the lifetime of a reference, which isn't shown where it is erased
abbrev pub say_reference_lifetime : ℕ → Reading
say_reference_lifetime index s =
    if index == 0 then Some s else say_lifetime index s >>= say (codes " ")

-- the lifetime of a reference, if it has one
unfoldable pub reference_lifetime : Reading
reference_lifetime s = if_next (byte "L")
    (λ r. number r >>= λ index. say_reference_lifetime index.0 index.1) nothing s

-- the lifetime of a trait object, which isn't shown where it is erased
abbrev pub say_object_lifetime : ℕ → Reading
say_object_lifetime index s =
    if index == 0 then Some s else say (codes " + ") s >>= say_lifetime index

-- the number of a lifetime after its letter
abbrev pub index_after : State → Option (List ℕ) → Option (ℕ × State)
index_after s None = None
index_after s (Some rest) = number (record s { bytes = rest })

unfoldable pub lifetime_index : State → Option (ℕ × State)
lifetime_index s = index_after s (after (byte "L") s.bytes)

-- the lifetime of a trait object
unfoldable pub object_lifetime : Reading
object_lifetime s = lifetime_index s >>= λ index. say_object_lifetime index.0 index.1

-- ---- names

-- the name of a namespace that is shown
abbrev pub say_space : ℕ → Reading
say_space space s =
    if space == byte "C" then say (codes "closure") s
    else (if space == byte "S" then say (codes "shim") s else say_char space s)

-- a text and an identifier, unless that is empty
unfoldable pub say_named : List ℕ → Bool × List ℕ → Reading
say_named before named s =
    if length named.1 == 0 then Some s else say before s >>= say_identifier named

-- a namespace that is shown, with its number and its name
unfoldable pub say_spaced : ℕ → ℕ → Bool × List ℕ → Reading
say_spaced space n named s = do
  opened ← say (codes "::{") s
  spaced ← say_space space opened
  word ← say_named (codes ":") named spaced
  hash ← say (codes "#") word
  counted ← say_decimal n hash
  say (codes "}") counted

-- a name in a namespace, which is shown if it is an upper case letter
unfoldable pub segment : ℕ → Reading
segment space s = do
  n ← counted_in (byte "s") s
  named ← identifier n.1
  if is_ascii_uppercase space then say_spaced space n.0 named.0 named.1
      else say_named (codes "::") named.0 named.1

-- a crate: its number, and its name
unfoldable pub root : Reading
root s = do
  n ← counted_in (byte "s") s
  named ← identifier n.1
  say_identifier named.0 named.1

-- ---- functions

-- `U`, if it stands there
unfoldable pub unsafety : Reading
unsafety s = if_next (byte "U") (say (codes "unsafe ")) nothing s

-- a `_` as a hyphen
abbrev pub hyphen : ℕ → ℕ
hyphen c = if c == byte "_" then byte "-" else c

-- the word of an ABI, which isn't empty
abbrev pub as_abi_word : List ℕ × List ℕ → Option (List ℕ × List ℕ)
as_abi_word p = if length p.0 == 0 then None else Some p

abbrev pub abi_word : State → Option (List ℕ × State)
abi_word s = taken s (word_at s.bytes >>= as_abi_word)

-- the same shown, with hyphens
unfoldable pub say_abi_word : Reading
say_abi_word s = abi_word s >>= λ word. say_chars (map hyphen word.0) word.1

-- the name of an ABI
unfoldable pub abi_name : Reading
abi_name s = if_next (byte "C") (say (codes "C")) say_abi_word s

-- the ABI of a function, if there is one
unfoldable pub abi : Reading
abi s = if_next (byte "K")
    (λ r. (say (codes "extern \"") r >>= abi_name) >>= say (codes "\" ")) nothing s

-- ---- literals

-- a number that has at most 64 bits in decimal, and any other by its digits as they stand
abbrev pub say_integer : List ℕ → Reading
say_integer digits s =
    if nat_lt (value_in hex_base digits) (2 ^ 64) then say_decimal (value_in hex_base digits) s
    else say (codes "0x") s >>= say digits

-- hexadecimal digits, up to their `_`
abbrev pub hex_digits : State → Option (List ℕ × State)
hex_digits s = taken s (nibbles s.bytes)

-- an integer
unfoldable pub integer : Reading
integer s = do
  digits ← hex_digits s
  say_integer digits.0 digits.1

-- the sign of an integer
unfoldable pub sign : Reading
sign s = if_next (byte "n") (say (codes "-")) nothing s

-- a number of at most 64 bits, and the state after it
abbrev pub as_literal : List ℕ × State → Option (ℕ × State)
as_literal p =
    if nat_lt (value_in hex_base p.0) (2 ^ 64) then Some (value_in hex_base p.0, p.1) else None

-- the number of a literal
unfoldable pub literal : State → Option (ℕ × State)
literal s = hex_digits s >>= as_literal

-- `false` or `true`
abbrev pub boolean_text : ℕ → Option (List ℕ)
boolean_text n = if n == 0 then Some (codes "false") else (if n == 1 then Some (codes "true") else None)

unfoldable pub boolean : Reading
boolean s = do
  n ← literal s
  text ← boolean_text n.0
  say text n.1

-- a Unicode scalar value: a code point that is no surrogate
abbrev pub as_scalar : ℕ → Option ℕ
as_scalar n = if is_scalar n then Some n else None

-- the character of a literal
unfoldable pub scalar : State → Option (ℕ × State)
scalar s = do
  n ← literal s
  option_map (λ c. (c, n.1)) (as_scalar n.0)

-- a character
unfoldable pub character : Reading
character s = do
  c ← scalar s
  opened ← say (codes "'") c.1
  shown ← say_escaped (byte "'") c.0 opened
  say (codes "'") shown

-- the value of a hexadecimal digit
abbrev pub nibble_of : ℕ → ℕ
nibble_of c =
    if is_ascii_digit c then c - byte "0"
    else (if is_in_range (byte "a") (byte "f") c then c - byte "a" + decimal_base else 0)

-- the bytes that pairs of digits spell
abbrev pub bytes_of : List ℕ → List ℕ
bytes_of [] = []
bytes_of (high ∷ []) = []
bytes_of (high ∷ low ∷ digits) = (nibble_of high * hex_base + nibble_of low) ∷ bytes_of digits

-- the characters of bytes between quotes, if they are UTF-8
abbrev pub say_string : List ℕ → Reading
say_string bytes s = if is_utf8 bytes
    then ((say (codes "\"") s >>= say_quoted (chars bytes)) >>= say (codes "\""))
    else None

-- hexadecimal digits, two for each byte
abbrev pub as_pairs : List ℕ × State → Option (List ℕ × State)
as_pairs p = if length p.0 % 2 == 1 then None else Some p

unfoldable pub digit_pairs : State → Option (List ℕ × State)
digit_pairs s = hex_digits s >>= as_pairs

-- a string
unfoldable pub string : Reading
string s = do
  digits ← digit_pairs s
  say_string (bytes_of digits.0) digits.1

-- what has no production inside
abbrev pub leaf_reading : Leaf → Reading
leaf_reading Root s = root s
leaf_reading ReferenceLifetime s = reference_lifetime s
leaf_reading ObjectLifetime s = object_lifetime s
leaf_reading Binder s = binder s
leaf_reading Unsafety s = unsafety s
leaf_reading Abi s = abi s
leaf_reading Integer s = integer s
leaf_reading Sign s = sign s
leaf_reading Boolean s = boolean s
leaf_reading Character s = character s
leaf_reading Text s = string s
leaf_reading Open s = Some (record s { is_open = true })
