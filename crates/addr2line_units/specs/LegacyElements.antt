-- The elements of legacy names of Rust, and their texts.
-- Source: the mangling that rustc calls legacy: elements after their decimal lengths, escapes in
-- dollar signs.
use Rattle.std.specs.Prelude.{◌≡◌, ◌≢◌, ◌<◌, ◌==◌, ◌||◌, ◌&&◌, ℕ, Bool, true, false, List, [], ◌∷◌, ◌++◌, length, codes, nat_le, nat_lt, encode_utf8}
use Rattle.std.specs.Int.{is_in_range}
use Rattle.std.specs.Char.{IsScalar, is_control, is_ascii, is_ascii_digit, is_ascii_hexdigit}
use Rattle.std.specs.List.{Contains, list_all}
use Rattle.std.specs.Str.{byte}
use Rattle.std.specs.Str.Parse.{digits_value}

-- `0` to `9`, `a` to `f`
abbrev pub is_lower_hex : ℕ → Bool
is_lower_hex b = is_ascii_digit b || is_in_range (byte "a") (byte "f") b

-- `h`, and then hexadecimal digits alone
abbrev pub is_hash : List ℕ → Bool
is_hash [] = false
is_hash (b ∷ bs) = b == byte "h" && list_all is_ascii_hexdigit bs

-- whether a byte that passes the test stands first
abbrev pub is_first : (ℕ → Bool) → List ℕ → Bool
is_first test [] = false
is_first test (b ∷ bs) = test b

-- a decimal length, which takes all digits that stand there, then that many ASCII bytes, the
-- element
pub record IsElement (digits element rest : List ℕ) : Type 0 where
  pub some : 0 < length digits
  pub only_digits : list_all is_ascii_digit digits ≡ true
  pub all_digits : is_first is_ascii_digit (element ++ rest) ≡ false
  pub counted : digits_value 10 digits ≡ length element
  pub is_text : list_all is_ascii element ≡ true

-- the text is the elements, each after its length, and then the rest
abbrev pub AreElements : List (List ℕ) → List ℕ → List ℕ → Type 0
AreElements [] text rest = text ≡ rest
AreElements (element ∷ elements) text rest =
    (digits after : List ℕ) × IsElement digits element after
    × (text ≡ digits ++ (element ++ after)) × AreElements elements after rest

-- the elements that are shown: all but a last one that is a hash
pub data AreShown (elements shown : List (List ℕ)) : Type 0 where
  hashed : (hash : List ℕ) → elements ≡ shown ++ (hash ∷ []) → is_hash hash ≡ true
      → AreShown elements shown
  all : elements ≡ shown
      → ((front : List (List ℕ)) (last : List ℕ) → elements ≡ front ++ (last ∷ [])
      → is_hash last ≡ false)
      → AreShown elements shown

-- the names of characters, and the characters
abbrev pub escapes : List (List ℕ × ℕ)
escapes =
    (codes "SP", byte "@")
    ∷ (codes "BP", byte "*")
    ∷ (codes "RF", byte "&")
    ∷ (codes "LT", byte "<")
    ∷ (codes "GT", byte ">")
    ∷ (codes "LP", byte "(")
    ∷ (codes "RP", byte ")")
    ∷ (codes "C", byte ",")
    ∷ []

-- the first surrogate
abbrev pub first_surrogate : ℕ
first_surrogate = 0xD800

-- the first code point above the surrogates
abbrev pub after_surrogates : ℕ
after_surrogates = 0xE000

-- the first number above the code points
abbrev pub after_code_points : ℕ
after_code_points = 0x11_0000

-- whether a number is a Unicode scalar value: a code point that is no surrogate
abbrev pub is_scalar_value : ℕ → Bool
is_scalar_value n =
    nat_lt n first_surrogate || (nat_le after_surrogates n && nat_lt n after_code_points)

-- what stands between two dollars, and the character that it means
pub data IsEscape : List ℕ → ℕ → Type 0 where
  by_name : (name : List ℕ) (c : ℕ) → Contains escapes (name, c) → IsEscape name c
  by_number : (digits : List ℕ) → 0 < length digits → list_all is_lower_hex digits ≡ true
      → IsScalar (digits_value 16 digits) → is_control (digits_value 16 digits) ≡ false
      → IsEscape (byte "u" ∷ digits) (digits_value 16 digits)

-- what follows a dollar begins with no escape
abbrev pub NoEscape : List ℕ → Type 0
NoEscape bytes =
    (escape rest : List ℕ) (c : ℕ) → IsEscape escape c → bytes ≢ escape ++ (byte "$" ∷ rest)

-- whether a byte is a dot
abbrev pub is_dot : ℕ → Bool
is_dot b = b == byte "."

-- bytes of an element, read from the left up to its end, and their text
pub data IsPlain : List ℕ → List ℕ → Type 0 where
  nothing : IsPlain [] []
  dots : (rest text : List ℕ) → IsPlain rest text
      → IsPlain (codes ".." ++ rest) (codes "::" ++ text)
  escape : (escape rest text : List ℕ) (c : ℕ) → IsEscape escape c → IsPlain rest text
      → IsPlain (byte "$" ∷ (escape ++ (byte "$" ∷ rest))) (encode_utf8 c ++ text)
  as_it_stands : (rest : List ℕ) → NoEscape rest → IsPlain (byte "$" ∷ rest) (byte "$" ∷ rest)
  any_other : (b : ℕ) (rest text : List ℕ) → b ≢ byte "$"
      → (b ≡ byte "." → is_first is_dot rest ≡ false) → IsPlain rest text
      → IsPlain (b ∷ rest) (b ∷ text)

-- an element and its text: a leading `_$` loses the underscore
pub data IsElementText (element text : List ℕ) : Type 0 where
  bare : (rest : List ℕ) → element ≡ codes "_$" ++ rest → IsPlain (byte "$" ∷ rest) text
      → IsElementText element text
  other : ((rest : List ℕ) → element ≢ codes "_$" ++ rest) → IsPlain element text
      → IsElementText element text

-- a text for each element, in order
abbrev pub AreTexts : List (List ℕ) → List (List ℕ) → Type 0
AreTexts [] [] = Unit {0}
AreTexts [] (text ∷ texts) = ⊥
AreTexts (element ∷ elements) [] = ⊥
AreTexts (element ∷ elements) (text ∷ texts) = IsElementText element text × AreTexts elements texts
