-- Texts that are shown: characters, numbers, identifiers, what stands between quotes.
-- Source: Rust RFC 2603. Own: which characters stand as escapes between quotes.
use Rattle.std.specs.Prelude.{ℕ, ◌==◌, ◌||◌, Bool, List, [], ◌∷◌, if◌then◌else◌, Option, Some, None, codes, decimal, encode_utf8}
use Rattle.std.specs.Int.{is_in_range}
use Rattle.std.specs.Char.Escape.{escape_unicode}
use Rattle.std.specs.Str.{byte}
use Rattle.rust_v0.specs.Identifiers.{decoded, hyphenated}
use Rattle.rust_v0.specs.State.{Reading, say, is_hidden, ◌>>=◌}

-- a character
abbrev pub say_char : ℕ → Reading
say_char c s = say (encode_utf8 c) s

-- characters
abbrev pub say_chars : List ℕ → Reading
say_chars [] s = Some s
say_chars (c ∷ cs) s = say_char c s >>= say_chars cs

-- a number in decimal
abbrev pub say_decimal : ℕ → Reading
say_decimal n s = say (decimal n) s

-- the characters of Punycode, or the Punycode where it has none that are shown
abbrev pub punycode_shown : Option (List ℕ) → List ℕ → Reading
punycode_shown (Some cs) word s = say_chars cs s
punycode_shown None word s = do
  open_brace ← say (codes "punycode{") s
  spelled ← say (hyphenated word) open_brace
  say (codes "}") spelled

-- Punycode
unfoldable pub say_punycode : List ℕ → Reading
say_punycode word s = punycode_shown (decoded word) word s

-- an identifier
unfoldable pub say_identifier : Bool × List ℕ → Reading
say_identifier identifier s =
    if is_hidden s.mode then Some s
    else (if identifier.0 then say_punycode identifier.1 s else say identifier.1 s)

-- a quote between quotes: a backslash stands before the quote around
abbrev pub say_quote : ℕ → ℕ → Reading
say_quote quote c s =
    if c == quote then say (codes "\\") s >>= say_char c else say_char c s

-- a character as it stands between quotes
unfoldable pub say_escaped : ℕ → ℕ → Reading
say_escaped quote c s =
    if c == byte "'" || c == byte "\"" then say_quote quote c s
    else (if c == byte "\\" then say (codes "\\\\") s
    else (if c == 0 then say (codes "\\0") s
    else (if c == byte "\t" then say (codes "\\t") s
    else (if c == byte "\n" then say (codes "\\n") s
    else (if c == byte "\r" then say (codes "\\r") s
    else (if is_in_range (byte " ") (byte "~") c then say_char c s
    else say_chars (escape_unicode c) s))))))

-- characters as they stand in a string
abbrev pub say_quoted : List ℕ → Reading
say_quoted [] s = Some s
say_quoted (c ∷ cs) s = say_escaped (byte "\"") c s >>= say_quoted cs
