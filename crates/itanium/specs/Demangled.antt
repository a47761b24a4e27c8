-- C++ names, and the text that each stands for.
-- Source: Itanium C++ ABI, 5.1.2: a name is `_Z` and an encoding. What compilers add: a second `_`
-- before that, a dot before it on PowerPC, and a suffix that begins with a dot.
-- Own: a name with any fault has no text; 1,000,000 bytes of text at most. Rust's legacy names have
-- none, though they are C++ names by the grammar: what begins with `N` and ends, but for a suffix, in
-- `17h`, 16 hexadecimal digits and `E`. Nor have blocks in this stage.
use Rattle.std.specs.Prelude.{ℕ, ◌==◌, ◌&&◌, ◌||◌, Bool, true, false, List, [], ◌∷◌, ◌++◌, length, take, drop, nat_le, if◌then◌else◌, Option, Some, None, is_some, option_map, option_and_then, codes}
use Rattle.std.specs.Char.{is_ascii_hexdigit}
use Rattle.std.specs.List.{list_all}
use Rattle.std.specs.Option.{option_or}
use Rattle.std.specs.Str.{byte}
use Rattle.itanium.specs.Tree.{Text, Tree}
use Rattle.itanium.specs.Reading.{State, after}
use Rattle.itanium.specs.Grammar.{most_levels, reads}
use Rattle.itanium.specs.Shown.{tree_text}

-- the most bytes of text
abbrev pub most_text : ℕ
most_text = 1_000_000

-- what follows the prefix of a name
unfoldable pub without_prefix : List ℕ → Option (List ℕ)
without_prefix name = option_or (after (codes "_Z") name) (after (codes "__Z") name)

-- ---- suffixes

-- whether bytes are a suffix: there are none, or they begin with a dot
abbrev pub is_suffix : List ℕ → Bool
is_suffix [] = true
is_suffix (b ∷ bytes) = b == byte "."

-- a suffix as it is shown
abbrev pub suffix_text : List ℕ → Text
suffix_text [] = []
suffix_text (b ∷ bytes) = codes " (" ++ (b ∷ bytes) ++ codes ")"

-- ---- Rust's legacy names

-- how many digits a hash has
abbrev pub hash_digits : ℕ
hash_digits = 16

-- whether a name ends here, but for a suffix
abbrev pub ends_name : List ℕ → Bool
ends_name bytes = elim (after (codes "E") bytes) [ None ↦ false | Some suffix ↦ is_suffix suffix ]

-- whether the digits of a hash stand first, and the name ends behind them
abbrev pub ends_in_digits : List ℕ → Bool
ends_in_digits bytes =
    list_all is_ascii_hexdigit (take hash_digits bytes) && ends_name (drop hash_digits bytes)

-- whether a hash is the last identifier of a name: first in these bytes, or anywhere in them
abbrev pub ends_in_hash : List ℕ → Bool
ends_in_hash bytes = elim (after (codes "17h") bytes)
    [ None ↦ false | Some rest ↦ ends_in_digits rest ]

unfoldable pub has_hash : List ℕ → Bool
has_hash [] = false
has_hash (b ∷ bytes) = ends_in_hash (b ∷ bytes) || has_hash bytes

-- whether what follows the prefix is a legacy name of Rust
unfoldable pub is_rust_legacy : List ℕ → Bool
is_rust_legacy bytes = is_some (after (codes "N") bytes) && has_hash bytes

-- ---- the whole

-- before anything is read
abbrev pub start : List ℕ → State
start bytes = record { bytes = bytes; components = []; arguments = []; is_conversion = false }

-- the text of a tree, and the suffix that is left
abbrev pub suffixed : Tree × State → Option Text
suffixed p =
    if is_suffix p.1.bytes then Some (tree_text p.0 ++ suffix_text p.1.bytes) else None

-- a text that isn't too long
abbrev pub bounded_text : Text → Option Text
bounded_text text = if nat_le (length text) most_text then Some text else None

-- the text of what follows the prefix
unfoldable pub encoded_text : List ℕ → Option Text
encoded_text bytes =
    if is_rust_legacy bytes then None else option_and_then bounded_text
    (option_and_then suffixed ((reads most_levels).encoding (start bytes)))

-- the text of a name that no dot stands before
unfoldable pub undotted_text : List ℕ → Option Text
undotted_text name = option_and_then encoded_text (without_prefix name)

-- the text of a C++ name, and none for any other name
unfoldable pub cxx_text : List ℕ → Option Text
cxx_text name = elim (after (codes ".") name) [
  | None ↦ undotted_text name
  | Some rest ↦ option_map (λ text. codes "." ++ text) (undotted_text rest)
]
