-- Legacy names of Rust: which texts are such names, and the text that a name stands for.
-- Source: the mangling that rustc calls legacy: a prefix, elements after their decimal lengths,
-- `E`, a suffix; and what LLVM appends after `.llvm.`.
-- Own: one element at least; a suffix is empty, or begins with a dot and has only ASCII letters,
-- digits and punctuation.
use Rattle.std.specs.Prelude.{◌≡◌, ◌<◌, ◌≤◌, ◌==◌, ◌||◌, ◌&&◌, ℕ, Bool, true, false, List, [], ◌∷◌, ◌++◌, length, codes}
use Rattle.std.specs.Int.{is_in_range}
use Rattle.std.specs.Char.{is_ascii_digit, is_ascii_alphanumeric, is_ascii_punctuation}
use Rattle.std.specs.List.{Contains, list_all}
use Rattle.std.specs.Str.{byte}
use Rattle.addr2line_units.specs.LegacyElements.{AreElements, AreShown, is_dot, AreTexts}

-- what LLVM puts between a name and a mark of its own
abbrev pub llvm_mark : List ℕ
llvm_mark = codes ".llvm."

-- `A` to `F`, `0` to `9`, `@`
abbrev pub is_llvm_byte : ℕ → Bool
is_llvm_byte b = is_in_range (byte "A") (byte "F") b || (is_ascii_digit b || b == byte "@")

-- a letter, a digit or punctuation of ASCII
abbrev pub is_suffix_byte : ℕ → Bool
is_suffix_byte b = is_ascii_alphanumeric b || is_ascii_punctuation b

-- the front of the name up to its first mark, and the rest after it
pub record IsFirstMark (name front rest : List ℕ) : Type 0 where
  pub whole : name ≡ front ++ (llvm_mark ++ rest)
  pub first : (earlier later : List ℕ) → name ≡ earlier ++ (llvm_mark ++ later)
      → length front ≤ length earlier

-- what is left of the name: all before the first mark, if only such bytes follow it, and else all
pub data IsKept (name kept : List ℕ) : Type 0 where
  cut : (rest : List ℕ) → IsFirstMark name kept rest → list_all is_llvm_byte rest ≡ true
      → IsKept name kept
  whole : name ≡ kept
      → ((front rest : List ℕ) → IsFirstMark name front rest → list_all is_llvm_byte rest ≡ false)
      → IsKept name kept

-- what a name may begin with
abbrev pub prefixes : List (List ℕ)
prefixes = codes "_ZN" ∷ codes "ZN" ∷ codes "__ZN" ∷ []

-- two colons before each of the texts
abbrev pub after_colons : List (List ℕ) → List ℕ
after_colons [] = []
after_colons (text ∷ texts) = codes "::" ++ (text ++ after_colons texts)

-- the texts, with two colons between them
abbrev pub joined : List (List ℕ) → List ℕ
joined [] = []
joined (text ∷ texts) = text ++ after_colons texts

-- whether a text may follow the `E`
abbrev pub is_suffix : List ℕ → Bool
is_suffix [] = true
is_suffix (b ∷ bs) = is_dot b && list_all is_suffix_byte (b ∷ bs)

-- a legacy name, and its text
pub record IsLegacyName (name text : List ℕ) : Type 0 where
  pub kept : List ℕ
  pub prefix : List ℕ
  pub spelled : List ℕ
  pub elements : List (List ℕ)
  pub shown : List (List ℕ)
  pub texts : List (List ℕ)
  pub suffix : List ℕ
  pub is_kept : IsKept name kept
  pub is_prefix : Contains prefixes prefix
  pub whole : kept ≡ prefix ++ spelled
  pub are_elements : AreElements elements spelled (byte "E" ∷ suffix)
  pub some : 0 < length elements
  pub are_shown : AreShown elements shown
  pub are_texts : AreTexts shown texts
  pub may_follow : is_suffix suffix ≡ true
  pub is_text : text ≡ joined texts ++ suffix
