-- Laws of v0 names: which names have no text, a worked name, how long a text is.
-- Source: Rust RFC 2603 (the worked name). Own: all else.
use Rattle.std.specs.Prelude.{◌≡◌, ◌≤◌, ◌+◌, ℕ, false, List, length, Some, None, nat_eq, codes}
use Rattle.std.specs.Char.{is_ascii}
use Rattle.std.specs.List.{list_all, starts_with}
use Rattle.rust_v0.specs.Name.{after_first, is_upper_first, most_text, prefixes, v0_text, without_llvm}

-- a name that begins with none of the prefixes has no text
abbrev pub NeedsPrefix : Type 0
NeedsPrefix =
    (name : List ℕ) → starts_with nat_eq name (codes "_R") ≡ false
    → starts_with nat_eq name (codes "R") ≡ false
    → starts_with nat_eq name (codes "__R") ≡ false → v0_text name ≡ None

-- a name has no text without an upper case letter after its prefix
abbrev pub NeedsUpperCase : Type 0
NeedsUpperCase =
    (name rest : List ℕ) → after_first prefixes (without_llvm name) ≡ Some rest
    → is_upper_first rest ≡ false → v0_text name ≡ None

-- a name that isn't ASCII after its prefix has no text
abbrev pub NeedsAscii : Type 0
NeedsAscii =
    (name rest : List ℕ) → after_first prefixes (without_llvm name) ≡ Some rest
    → list_all is_ascii rest ≡ false → v0_text name ≡ None

-- which names have no text
pub record NamesWithoutText : Type 0 where
  pub prefix : NeedsPrefix
  pub upper_case : NeedsUpperCase
  pub ascii : NeedsAscii

-- a name and its text: a crate whose name begins with a digit
abbrev pub WorkedName : Type 0
WorkedName = v0_text (codes "_RNvC6_123foo3bar") ≡ Some (codes "123foo::bar")

-- a text has at most 1,000,000 bytes, those of its path, and as many more as its name has, since
-- the suffix is a part of that
abbrev pub BoundedText : Type 0
BoundedText =
    (name text : List ℕ) → v0_text name ≡ Some text → length text ≤ most_text + length name
