-- Laws of legacy names: what is demangled are the names that `IsLegacyName` relates to a text, and
-- each to one.
-- Own: all of it.
use Rattle.std.specs.Prelude.{◌≡◌, ℕ, List, Some}
use Rattle.gimli_read.specs.declared.constants.TheConstants.DwLang.{DW_LANG_Rust}
use Rattle.addr2line_units.specs.LegacyName.{IsLegacyName}
use Rattle.addr2line_units.specs.LegacyText.{demangled}

-- each legacy name is demangled to its text, where the language is Rust
abbrev pub FindsLegacyNames : Type 0
FindsLegacyNames =
    (name text : List ℕ) → IsLegacyName name text → demangled DW_LANG_Rust.0 name ≡ Some text

-- nothing but a legacy name is demangled, and only in Rust
abbrev pub FindsOnlyLegacyNames : Type 0
FindsOnlyLegacyNames =
    (language : ℕ) (name text : List ℕ) → demangled language name ≡ Some text
    → (language ≡ DW_LANG_Rust.0) × IsLegacyName name text

-- a legacy name has one text
abbrev pub HasOneText : Type 0
HasOneText =
    (name text other : List ℕ) → IsLegacyName name text → IsLegacyName name other → text ≡ other

-- which names have a text, and how many texts each
pub record LegacyNameLaws : Type 0 where
  pub found : FindsLegacyNames
  pub only : FindsOnlyLegacyNames
  pub one : HasOneText
