-- What an abbreviation table is seen as (DWARF 5, section 7.5.3).
use Rattle.std.specs.Prelude.{◌≡◌, ℕ, ◌==◌, Bool, List, [], ◌∷◌, find, Option, None, ℤ}
use Rattle.gimli_read.specs.declared.constants.DwAt.{DwAt}
use Rattle.gimli_read.specs.declared.constants.DwForm.{DwForm}
use Rattle.gimli_read.specs.declared.constants.DwTag.{DwTag}

-- an attribute that the entries of a code have: name, form, and the value where that stands here
pub record Specification : Type 0 where
  pub name : DwAt
  pub form : DwForm
  pub constant : Option ℤ

-- what the entries of a code are
pub record Abbrev : Type 0 where
  pub code : ℕ
  pub tag : DwTag
  pub has_children : Bool
  pub attributes : List Specification

-- the abbreviation of a code
abbrev pub with_code : ℕ → List Abbrev → Option Abbrev
with_code code table = find (λ a. a.code == code) table

-- no two abbreviations have one code
abbrev pub HasDistinctCodes : List Abbrev → Type 0
HasDistinctCodes [] = Unit {0}
HasDistinctCodes (a ∷ table) = (with_code a.code table ≡ None) × HasDistinctCodes table
