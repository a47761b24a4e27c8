-- Entries (DWARF 5, sections 2.3 and 7.5.2): a code, and the values of the attributes that its
-- abbreviation lists.
use Rattle.std.specs.Prelude.{◌==◌, ℕ, ◌+ℤ◌, ℤ, pos, negsuc, Bool, List, Option, Some, None, Result, Ok, Err, if◌then◌else◌}
use Rattle.gimli.specs.Common.{Error, UnknownAbbreviation, MissingUnitDie, Encoding, Section, Reading, ◌>>=◌, Abbrev, Specification, with_code, NamedValue}
use Rattle.gimli_read.specs.declared.constants.TheConstants.{CLOSING_CODE}
use Rattle.gimli_read.specs.Leb128.{uleb128_at}
unfoldable pub use Rattle.gimli_read.specs.Form.{attributes_at}

-- what the entries of a unit are read by: the sizes of values, the abbreviations, and the unit's
-- length with its header
pub record EntryUnit : Type 0 where
  pub encoding : Encoding
  pub abbreviations : List Abbrev
  pub length : ℕ

-- the depth after an entry: one more where it has children
abbrev pub depth_after_entry : Bool → ℤ → ℤ
depth_after_entry has_children depth = if has_children then depth +ℤ pos 1 else depth

-- the depth after a closing entry: one less
abbrev pub depth_after_closing : ℤ → ℤ
depth_after_closing depth = depth +ℤ negsuc 0

-- an abbreviation that the table has
abbrev pub known_abbreviation : Option Abbrev → Section → Reading (Option Abbrev)
known_abbreviation None s = Err UnknownAbbreviation
known_abbreviation (Some a) s = Ok (Some a, s)

-- the abbreviation of the next entry, none of a closing entry
unfoldable pub entry_code_at : List Abbrev → Section → Reading (Option Abbrev)
entry_code_at table s = do
  code ← uleb128_at s
  if code.0 == CLOSING_CODE then Ok (None, code.1)
      else known_abbreviation (with_code code.0 table) code.1

-- the specifications of the root entry, which a closing entry isn't
abbrev pub root_specifications : Option Abbrev → Result (List Specification) Error
root_specifications None = Err MissingUnitDie
root_specifications (Some a) = Ok a.attributes

-- the attributes of a unit's root entry, with which its entries begin
unfoldable pub root_attributes : Encoding → List Abbrev → Section → Result (List NamedValue) Error
root_attributes encoding table s = do
  root ← entry_code_at table s
  specifications ← root_specifications root.0
  attributes ← attributes_at encoding specifications root.1
  Ok attributes.0
