-- What the root entry of a unit says for lookups: its addresses (DWARF 5, section 2.17) and its
-- language (section 3.1.1).
-- Own: the last language that is a constant of at most 65535 counts.
use Rattle.std.specs.Prelude.{ℕ, ◌==◌, ◌^◌, nat_lt, Option, Some, None, option_and_then, Result, Ok, if◌then◌else◌}
use Rattle.std.specs.Option.{option_or}
use Rattle.addr2line_units.specs.Common.{Error, DwLang, Section, ◌>>=◌, Sections, UnitRecord}
use Rattle.gimli_read.specs.declared.constants.TheConstants.DwAt.{DW_AT_language}
use Rattle.gimli_read.specs.declared.value.AttributeValue.{AttributeValue}
use Rattle.gimli_read.specs.Form.{NamedValue, constant_of}
use Rattle.gimli.specs.TakenAttributes.{taken_in}
use Rattle.gimli.specs.Entries.{root_attributes_of}
use Rattle.addr2line_lines.specs.RangeAttributes.{no_range_attributes, with_range_attribute}
use Rattle.addr2line_units.specs.declared.attributes.UnitAttributes.{UnitAttributes}

-- before the first attribute
abbrev pub no_unit_attributes : UnitAttributes
no_unit_attributes = record { ranges = no_range_attributes; language = None }

-- a number of 16 bits as a language
abbrev pub language_of_number : ℕ → Option DwLang
language_of_number n = if nat_lt n (2 ^ 16) then Some (record { 0 = n }) else None

-- the language that a value stands for, none of a value of another class
abbrev pub language_of : AttributeValue Section → Option DwLang
language_of value = option_and_then language_of_number (constant_of value)

-- the language after one more attribute
abbrev pub language_after : Option DwLang → NamedValue → Option DwLang
language_after language a =
    if a.name.0 == DW_AT_language.0 then option_or (language_of a.value) language else language

-- one more attribute
unfoldable pub with_unit_attribute : Sections → UnitRecord → UnitAttributes → NamedValue
    → Result UnitAttributes Error
with_unit_attribute d u r a =
    with_range_attribute d u r.ranges a >>= λ ranges.
    Ok (record { ranges = ranges; language = language_after r.language a })

-- what the attributes of a unit's root entry say, the last of each counting, or the first fault of
-- an index of an address or of a range list
abbrev pub unit_attributes : Sections → UnitRecord → Result UnitAttributes Error
unit_attributes d u =
    root_attributes_of u
    >>= λ attributes. taken_in (with_unit_attribute d u) (Ok no_unit_attributes) attributes
