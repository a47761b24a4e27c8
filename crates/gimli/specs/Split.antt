-- Split files and what they take from the file that they belong to (DWARF 5, section 7.3.2).
use Rattle.std.specs.Prelude.{Option, Some, None, Result, Ok, if◌then◌else◌}
use Rattle.gimli.specs.Common.{Error, AttributeValue, Section, is_before_5, ◌>>=◌, fault_of}
use Rattle.gimli.specs.declared.dwarf.DwarfFileType.TheVariants.{Dwo}
use Rattle.gimli.specs.Sections.{Sections}
use Rattle.gimli.specs.Record.{root_values_of}
use Rattle.gimli.specs.Unit.{UnitRecord, attr_string_of}

-- the sections of a split file of a parent: addresses, range lists of versions 2 to 4 and the
-- supplementary file are the parent's
abbrev pub split_sections : Sections → Sections → Sections
split_sections split parent = record split {
  file_type = Dwo;
  debug_addr = parent.debug_addr;
  debug_ranges = parent.debug_ranges;
  sup = parent.sup;
}

-- the name of a unit's split file, as its root entry gives it
abbrev pub dwo_name_of : UnitRecord → Result (Option (AttributeValue Section)) Error
dwo_name_of u =
    root_values_of u.header.encoding u.abbreviations u.header.entries >>= λ root. Ok root.dwo_name

-- the fault of the string of a value, if there is a value, and it has one
abbrev pub string_fault_if : Sections → UnitRecord → Option (AttributeValue Section)
    → Result (Unit {0}) Error
string_fault_if d u None = Ok tt
string_fault_if d u (Some value) = fault_of (attr_string_of d u value)

-- the fault of the name of a unit's split file, if it has one
abbrev pub dwo_name_fault : Sections → UnitRecord → Result (Unit {0}) Error
dwo_name_fault d u = dwo_name_of u >>= string_fault_if d u

-- a split unit with the addresses and bases that its main unit relocates: the base of range lists
-- is its main unit's below version 5
abbrev pub relocated : UnitRecord → UnitRecord → UnitRecord
relocated u main = record u {
  low_pc = main.low_pc;
  addr_base = main.addr_base;
  rnglists_base =
      if is_before_5 u.header.encoding.version then main.rnglists_base else u.rnglists_base;
}
