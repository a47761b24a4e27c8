-- Where a value of DW_AT_ranges says that a range list begins (DWARF 5, sections 2.17.3, 7.5.5 and
-- 7.28).
-- Own: the forms of a section offset are those under stmt_list. In a split file below version 5 it
-- counts from the unit's rnglists_base.
-- Own: an offset of 2^64 or more is OffsetOutOfBounds.
use Rattle.std.specs.Prelude.{ℕ, ◌+◌, Option, Some, None, Result, Ok, Err, if◌then◌else◌}
use Rattle.gimli.specs.Common.{Error, OffsetOutOfBounds, AttributeValue, Section, is_before_5, ◌>>=◌, fits_u64, offset_size}
use Rattle.gimli_read.specs.declared.value.AttributeValue.TheVariants as values
use Rattle.gimli.specs.declared.dwarf.DwarfFileType.{DwarfFileType}
use Rattle.gimli.specs.declared.dwarf.DwarfFileType.TheVariants.{Main, Dwo}
use Rattle.gimli.specs.Sections.{Sections}
use Rattle.gimli.specs.Text.{indexed_number}
use Rattle.gimli.specs.Record.{line_offset}
use Rattle.gimli.specs.Unit.{UnitRecord}

-- an offset that counts from a base
abbrev pub offset_from_base : ℕ → ℕ → Result (Option ℕ) Error
offset_from_base base offset =
    if fits_u64 (base + offset) then Ok (Some (base + offset)) else Err OffsetOutOfBounds

-- where the section offsets of a unit's range lists count from
abbrev pub ranges_base : DwarfFileType → UnitRecord → ℕ
ranges_base Main u = 0
ranges_base Dwo u = if is_before_5 u.header.encoding.version then u.rnglists_base else 0

-- the offset of a list by its index in the unit's table of offsets
abbrev pub rnglists_offset : Sections → UnitRecord → ℕ → Result (Option ℕ) Error
rnglists_offset d u index = do
  offset ← indexed_number (offset_size u.header.encoding.format) u.rnglists_base index
      d.debug_rnglists
  offset_from_base u.rnglists_base offset

-- a section offset, if it is one, with its base
abbrev pub offset_with_base : Sections → UnitRecord → Option ℕ → Result (Option ℕ) Error
offset_with_base d u None = Ok None
offset_with_base d u (Some offset) = offset_from_base (ranges_base d.file_type u) offset

-- the offset of the list that a value of DW_AT_ranges stands for, none of a value of another class
unfoldable pub ranges_offset_of : Sections → UnitRecord → AttributeValue Section
    → Result (Option ℕ) Error
ranges_offset_of d u (values.DebugRngListsIndex index) = rnglists_offset d u index
ranges_offset_of d u value = offset_with_base d u (line_offset u.header.encoding value)
