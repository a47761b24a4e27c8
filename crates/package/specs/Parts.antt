-- Which parts of sections belong to the unit of a row (DWARF 5, section 7.3.5.3).
-- Own: a row that the index hasn't is OffsetOutOfBounds.
-- Own: where several columns are for one section, the first counts; where none is, the unit has
-- nothing of the section. In the GNU form a unit has no range lists of version 5.
use Rattle.std.specs.Prelude.{ℕ, ◌-◌, ◌==◌, ◌||◌, nat_lt, List, [], length, slice_index, slice_index_or, Option, Some, None, Result, Ok, Err, if◌then◌else◌}
use Rattle.std.specs.List.{position}
use Rattle.package.specs.Common.{Error, OffsetOutOfBounds}
use Rattle.package.specs.declared.constants.TheConstants.{DW_SECT_ABBREV, DW_SECT_INFO, DW_SECT_LINE, DW_SECT_RNGLISTS, DW_SECT_STR_OFFSETS, INDEX_VERSION}
use Rattle.package.specs.declared.unit_index.SectionPart.{SectionPart}
use Rattle.package.specs.declared.unit_index.UnitSections.{UnitSections}
use Rattle.package.specs.Index.{Index}

-- nothing of a section
abbrev pub no_part : SectionPart
no_part = record { offset = 0; size = 0 }

-- what a table has in a row, counted from 0, and a column
abbrev pub cell_of : List (List ℕ) → ℕ → ℕ → ℕ
cell_of table row column = slice_index (slice_index_or table row []) column

-- the part of a column's section, if there is such a column
abbrev pub part_in_column : Index → ℕ → Option ℕ → SectionPart
part_in_column index row None = no_part
part_in_column index row (Some column) = record {
  offset = cell_of index.offsets row column;
  size = cell_of index.sizes row column;
}

-- the part of the section with a number
abbrev pub part_by_number : Index → ℕ → ℕ → SectionPart
part_by_number index row number =
    part_in_column index row (position (λ n. n == number) index.columns)

-- the part of the range lists of version 5
abbrev pub rnglists_part_of : Index → ℕ → SectionPart
rnglists_part_of index row =
    if index.version == INDEX_VERSION then part_by_number index row DW_SECT_RNGLISTS else no_part

-- the parts of a row, counted from 0
abbrev pub parts_in_row : Index → ℕ → UnitSections
parts_in_row index row = record {
  debug_abbrev = part_by_number index row DW_SECT_ABBREV;
  debug_info = part_by_number index row DW_SECT_INFO;
  debug_line = part_by_number index row DW_SECT_LINE;
  debug_rnglists = rnglists_part_of index row;
  debug_str_offsets = part_by_number index row DW_SECT_STR_OFFSETS;
}

-- the parts of a row, counted from 1 as slots do
unfoldable pub sections_of : Index → ℕ → Result UnitSections Error
sections_of index row =
    if row == 0 || nat_lt (length index.offsets) row then Err OffsetOutOfBounds
    else Ok (parts_in_row index (row - 1))
