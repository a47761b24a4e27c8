-- The location in a source file of an address (DWARF 5, section 6.2).
-- Own: line 0 gives neither line nor column; otherwise column 0 is a column. An index past the
-- files gives no file.
use Rattle.std.specs.Prelude.{ℕ, List, Option, Some, None, slice_get, option_map, ◌==◌, if◌then◌else◌}
use Rattle.addr2line_lines.specs.Common.{LineRow}
use Rattle.addr2line_lines.specs.declared.row.Row.{Row}
use Rattle.addr2line_lines.specs.Sequences.{Sequence, sequences_of}
use Rattle.addr2line_lines.specs.Spans.{row_at}

-- the lines of a unit: the texts of its files by index, and its sequences in the program's order
pub record LineTable : Type 0 where
  pub files : List (List ℕ)
  pub sequences : List Sequence

-- a file's text, a line and a column, as far as there are any
pub record Location : Type 0 where
  pub file : Option (List ℕ)
  pub line : Option ℕ
  pub column : Option ℕ

-- a number of a row with a line, none of one without
abbrev pub if_lined : Row → ℕ → Option ℕ
if_lined row n = if row.line == 0 then None else Some n

-- the location that a row gives
abbrev pub location_of_row : List (List ℕ) → Row → Location
location_of_row files row = record {
  file = slice_get files row.file_index;
  line = if_lined row row.line;
  column = if_lined row row.column;
}

-- the location of the probe
abbrev pub location_at : ℕ → LineTable → Option Location
location_at probe table = option_map (location_of_row table.files) (row_at probe table.sequences)

-- the lines of files and rows
abbrev pub line_table_of : List (List ℕ) → List LineRow → LineTable
line_table_of files rows = record { files = files; sequences = sequences_of rows }
