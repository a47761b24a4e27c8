-- The sequences of a line program's rows (DWARF 5, sections 6.2.1 and 6.2.5.3: an end row ends a
-- sequence).
-- Own: of the rows of a sequence with equal address the last counts.
-- Own: a sequence without rows, or whose start is not below its end, is none, and so is one whose
-- end row is dropped; rows that no end row follows belong to none.
-- Own: of lines and columns the low 32 bits count.
use Rattle.std.specs.Prelude.{ℕ, ◌==◌, ◌&&◌, not, List, [], ◌∷◌, Option, Some, None, map, filter_map, nat_lt, if◌then◌else◌}
use Rattle.std.specs.List.{list_any}
use Rattle.addr2line_lines.specs.Common.{LineRow}
use Rattle.addr2line_lines.specs.declared.row.Row.{Row}
use Rattle.addr2line_lines.specs.LowBits.{low_bits}

-- a sequence: its addresses, the end not among them, and its rows by address
pub record Sequence : Type 0 where
  pub start : ℕ
  pub end : ℕ
  pub rows : List Row

-- the rows up to an end row, and that row
pub record RowGroup : Type 0 where
  pub rows : List LineRow
  pub last : LineRow

-- a row before those of the first group; nothing where no end row follows
abbrev pub put_first : LineRow → List RowGroup → List RowGroup
put_first r [] = []
put_first r (s ∷ rest) = record { rows = r ∷ s.rows; last = s.last } ∷ rest

-- the rows between end rows
abbrev pub row_groups : List LineRow → List RowGroup
row_groups [] = []
row_groups (r ∷ rows) =
    if r.end_sequence then record { rows = []; last = r } ∷ row_groups rows
    else put_first r (row_groups rows)

-- of rows with equal address the last
abbrev pub latest : List LineRow → List LineRow
latest [] = []
latest (r ∷ rows) =
    if list_any (λ (s : LineRow). s.address == r.address) rows then latest rows else r ∷ latest rows

-- a row as it is stored
abbrev pub stored_row : LineRow → Row
stored_row r = record {
  address = r.address;
  file_index = r.file_index;
  line = low_bits r.line;
  column = low_bits r.column;
}

-- the sequence of rows with an end row, if they are one
abbrev pub sequence_of : List LineRow → LineRow → Option Sequence
sequence_of [] last = None
sequence_of (r ∷ rows) last =
    if not last.dropped && nat_lt r.address last.address then Some (record {
      start = r.address;
      end = last.address;
      rows = map stored_row (r ∷ rows);
    })
    else None

-- the sequence of a group
abbrev pub sequence_in : RowGroup → Option Sequence
sequence_in s = sequence_of (latest s.rows) s.last

-- the sequences of a program's rows, in the program's order
abbrev pub sequences_of : List LineRow → List Sequence
sequences_of rows = filter_map sequence_in (row_groups rows)

-- the address at which a sequence starts
abbrev pub start_of : Sequence → ℕ
start_of s = s.start

-- the address at which a sequence ends
abbrev pub end_of : Sequence → ℕ
end_of s = s.end
