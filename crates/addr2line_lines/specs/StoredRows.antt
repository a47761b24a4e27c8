-- Rows as they are stored, as the private functions see them.
-- Own: rows take twelve bytes each as long as file indexes and columns have 16 bits and addresses
-- have the upper half of the first row that is stored; where none is stored any more, the next
-- row's takes its place. From the first row on that doesn't fit, all are stored whole.
use Rattle.std.specs.Prelude.{ℕ, ◌≡◌, ◌⊎◌, ◌+◌, ◌*◌, ◌^◌, ◌/◌, ◌%◌, ◌==◌, ◌&&◌, Bool, true, List, [], length, map, nat_lt, if◌then◌else◌}
use Rattle.addr2line_lines.specs.declared.row.Row.{Row}
use Rattle.addr2line_lines.specs.declared.rows.RowStore.{RowStore}
use Rattle.addr2line_lines.specs.declared.rows.RowStore.TheVariants as stored
use Rattle.addr2line_lines.specs.declared.rows.ShortRow.{ShortRow}

-- the upper half of the address of a row
abbrev pub upper_of : Row → ℕ
upper_of r = r.address / 2 ^ 32

-- a row in twelve bytes
abbrev pub shortened : Row → ShortRow
shortened r = record {
  address = r.address % 2 ^ 32;
  line = r.line;
  file_index = r.file_index;
  column = r.column;
}

-- the row that twelve bytes and the upper half of its address stand for
abbrev pub row_of_short : ℕ → ShortRow → Row
row_of_short upper r = record {
  address = upper * 2 ^ 32 + r.address;
  file_index = r.file_index;
  line = r.line;
  column = r.column;
}

-- whether a file index and a column have 16 bits
abbrev pub are_narrow : Row → Bool
are_narrow r = nat_lt r.file_index (2 ^ 16) && nat_lt r.column (2 ^ 16)

-- whether a row fits in twelve bytes, beside an upper half
abbrev pub fits : ℕ → Row → Bool
fits upper r = (upper_of r == upper) && are_narrow r

-- how elements are stored: in few bytes each beside a base, as rows beside the upper half of their
-- addresses, or whole
pub data Width : Type 0 where
  Short : ℕ → Width
  Whole : Width

-- whether a row can be stored so
abbrev pub stores : Width → Row → Bool
stores (Short upper) r = fits upper r
stores Whole r = true

-- how so many rows are stored anew for one more with this upper half of its address, narrow or not:
-- in twelve bytes only where there is none yet and it is narrow, else whole
abbrev pub width_anew : ℕ → ℕ → Bool → Width
width_anew count upper narrow = if (count == 0) && narrow then Short upper else Whole

-- how one more row is stored after so many, and these with it
abbrev pub width_after : ℕ → Width → Row → Width
width_after count w r =
    if stores w r then w else width_anew count (upper_of r) (are_narrow r)

-- the rows that are stored, and how
pub record StoredRows : Type 0 where
  pub rows : List Row
  pub width : Width

-- before the first row
abbrev pub none_stored : StoredRows
none_stored = record { rows = []; width = Short 0 }

-- what is stored stands for these rows
abbrev pub whole_rows : RowStore → List Row
whole_rows (stored.Short upper rows) = map (row_of_short upper) rows.items
whole_rows (stored.Whole rows) = rows.items

-- how they are stored
abbrev pub width_of : RowStore → Width
width_of (stored.Short upper rows) = Short upper
width_of (stored.Whole rows) = Whole

-- rows are stored as before, or as one more needs it
abbrev pub IsWidthFor : Row → StoredRows → Width → Type 0
IsWidthFor r old new = (new ≡ old.width) ⊎ (new ≡ width_after (length old.rows) old.width r)
