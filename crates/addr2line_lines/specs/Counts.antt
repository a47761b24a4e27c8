-- How many steps a lookup takes in the lines of a unit.
-- Own: a step is a look at a sequence, at the first address of a block of 64 rows, or at a row.
use Rattle.std.specs.Prelude.{ℕ, ◌+◌, ◌-◌, ◌/◌, List, length, sum_by}
use Rattle.addr2line_lines.specs.Digits.{digits}
use Rattle.addr2line_lines.specs.Sequences.{Sequence}
use Rattle.addr2line_lines.specs.Location.{LineTable}

-- the number of rows of a block
abbrev pub block_rows : ℕ
block_rows = 64

-- how many blocks so many rows have
abbrev pub blocks : ℕ → ℕ
blocks rows = (rows + (block_rows - 1)) / block_rows

-- how many rows sequences have
abbrev pub rows_in : List Sequence → ℕ
rows_in sequences = sum_by (λ (s : Sequence). length s.rows) sequences

-- the most steps of a search among so many sequences and rows
abbrev pub most_steps : ℕ → ℕ → ℕ
most_steps sequences rows = digits sequences + digits (blocks rows) + block_rows

-- the most steps of a lookup
abbrev pub most_steps_in : LineTable → ℕ
most_steps_in table = most_steps (length table.sequences) (rows_in table.sequences)
