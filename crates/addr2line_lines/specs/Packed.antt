-- The sequences of a unit among its rows, as the private functions see them.
-- Own: the rows of a sequence stand one after another; a block is 64 rows.
use Rattle.std.specs.Prelude.{ℕ, ◌≡◌, ◌+◌, ◌*◌, ◌<◌, ◌≤◌, ◌^◌, List, take, drop, length, sum_by, slice_index, slice_index_or, Bool}
use Rattle.std.specs.List.{AllByRecursion}
use Rattle.addr2line_lines.specs.declared.row.Row.{Row}
use Rattle.addr2line_lines.specs.declared.sequence.LineSequence.{LineSequence}
use Rattle.addr2line_lines.specs.Counts.{block_rows, blocks}
use Rattle.addr2line_lines.specs.StoredRows.{Width}
use Rattle.addr2line_lines.specs.InOrder.{begins_sooner, in_order, IsInOrder}
use Rattle.addr2line_lines.specs.Sequences.{Sequence}
use Rattle.addr2line_lines.specs.Rises.{IsRising}

-- the address at which a sequence starts
abbrev pub packed_start : LineSequence → ℕ
packed_start s = s.start

-- the address at which a sequence ends
abbrev pub packed_end : LineSequence → ℕ
packed_end s = s.end

-- by start, and then by end
abbrev pub packed_sooner : LineSequence → LineSequence → Bool
packed_sooner s t = begins_sooner packed_start packed_end s t

-- a sequence with its rows, which stand among all rows
abbrev pub unpacked : List Row → LineSequence → Sequence
unpacked rows s = record {
  start = s.start;
  end = s.end;
  rows = take s.len (drop s.first rows);
}

-- how many rows sequences have
abbrev pub packed_rows_in : List LineSequence → ℕ
packed_rows_in sequences = sum_by (λ (s : LineSequence). s.len) sequences

-- the rows of a sequence are before place n
abbrev pub RowsEndBy : ℕ → LineSequence → Type 0
RowsEndBy n s = s.first + s.len ≤ n

-- the rows of a sequence are among all rows, and rise
pub record IsAmong (rows : List Row) (s : LineSequence) : Type 0 where
  pub within : RowsEndBy (length rows) s
  pub rising : IsRising (unpacked rows s)

-- the address of a row, 0 past the last one
abbrev pub row_address_at : List Row → ℕ → ℕ
row_address_at rows i =
    (slice_index_or rows i (record { address = 0; file_index = 0; line = 0; column = 0 })).address

-- sequences by start, then by end, whose rows are among all rows
pub record IsTable (sequences : List LineSequence) (rows : List Row) : Type 0 where
  pub few : length rows < 2 ^ 64
  pub each : AllByRecursion (IsAmong rows) sequences
  pub ordered : IsInOrder packed_sooner sequences

-- from a place on the rows of the sequence are past the probe
abbrev pub ArePastFrom : ℕ → List Row → LineSequence → ℕ → Type 0
ArePastFrom probe rows s from =
    (j : ℕ) → from ≤ j → j < s.first + s.len → probe < row_address_at rows j

-- the rows, how they are stored, and the sequences in the program's order and as they are searched
pub record Packed : Type 0 where
  pub rows : List Row
  pub width : Width
  pub listed : List LineSequence
  pub sequences : List LineSequence

-- the addresses are those of the first rows of blocks
pub record AreBlocks (rows : List Row) (addresses : List ℕ) : Type 0 where
  pub each : length addresses ≡ blocks (length rows)
  pub at : (k : ℕ) → block_rows * k < length rows
      → slice_index addresses k ≡ row_address_at rows (block_rows * k)

-- there are as many rows as sequences have, whose rows all lie among them; the searched sequences
-- are the listed ones in order, and the coarse list has the first address of each block
pub record IsPacked (rows : List Row) (coarse : List ℕ) (listed sequences : List LineSequence)
    : Type 0 where
  pub coarse_is : AreBlocks rows coarse
  pub among : AllByRecursion (IsAmong rows) listed
  pub no_others : length rows ≡ packed_rows_in listed
  pub sorted_is : sequences ≡ in_order packed_sooner listed
