-- What a line program's rows make one after another, as the private functions see them: the
-- sequences so far, and the rows since the last end row, as they are stored.
use Rattle.std.specs.Prelude.{ℕ, ◌≡◌, ◌+◌, ◌-◌, ◌≤◌, ◌==◌, ◌&&◌, Bool, false, not, nat_lt, List, [], ◌∷◌, ◌++◌, length, take, drop, map, fold, Option, Some, None, if◌then◌else◌}
use Rattle.std.specs.List.{AllByRecursion}
use Rattle.std.specs.Option.{option_to_list}
use Rattle.addr2line_lines.specs.Common.{last, LineRow}
use Rattle.addr2line_lines.specs.declared.row.Row.{Row}
use Rattle.addr2line_lines.specs.declared.sequence.LineSequence.{LineSequence}
use Rattle.addr2line_lines.specs.Counts.{rows_in}
use Rattle.addr2line_lines.specs.StoredRows.{Width, Short, width_after}
use Rattle.addr2line_lines.specs.Sequences.{Sequence, stored_row}
use Rattle.addr2line_lines.specs.Packed.{RowsEndBy, packed_rows_in, unpacked}

-- the sequences, and the rows of the one that goes on
pub record Built : Type 0 where
  pub sequences : List Sequence
  pub pending : List Row

-- before the first row
abbrev pub nothing_built : Built
nothing_built = record { sequences = []; pending = [] }

-- the row, if there is one, has the address
abbrev pub has_address : ℕ → Option Row → Bool
has_address a None = false
has_address a (Some r) = r.address == a

-- the rows without the last one, if that has the address
abbrev pub without_last : ℕ → List Row → List Row
without_last a rows =
    if has_address a (last rows) then take (length rows - 1) rows else rows

-- the rows without the last one, if that is at place first or after it and has the address
abbrev pub without_last_from : ℕ → ℕ → List Row → List Row
without_last_from first a rows =
    if has_address a (last (drop first rows)) then take (length rows - 1) rows else rows

-- a row after others; it replaces the last one, if that has its address
abbrev pub with_row : List Row → LineRow → List Row
with_row rows r = without_last r.address rows ++ stored_row r ∷ []

-- the sequence of rows with their end row, if they are one
abbrev pub closed : List Row → LineRow → Option Sequence
closed [] end = None
closed (r ∷ rows) end =
    if not end.dropped && nat_lt r.address end.address then Some (record {
      start = r.address;
      end = end.address;
      rows = r ∷ rows;
    })
    else None

-- an end row
abbrev pub built_ended : Built → LineRow → Built
built_ended b end = record {
  sequences = b.sequences ++ option_to_list (closed b.pending end);
  pending = [];
}

-- one row more
abbrev pub row_taken : Built → LineRow → Built
row_taken b r =
    if r.end_sequence then built_ended b r
    else record { sequences = b.sequences; pending = with_row b.pending r }

-- how many rows are stored
abbrev pub stored_rows : Built → ℕ
stored_rows b = rows_in b.sequences + length b.pending

-- what is built, and how its rows are stored
pub record StoredBuilt : Type 0 where
  pub built : Built
  pub width : Width

-- before the first row
abbrev pub nothing_stored : StoredBuilt
nothing_stored = record { built = nothing_built; width = Short 0 }

-- one row more; an end row isn't stored
abbrev pub stored_taken : StoredBuilt → LineRow → StoredBuilt
stored_taken b r = record {
  built = row_taken b.built r;
  width =
      if r.end_sequence then b.width
      else width_after (stored_rows b.built) b.width (stored_row r);
}

-- how rows need to be stored, one after another
abbrev pub need_width : List LineRow → Width
need_width rows = (fold stored_taken nothing_stored rows).width

-- what the fields of a builder stand for
abbrev pub built : List Row → List LineSequence → ℕ → Built
built rows sequences first = record {
  sequences = map (unpacked rows) sequences;
  pending = drop first rows;
}

-- the rows of sequences end at or before place first, which is no further than the rows go, and
-- they are as many as there are before it
pub record IsBuilder (rows : List Row) (sequences : List LineSequence) (first : ℕ) : Type 0 where
  pub upto : first ≤ length rows
  pub each : AllByRecursion (RowsEndBy first) sequences
  pub no_others : first ≡ packed_rows_in sequences
