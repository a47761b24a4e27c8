-- The checksum of the rows of a section's line programs (DWARF 5, section 6.2).
-- Own: a sum of 64 bits, in which each row counts 31 times as much as the next one.
use Rattle.std.specs.Prelude.{ℕ, ◌+◌, ◌*◌, ◌%◌, ◌^◌, ◌==◌, Bool, List, [], ◌∷◌, length, Option, Some, None, Result, Ok, Err, if◌then◌else◌}
use Rattle.gimli_read.specs.declared.error.Error.{Error}
use Rattle.gimli_read.specs.Section.{Section}
use Rattle.gimli_read.specs.Reading.{Reading, ◌>>=◌}
use Rattle.gimli_read.specs.Number.{initial_length_at, skipped_at}
use Rattle.gimli_read.specs.Run.{run_of, fold_of}
use Rattle.gimli_line.specs.Header.{Program}
use Rattle.gimli_line.specs.Lines.{lines_of}
use Rattle.gimli_line.specs.Program.{line_program_at}
use Rattle.gimli_line.specs.declared.row.LineRow.{LineRow}

-- by 64 bits
abbrev pub wrapped : ℕ → ℕ
wrapped n = n % 2 ^ 64

-- 1 for true
abbrev pub bit : Bool → ℕ
bit b = if b then 1 else 0

-- the marks of a row
abbrev pub marks : LineRow → ℕ
marks row = bit row.end_sequence + 2 * bit row.dropped

-- the fields of a row, each times a number of its own
abbrev pub weighted_fields : LineRow → ℕ
weighted_fields row =
    wrapped (wrapped (wrapped (wrapped (row.address + wrapped (row.line * 3))
    + wrapped (row.column * 5)) + wrapped (row.file_index * 7)) + wrapped (marks row * 11))

-- a sum with one row more
abbrev pub with_row_sum : ℕ → LineRow → ℕ
with_row_sum sum row = wrapped (wrapped (sum * 31) + weighted_fields row)

-- a sum with the rows of a list, or the fault after them
unfoldable pub with_rows : ℕ → List (Result LineRow Error) → Result ℕ Error
with_rows sum [] = Ok sum
with_rows sum (Ok row ∷ rest) = with_rows (with_row_sum sum row) rest
with_rows sum (Err e ∷ rest) = Err e

-- a program and where the next one stands, none at the end; addresses have 8 bytes where version 2
-- to 4 leaves it to the unit
unfoldable pub program_at : Section → Reading (Option Program)
program_at s = if length s.bytes == 0 then Ok (None, s) else do
  length ← initial_length_at s
  rest ← skipped_at length.0.0 length.1
  program ← line_program_at 8 s
  Ok (Some program, rest.1)

-- a sum with the rows of a program
unfoldable pub with_program : ℕ → Program → Result ℕ Error
with_program sum p = with_rows sum (lines_of p).left

-- the sum of all programs, one after another
abbrev pub checksum : Section → Result ℕ Error
checksum s = fold_of with_program 0 (run_of program_at s) >>= λ x. Ok x.0
