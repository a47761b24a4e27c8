-- What rows mean to one who walks code: within a sequence addresses do not fall (DWARF 5, section
-- 6.2.1).
use Rattle.std.specs.Prelude.{◌≡◌, ◌<◌, ◌≤◌, List, [], ◌∷◌, false, Result, Ok, Err}
use Rattle.gimli_line.specs.Common.{Error, Section, Run}
use Rattle.gimli_line.specs.declared.encoding.LineEncoding.{LineEncoding}
use Rattle.gimli_line.specs.declared.opcode.LineInstruction.{LineInstruction}
use Rattle.gimli_line.specs.declared.row.LineRow.{LineRow}
use Rattle.gimli_line.specs.Rows.{rows_of}
use Rattle.gimli_line.specs.Header.{File}

-- the rows before the fault
abbrev pub rows_before : {X : Type 0} → List (Result X Error) → List X
rows_before [] = []
rows_before (Ok x ∷ rest) = x ∷ rows_before rest
rows_before (Err e ∷ rest) = []

-- up to the row that ends a sequence each row's address is at most the next one's
abbrev pub NeverFalls : List LineRow → Type 0
NeverFalls [] = Unit {0}
NeverFalls (r ∷ []) = Unit {0}
NeverFalls (r ∷ s ∷ rows) = (r.end_sequence ≡ false → r.address ≤ s.address) × NeverFalls (s ∷ rows)

-- the rows of any instructions never fall
abbrev pub RowsRise : Type 0
RowsRise = (e : LineEncoding) (run : Run (LineInstruction File) Section)
    → 0 < e.maximum_operations_per_instruction → NeverFalls (rows_before (rows_of e run))
