-- What is left of a line program, as the private functions see it: by registers, one opcode at a
-- time. That its rows and files are those of Rows is proved.
use Rattle.std.specs.Prelude.{◌≡◌, ◌≢◌, List, [], ◌∷◌, Option, Some, None, Result, Ok, Err}
use Rattle.gimli_line.specs.Common.{Error, OutOfMemory, Section}
use Rattle.gimli_line.specs.declared.encoding.LineEncoding.{LineEncoding}
use Rattle.gimli_line.specs.declared.opcode.Opcode.{Opcode}
use Rattle.gimli_line.specs.declared.opcode.LineInstruction.{LineInstruction}
use Rattle.gimli_line.specs.declared.opcode.LineInstruction.TheVariants.{Changes, Defines}
use Rattle.gimli_line.specs.declared.registers.Registers.{Registers}
use Rattle.gimli_line.specs.declared.row.LineRow.{LineRow}
use Rattle.gimli_line.specs.Header.{File, Header, KeepsFilesOf}
use Rattle.gimli_line.specs.Opcode.{opcodes_in, files_in, instructions_of}
use Rattle.gimli_line.specs.Rows.{ended}
use Rattle.gimli_line.specs.Steps.{executed}

-- a row, if there is one, before others
abbrev pub with_row_first : Option LineRow → List (Result LineRow Error)
    → List (Result LineRow Error)
with_row_first None rest = rest
with_row_first (Some x) rest = Ok x ∷ rest

-- the row of an opcode, and then the others
abbrev pub continued_rows : (Registers → List (Result LineRow Error))
    → Result (Option LineRow × Registers) Error → List (Result LineRow Error)
continued_rows others (Ok x) = with_row_first x.0 (others x.1)
continued_rows others (Err x) = Err x ∷ []

-- the rows of opcodes from these registers on
unfoldable pub rows_from : {Z : Type 0} → LineEncoding → Registers → List Opcode → Result Z Error
    → List (Result LineRow Error)
rows_from e r [] end = ended end
rows_from e r (op ∷ ops) end = continued_rows (λ s. rows_from e s ops end) (executed e r op)

-- the rows that are left, from these registers on
abbrev pub rows_left : Header → Registers → Section → List (Result LineRow Error)
rows_left h r s =
    rows_from h.line_encoding r (opcodes_in (instructions_of h s).items) (instructions_of h s).end

-- the files that are still to be defined
abbrev pub files_left : Header → Section → List File
files_left h s = files_in (instructions_of h s).items

-- the files that others define, where no row and no fault comes first
abbrev pub ahead_after : {F : Type 0} → (Registers → List F)
    → Result (Option LineRow × Registers) Error → List F
ahead_after others (Ok (None, s)) = others s
ahead_after others (Ok (Some x, s)) = []
ahead_after others (Err x) = []

-- the files that instructions define before the next row or fault, from these registers on
unfoldable pub ahead_from : {F : Type 0} → LineEncoding → Registers → List (LineInstruction F)
    → List F
ahead_from e r [] = []
ahead_from e r (Changes op ∷ more) = ahead_after (λ s. ahead_from e s more) (executed e r op)
ahead_from e r (Defines f ∷ more) = f ∷ ahead_from e r more

-- the files that are defined before the next row or fault
abbrev pub ahead_left : Header → Registers → Section → List File
ahead_left h r s = ahead_from h.line_encoding r (instructions_of h s).items

-- what a search for a row found of the rows that were left, and which are left after it
abbrev pub FindsRow : List (Result LineRow Error) → Result (Option LineRow) Error
    → List (Result LineRow Error) → Type 0
FindsRow old (Ok None) new = (old ≡ []) × (new ≡ [])
FindsRow old (Ok (Some x)) new = old ≡ Ok x ∷ new
FindsRow old (Err e) new = e ≢ OutOfMemory → old ≡ Err e ∷ []

-- the files so far and those that are left to define stay the same, and so does the rest of the
-- header
abbrev pub DefinesOn : Header → Section → Header → Section → Type 0
DefinesOn h s g t = KeepsFilesOf h (files_left h s) g (files_left g t)
