-- The rows of a line program (DWARF 5, sections 6.2.2 and 6.2.5).
-- Own: a line below zero becomes 0, and one of 2^64 or more wraps.
-- Own: AddressOverflow stands at the first opcode after which the address passes the address size.
-- Own: an address of all ones, of all ones less one, or below the current one starts dropping: no
-- rows, and no changes of the address, until one that is none of these, or the sequence's end.
use Rattle.std.specs.Prelude.{ℕ, ◌+◌, ◌-◌, ◌*◌, ◌/◌, ◌%◌, ◌^◌, ℤ, pos, negsuc, ◌+ℤ◌, Bool, true, false, ◌||◌, ◌&&◌, not, List, [], ◌∷◌, Result, Ok, Err, sum_by, nat_lt, if◌then◌else◌}
use Rattle.gimli_line.specs.Common.{Error, AddressOverflow, Run}
use Rattle.gimli_line.specs.declared.encoding.LineEncoding.{LineEncoding}
use Rattle.gimli_line.specs.declared.opcode.Opcode.{Opcode}
use Rattle.gimli_line.specs.declared.opcode.Opcode.TheVariants.{Special, Copy, AdvancePc, AdvanceLine, SetFile, SetColumn, ConstAddPc, FixedAdvancePc, EndSequence, SetAddress}
use Rattle.gimli_line.specs.declared.opcode.LineInstruction.{LineInstruction}
use Rattle.gimli_line.specs.declared.row.LineRow.{LineRow}
use Rattle.gimli_line.specs.declared.constants.TheConstants.{LAST_SPECIAL_OPCODE}
use Rattle.gimli_line.specs.AddressSize.{is_tombstone}
use Rattle.gimli_line.specs.Encoding.{limit}
use Rattle.gimli_line.specs.Opcode.{opcodes_in}

-- by how many operations an opcode advances
abbrev pub advance : LineEncoding → Opcode → ℕ
advance e (Special n) = n / e.line_range
advance e (AdvancePc n) = n
advance e ConstAddPc = (LAST_SPECIAL_OPCODE - e.opcode_base) / e.line_range
advance e _ = 0

-- by how many lines a special opcode moves the line
abbrev pub line_advance : LineEncoding → ℕ → ℤ
line_advance e n = e.line_base +ℤ pos (n % e.line_range)

-- a line that is moved, not below 0 and by 64 bits
abbrev pub moved : ℕ → ℤ → ℕ
moved line (pos n) = (line + n) % 2 ^ 64
moved line (negsuc n) = line - (n + 1)

-- In what follows, past are the opcodes of a sequence so far, the newest first.

-- 1, moved by each line advance in turn
abbrev pub line_after : LineEncoding → List Opcode → ℕ
line_after e [] = 1
line_after e (Special n ∷ past) = moved (line_after e past) (line_advance e n)
line_after e (AdvanceLine z ∷ past) = moved (line_after e past) z
line_after e (op ∷ past) = line_after e past

-- the last file set, or 1
abbrev pub file_after : List Opcode → ℕ
file_after [] = 1
file_after (SetFile n ∷ past) = n
file_after (op ∷ past) = file_after past

-- the last column set, or 0
abbrev pub column_after : List Opcode → ℕ
column_after [] = 0
column_after (SetColumn n ∷ past) = n
column_after (op ∷ past) = column_after past

-- the last base, the opcodes that count since then, and whether opcodes are dropped
pub record AddressState : Type 0 where
  pub base : ℕ
  pub counting : List Opcode
  pub dropping : Bool

-- the base, and the minimum length for each full instruction of the operations since then
abbrev pub address_of : LineEncoding → AddressState → ℕ
address_of e c =
    c.base
    + e.minimum_instruction_length
    * (sum_by (advance e) c.counting / e.maximum_operations_per_instruction)

-- from this address on
abbrev pub based : ℕ → AddressState
based a = record { base = a; counting = []; dropping = false }

-- an accepted address and a fixed advance are new bases; while dropping nothing counts
abbrev pub address_state : LineEncoding → List Opcode → AddressState
address_state e [] = based 0
address_state e (SetAddress a ∷ past) =
    if is_tombstone e.address_size a || nat_lt a (address_of e (address_state e past))
    then record (address_state e past) { dropping = true } else based a
address_state e (FixedAdvancePc n ∷ past) =
    if (address_state e past).dropping then address_state e past
    else based (address_of e (address_state e past) + n)
address_state e (op ∷ past) =
    if (address_state e past).dropping then address_state e past
    else record (address_state e past) { counting = op ∷ (address_state e past).counting }

-- the address
abbrev pub address_after : LineEncoding → List Opcode → ℕ
address_after e past = address_of e (address_state e past)

-- the row that they show
abbrev pub row_after : LineEncoding → List Opcode → Bool → LineRow
row_after e past end = record {
  address = address_after e past;
  file_index = file_after past;
  line = line_after e past;
  column = column_after past;
  end_sequence = end;
  dropped = (address_state e past).dropping;
}

-- the opcode that ends a sequence
abbrev pub is_end : Opcode → Bool
is_end EndSequence = true
is_end _ = false

-- the opcodes that append a row
abbrev pub makes_row : Opcode → Bool
makes_row (Special n) = true
makes_row Copy = true
makes_row _ = false

-- the row of the newest opcode, if it appends one, before the rows of the opcodes that follow
abbrev pub row_from : LineEncoding → Opcode → List Opcode → List (Result LineRow Error)
    → List (Result LineRow Error)
row_from e op past rest =
    if is_end op then Ok (row_after e past true) ∷ rest
    else (if makes_row op && not (address_state e past).dropping
    then Ok (row_after e past false) ∷ rest
    else rest)

-- the opcodes of the sequence before the next one: none after an end
abbrev pub past_after : Opcode → List Opcode → List Opcode
past_after op past = if is_end op then [] else op ∷ past

-- the fault after the opcodes that can be read
abbrev pub ended : {Z : Type 0} → Result Z Error → List (Result LineRow Error)
ended (Ok z) = []
ended (Err x) = Err x ∷ []

-- the rows of opcodes, up to the first after which the address passes its size
abbrev pub rows_after : {Z : Type 0} → LineEncoding → List Opcode → List Opcode → Result Z Error
    → List (Result LineRow Error)
rows_after e past [] end = ended end
rows_after e past (op ∷ ops) end =
    if nat_lt (address_after e (op ∷ past)) (limit e)
    then row_from e op (op ∷ past) (rows_after e (past_after op past) ops end)
    else Err AddressOverflow ∷ []

-- the rows of a program's instructions, and at most one fault, the last
abbrev pub rows_of : {F Z : Type 0} → LineEncoding → Run (LineInstruction F) Z
    → List (Result LineRow Error)
rows_of e run = rows_after e [] (opcodes_in run.items) run.end
