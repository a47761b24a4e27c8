-- Line programs as the private functions see them: registers, one opcode at a time. That the rows
-- are those of Rows is proved.
use Rattle.std.specs.Prelude.{◌++◌, ℕ, ◌+◌, ◌-◌, ◌*◌, ◌/◌, ◌%◌, ◌<◌, Bool, true, false, ◌||◌, ◌&&◌, not, [], ◌∷◌, Option, Some, None, Result, Ok, Err, nat_lt, nat_le, ◌==◌, if◌then◌else◌}
use Rattle.gimli_line.specs.Common.{Error, AddressOverflow, Section, ◌>>=◌}
use Rattle.gimli_line.specs.declared.constants.TheConstants.{DW_LNS_extended_op}
use Rattle.gimli_line.specs.declared.encoding.LineEncoding.{LineEncoding}
use Rattle.gimli_line.specs.declared.opcode.Opcode.{Opcode}
use Rattle.gimli_line.specs.declared.opcode.Opcode.TheVariants.{Special, Copy, AdvancePc, AdvanceLine, SetFile, SetColumn, ConstAddPc, FixedAdvancePc, EndSequence, SetAddress, Other}
use Rattle.gimli_line.specs.declared.opcode.LineInstruction.{LineInstruction}
use Rattle.gimli_line.specs.declared.opcode.LineInstruction.TheVariants.{Changes, Defines}
use Rattle.gimli_line.specs.declared.registers.Registers.{Registers}
use Rattle.gimli_line.specs.declared.row.LineRow.{LineRow}
use Rattle.gimli_line.specs.AddressSize.{is_tombstone}
use Rattle.gimli_line.specs.Encoding.{limit}
use Rattle.gimli_line.specs.Header.{File, Header}
use Rattle.gimli_line.specs.Opcode.{standard_at, extended_at}
use Rattle.gimli_line.specs.Rows.{advance, line_advance, moved, is_end, makes_row}

-- the registers at the start of a sequence
abbrev pub start_registers : Registers
start_registers = record {
  address = 0;
  op_index = 0;
  file_index = 1;
  line = 1;
  column = 0;
  dropping = false;
}

-- the registers that an instruction finds: the operation lies inside its instruction, and the
-- address fits
pub record IsRunning (e : LineEncoding) (r : Registers) : Type 0 where
  pub index : r.op_index < e.maximum_operations_per_instruction
  pub fits : r.address < limit e

-- the address alone advanced by bytes
abbrev pub address_advanced : ℕ → Registers → Registers
address_advanced n r = record r { address = r.address + n }

-- advanced by operations
abbrev pub advanced : LineEncoding → ℕ → Registers → Registers
advanced e n r =
    if r.dropping then r
    else record r {
      address = r.address
          + e.minimum_instruction_length
          * ((r.op_index + n) / e.maximum_operations_per_instruction);
      op_index = (r.op_index + n) % e.maximum_operations_per_instruction;
    }

-- the address is set
abbrev pub placed : LineEncoding → ℕ → Registers → Registers
placed e a r =
    if is_tombstone e.address_size a || nat_lt a r.address then record r { dropping = true }
    else record r { address = a; op_index = 0; dropping = false }

-- advanced by bytes
abbrev pub fixed_advanced : ℕ → Registers → Registers
fixed_advanced n r = if r.dropping then r else record r { address = r.address + n; op_index = 0 }

-- the registers after an opcode
abbrev pub step_registers : LineEncoding → Registers → Opcode → Registers
step_registers e r (Special n) =
    advanced e (n / e.line_range) (record r { line = moved r.line (line_advance e n) })
step_registers e r Copy = r
step_registers e r (AdvancePc n) = advanced e n r
step_registers e r (AdvanceLine z) = record r { line = moved r.line z }
step_registers e r (SetFile n) = record r { file_index = n }
step_registers e r (SetColumn n) = record r { column = n }
step_registers e r ConstAddPc = advanced e (advance e ConstAddPc) r
step_registers e r (FixedAdvancePc n) = fixed_advanced n r
step_registers e r EndSequence = r
step_registers e r (SetAddress a) = placed e a r
step_registers e r Other = r

-- registers whose address fits the address size
abbrev pub fitting : LineEncoding → Registers → Result Registers Error
fitting e r = if nat_lt r.address (limit e) then Ok r else Err AddressOverflow

-- the row that the registers show
abbrev pub shown_row : Registers → Bool → LineRow
shown_row r end = record {
  address = r.address;
  file_index = r.file_index;
  line = r.line;
  column = r.column;
  end_sequence = end;
  dropped = r.dropping;
}

-- the row that an opcode appends, after its step
abbrev pub row_of : Opcode → Registers → Option LineRow
row_of op r =
    if is_end op then Some (shown_row r true)
    else (if makes_row op && not r.dropping then Some (shown_row r false) else None)

-- the registers of the next opcode
abbrev pub registers_after : Opcode → Registers → Registers
registers_after op r = if is_end op then start_registers else r

-- the row that an opcode appends, and the registers of the next one
unfoldable pub executed : LineEncoding → Registers → Opcode
    → Result (Option LineRow × Registers) Error
executed e r op = fitting e (step_registers e r op) >>= λ s. Ok (row_of op s, registers_after op s)

-- the row that an instruction appends, the registers of the next one, and the header with its files
unfoldable pub taken : Header → Registers → LineInstruction File
    → Result (Option LineRow × Registers × Header) Error
taken h r (Changes op) = executed h.line_encoding r op >>= λ x. Ok (x.0, x.1, h)
taken h r (Defines f) = Ok (None, r, record h { file_names = h.file_names ++ f ∷ [] })

-- the row that a standard opcode appends, the registers of the next one, and the bytes after its
-- operands
unfoldable pub step_standard : Header → Registers → ℕ → Section
    → Result (Option LineRow × Registers × Section) Error
step_standard h r code s = do
  op ← standard_at h code s
  next ← executed h.line_encoding r op.0
  Ok (next.0, next.1, op.1)

-- the row that the instruction with this code appends, and the registers, the header and the bytes
-- of the next one
unfoldable pub step_instruction : Header → Registers → ℕ → Section
    → Result (Option LineRow × Registers × Header × Section) Error
step_instruction h r code s =
    if code == DW_LNS_extended_op
    then (extended_at h s >>= λ i. taken h r i.0 >>= λ x. Ok (x.0, x.1, x.2, i.1))
    else if nat_le h.line_encoding.opcode_base code
    then (executed h.line_encoding r (Special (code - h.line_encoding.opcode_base))
    >>= λ x. Ok (x.0, x.1, h, s))
    else (step_standard h r code s >>= λ x. Ok (x.0, x.1, h, x.2))
