-- The opcodes of a line program (DWARF 5, sections 6.2.5 and 7.22).
-- Own: a standard opcode that isn't known has as many LEB128 numbers as the header says.
-- Own: bytes of an extended opcode that follow its operand are skipped.
use Rattle.std.specs.Prelude.{ℕ, zero, suc, ◌-◌, ◌==◌, ◌&&◌, List, [], ◌∷◌, length, slice_index, Option, Some, None, Ok, Err, nat_le, if◌then◌else◌, Bool, true, false}
use Rattle.gimli_line.specs.Common.{Section, is_before_5, Reading, mapped, ◌>>=◌, fixed_at, address_at, split_at, null_terminated_at, uleb128_at, sleb128_at, Run, run_of}
use Rattle.gimli_read.specs.declared.value.AttributeValue.TheVariants.{String}
use Rattle.gimli_line.specs.declared.opcode.Opcode.{Opcode}
use Rattle.gimli_line.specs.declared.opcode.Opcode.TheVariants.{Special, Copy, AdvancePc, AdvanceLine, SetFile, SetColumn, ConstAddPc, FixedAdvancePc, EndSequence, SetAddress, Other}
use Rattle.gimli_line.specs.declared.opcode.LineInstruction.{LineInstruction}
use Rattle.gimli_line.specs.declared.opcode.LineInstruction.TheVariants.{Changes, Defines}
use Rattle.gimli_line.specs.declared.constants.TheConstants.{DW_LNS_extended_op, DW_LNS_copy, DW_LNS_advance_pc, DW_LNS_advance_line, DW_LNS_set_file, DW_LNS_set_column, DW_LNS_negate_stmt, DW_LNS_set_basic_block, DW_LNS_const_add_pc, DW_LNS_fixed_advance_pc, DW_LNS_set_prologue_end, DW_LNS_set_epilogue_begin, DW_LNS_set_isa, DW_LNE_end_sequence, DW_LNE_set_address, DW_LNE_define_file, DW_LNE_set_discriminator}
use Rattle.gimli_line.specs.Header.{File, Header}

-- a file that has this path: what follows the path is its directory, a time and a length, both
-- dropped
unfoldable pub file_with_path_at : Section → Section → Reading File
file_with_path_at path s = do
  directory ← uleb128_at s
  time ← uleb128_at directory.1
  size ← uleb128_at time.1
  Ok (record { path_name = String path; directory_index = directory.0 }, size.1)

-- a file of versions 2 to 4
unfoldable pub file_entry_at : Section → Reading File
file_entry_at s = do
  path ← null_terminated_at s
  file_with_path_at path.0 path.1

-- n numbers, which are skipped
unfoldable pub numbers_skipped : ℕ → Section → Reading (Unit {0})
numbers_skipped zero s = Ok (tt, s)
numbers_skipped (suc n) s = uleb128_at s >>= λ x. numbers_skipped n x.1

-- the operands of a standard opcode
unfoldable pub standard_at : Header → ℕ → Section → Reading Opcode
standard_at h code s =
    if code == DW_LNS_copy then Ok (Copy, s)
    else if code == DW_LNS_advance_pc then mapped AdvancePc (uleb128_at s)
    else if code == DW_LNS_advance_line then mapped AdvanceLine (sleb128_at s)
    else if code == DW_LNS_set_file then mapped SetFile (uleb128_at s)
    else if code == DW_LNS_set_column then mapped SetColumn (uleb128_at s)
    else if code == DW_LNS_negate_stmt then Ok (Other, s)
    else if code == DW_LNS_set_basic_block then Ok (Other, s)
    else if code == DW_LNS_const_add_pc then Ok (ConstAddPc, s)
    else if code == DW_LNS_fixed_advance_pc then mapped FixedAdvancePc (fixed_at 2 s)
    else if code == DW_LNS_set_prologue_end then Ok (Other, s)
    else if code == DW_LNS_set_epilogue_begin then Ok (Other, s)
    else if code == DW_LNS_set_isa then mapped (λ n. Other) (uleb128_at s)
    else mapped (λ x. Other)
    (numbers_skipped (slice_index h.standard_opcode_lengths.bytes (code - 1)) s)

-- the operand of an extended opcode that defines no file
unfoldable pub operand_at : ℕ → ℕ → Section → Reading Opcode
operand_at address_size code s =
    if code == DW_LNE_end_sequence then Ok (EndSequence, s)
    else if code == DW_LNE_set_address then mapped SetAddress (address_at address_size s)
    else if code == DW_LNE_set_discriminator then mapped (λ n. Other) (uleb128_at s)
    else Ok (Other, s)

-- whether an extended opcode defines a file, which version 5 no longer does
abbrev pub defines : Header → ℕ → Bool
defines h code = code == DW_LNE_define_file && is_before_5 h.encoding.version

-- the bytes of an extended opcode, its code first
unfoldable pub extended_in : Header → Section → Reading (LineInstruction File)
extended_in h s = do
  code ← fixed_at 1 s
  if defines h code.0 then mapped Defines (file_entry_at code.1)
      else mapped Changes (operand_at h.line_encoding.address_size code.0 code.1)

-- a length, and an extended opcode in as many bytes
unfoldable pub extended_at : Header → Section → Reading (LineInstruction File)
extended_at h s = do
  size ← uleb128_at s
  text ← split_at size.0 size.1
  instruction ← extended_in h text.0
  Ok (instruction.0, text.1)

-- an instruction that defines a file
abbrev pub is_file : {F : Type 0} → LineInstruction F → Bool
is_file (Changes op) = false
is_file (Defines f) = true

-- a reading of one
abbrev pub gives_file : Reading (LineInstruction File) → Bool
gives_file (Ok x) = is_file x.0
gives_file (Err e) = false

-- the instruction that has this code
unfoldable pub coded_instruction_at : Header → ℕ → Section → Reading (LineInstruction File)
coded_instruction_at h code s =
    if code == DW_LNS_extended_op then extended_at h s
    else if nat_le h.line_encoding.opcode_base code
    then Ok (Changes (Special (code - h.line_encoding.opcode_base)), s)
    else mapped Changes (standard_at h code s)

-- an instruction, none at the end
unfoldable pub instruction_at : Header → Section → Reading (Option (LineInstruction File))
instruction_at h s = if length s.bytes == 0 then Ok (None, s) else do
  code ← fixed_at 1 s
  mapped Some (coded_instruction_at h code.0 code.1)

-- the instructions of a program that can be read, and then its end or the fault
abbrev pub instructions_of : Header → Section → Run (LineInstruction File) Section
instructions_of h s = run_of (instruction_at h) s

-- the opcodes among them, on which the rows depend
abbrev pub opcodes_in : {F : Type 0} → List (LineInstruction F) → List Opcode
opcodes_in [] = []
opcodes_in (Changes op ∷ more) = op ∷ opcodes_in more
opcodes_in (Defines f ∷ more) = opcodes_in more

-- the files that are defined on the way
abbrev pub files_in : {F : Type 0} → List (LineInstruction F) → List F
files_in [] = []
files_in (Changes op ∷ more) = files_in more
files_in (Defines f ∷ more) = f ∷ files_in more
