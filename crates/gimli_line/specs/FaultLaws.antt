-- No reading of a line program gives OutOfMemory (DWARF 5, section 6.2): whatever the bytes are, it
-- gives a value or another fault.
-- Own: a refused growth alone answers OutOfMemory, so only where a contract allows it beside what
-- is given.
use Rattle.std.specs.Prelude.{ℕ}
use Rattle.gimli_line.specs.Common.{Encoding, WasNotRefused, Section}
use Rattle.gimli_read.specs.FaultLaws.{NoneWasRefused}
use Rattle.gimli_line.specs.Header.{Header, Program}
use Rattle.gimli_line.specs.Lines.{lines_of}
use Rattle.gimli_line.specs.Opcode.{coded_instruction_at, instruction_at, instructions_of}
use Rattle.gimli_line.specs.EntryTables.{entry_table_at}
use Rattle.gimli_line.specs.Program.{line_header_fields_at, line_program_at}
use Rattle.gimli_line.specs.Tables.{directory_at, file_at, tables_at}
use Rattle.gimli_line.specs.Taking.{fault_after}

-- no reading of a header, of its tables or of what stands in them does
pub record HeadersAreNotRefused : Type 0 where
  pub directory : (s : Section) → WasNotRefused (directory_at s)
  pub file : (s : Section) → WasNotRefused (file_at s)
  pub entries : (encoding : Encoding) (s : Section) → WasNotRefused (entry_table_at encoding s)
  pub tables : (encoding : Encoding) (s : Section) → WasNotRefused (tables_at encoding s)
  pub fields : (unit_size : ℕ) (s : Section) → WasNotRefused (line_header_fields_at unit_size s)
  pub program : (unit_size : ℕ) (s : Section) → WasNotRefused (line_program_at unit_size s)

-- no reading of an instruction does, nor what follows those that can be read
pub record InstructionsAreNotRefused : Type 0 where
  pub coded : (h : Header) (code : ℕ) (s : Section)
      → WasNotRefused (coded_instruction_at h code s)
  pub one : (h : Header) (s : Section) → WasNotRefused (instruction_at h s)
  pub end : (h : Header) (s : Section) → WasNotRefused (instructions_of h s).end

-- none of the rows of a program is, nor is the fault after them
pub record RowsAreNotRefused : Type 0 where
  pub each : (p : Program) → NoneWasRefused (lines_of p).left
  pub fault : (p : Program) → WasNotRefused (fault_after (lines_of p).left)

-- none of these readings does
pub record ProgramsAreNotRefused : Type 0 where
  pub headers : HeadersAreNotRefused
  pub instructions : InstructionsAreNotRefused
  pub rows : RowsAreNotRefused
