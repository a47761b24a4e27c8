use Rattle.gimli_line.proofs.Common.{lines_of}
use Rattle.gimli_read.proofs.FaultLemmas.{none_refused, not_refused}
use Rattle.gimli_line.proofs.FaultLemmas.{coded_instruction_is, directory_is, entry_table_is, fault_after_is, file_is, instruction_is, instructions_end, line_header_fields_are, line_program_is, rows_of_are, tables_are}
use Rattle.gimli_line.proofs.laws.fault_laws.Goals as goal

pub returns : goal.returns
returns c = record {
  law = record {
    headers = record {
      directory = λ s. not_refused (directory_is s);
      file = λ s. not_refused (file_is s);
      entries = λ e s. not_refused (entry_table_is e s);
      tables = λ e s. not_refused (tables_are e s);
      fields = λ unit_size s. not_refused (line_header_fields_are unit_size s);
      program = λ unit_size s. not_refused (line_program_is unit_size s);
    };
    instructions = record {
      coded = λ h code s. not_refused (coded_instruction_is h code s);
      one = λ h s. not_refused (instruction_is h s);
      end = λ h s. not_refused (instructions_end h s);
    };
    rows = record {
      each = λ p. none_refused (lines_of p).left (rows_of_are p);
      fault = λ p. not_refused (fault_after_is (lines_of p).left (rows_of_are p));
    };
  };
}
