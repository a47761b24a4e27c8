-- What many proofs of this crate cite, handed on. Declares nothing.
pub use Rattle.std.proofs.Common.{Bool, Err, IfOk, IfSome, List, None, Ok, OnErr, Option, Result, Some, [], ap, append-nil, append_assoc, arith, cond, drop, false, get_or, inl, inr, is_ok, length, length-drop, lit<, map, max, nat_le, nat_lt, negsuc, not, of_z, pos, refl, rules, slice_index, subst, suc, sum_by, sym, take, to_z, true, w64, zero, ℕ, ℤ, ◌%◌, ◌&&◌, ◌*◌, ◌++◌, ◌+◌, ◌-ℤ◌, ◌-◌, ◌/◌, ◌<◌, ◌==◌, ◌^◌, ◌||◌, ◌∙◌, ◌∷◌, ◌≡◌, ◌≤◌, ◌⊎◌}
pub use Rattle.std.proofs.lemmas.Bool.{cases_lt, le-leb, le-ltb, lt-leb, lt-ltb, ne_eqb, or_left, or_right}
pub use Rattle.std.proofs.lemmas.Bool.Decides.{nat_tests}
pub use Rattle.std.proofs.lemmas.List.{drop-drop, drop_all, drop_more, get_or-map, length-map, map-append, take_more}
pub use Rattle.std.proofs.lemmas.Result.{err_from_is_err_and}
pub use Rattle.gimli_read.proofs.AbbrevLemmas.{IsBegun, begun_by}
pub use Rattle.gimli_read.proofs.Shorter.{Shorter, TakesBytes, fixed-shorter, shorter_bind, shorter_by, shorter_err, shorter_if, shorter_ok, shorter_then, shorter_weaker, sleb128-shorter, split-shorter, takes_by, uleb128-shorter}
pub use Rattle.gimli_read.proofs.Steps.{done, guard_ok}
pub use Rattle.gimli_read.proofs.RunLemmas.{with_front}
pub use Rattle.gimli_read.specs.Form.{as_value}
unfoldable pub use Rattle.gimli_read.specs.Form.{value_at}
pub use Rattle.gimli_read.specs.Number.{ended_at, fits_i64, fixed_at, is_address_size, null_terminated_at, number_of, skipped_at}
pub use Rattle.gimli_read.specs.Reading.{Exactly, Reading, fault_of, mapped, ◌>>=◌}
pub use Rattle.gimli_read.specs.Run.{Run, collected, run_of}
pub use Rattle.gimli_read.specs.Section.{Section, after}
pub use Rattle.gimli_read.specs.declared.error.Error.{Error}
pub use Rattle.gimli_read.specs.declared.error.Error.TheVariants.{AddressOverflow, BadLineHeader, UnexpectedEof, UnknownVersion, UnsupportedAddressSize, UnsupportedSegmentSize}
pub use Rattle.gimli_line.specs.Encoding.{limit}
pub use Rattle.gimli_line.specs.EntryTables.{EntryValues, filed, is_sound_format, no_entry, with_value}
unfoldable pub use Rattle.gimli_line.specs.EntryTables.{format_at, formatted_entry_at, times, values_at}
pub use Rattle.gimli_line.specs.Header.{File, Header, Program}
pub use Rattle.gimli_line.specs.Left.{DefinesOn, FindsRow, ahead_after, ahead_left, continued_rows, files_left, rows_left, with_row_first}
unfoldable pub use Rattle.gimli_line.specs.Left.{ahead_from, rows_from}
pub use Rattle.gimli_line.specs.Lines.{HasDefined, IsOver, Lines, YieldsUnlessOom, lines_of, with_files}
pub use Rattle.gimli_line.specs.Opcode.{defines, files_in, gives_file, instructions_of, opcodes_in}
unfoldable pub use Rattle.gimli_line.specs.Opcode.{coded_instruction_at, extended_at, extended_in, file_entry_at, file_with_path_at, instruction_at, numbers_skipped, operand_at, standard_at}
pub use Rattle.gimli_line.specs.Rows.{AddressState, address_after, address_of, address_state, advance, based, column_after, ended, file_after, is_end, line_advance, line_after, makes_row, moved, past_after, row_after, row_from, rows_after}
pub use Rattle.gimli_line.specs.Steps.{IsRunning, advanced, fitting, fixed_advanced, placed, registers_after, row_of, shown_row, start_registers, step_registers}
unfoldable pub use Rattle.gimli_line.specs.Steps.{executed, step_instruction, step_standard, taken}
unfoldable pub use Rattle.gimli_line.specs.Tables.{directory_at, file_at}
pub use Rattle.gimli_line.specs.Taking.{Executes, Passes, TakesFirst, TakesOpcode, all_taken, fault_after, shown}
pub use Rattle.gimli_line.specs.declared.constants.TheConstants.{DW_LNE_end_sequence, DW_LNE_set_address, DW_LNE_set_discriminator, DW_LNS_advance_line, DW_LNS_advance_pc, DW_LNS_const_add_pc, DW_LNS_copy, DW_LNS_extended_op, DW_LNS_fixed_advance_pc, DW_LNS_negate_stmt, DW_LNS_set_basic_block, DW_LNS_set_column, DW_LNS_set_epilogue_begin, DW_LNS_set_file, DW_LNS_set_isa, DW_LNS_set_prologue_end}
pub use Rattle.gimli_line.specs.declared.encoding.LineEncoding.{LineEncoding}
pub use Rattle.gimli_line.specs.declared.opcode.LineInstruction.{LineInstruction}
pub use Rattle.gimli_line.specs.declared.opcode.LineInstruction.TheVariants.{Changes, Defines}
pub use Rattle.gimli_line.specs.declared.opcode.Opcode.{Opcode}
pub use Rattle.gimli_line.specs.declared.opcode.Opcode.TheVariants.{AdvanceLine, AdvancePc, ConstAddPc, Copy, EndSequence, FixedAdvancePc, Other, SetAddress, SetColumn, SetFile, Special}
pub use Rattle.gimli_line.specs.declared.registers.Registers.{Registers}
pub use Rattle.gimli_line.specs.declared.row.LineRow.{LineRow}
