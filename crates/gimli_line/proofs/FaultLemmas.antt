-- No line program gives OutOfMemory, neither in its header nor among its rows (on specs/Program.antt, Lines and those that they stand on).
use Rattle.gimli_line.proofs.Common.{ℕ, zero, suc, ◌-◌, ◌==◌, ◌&&◌, not, Bool, true, false, cond, List, [], ◌∷◌, length, slice_index, Option, Some, None, Result, Ok, Err, nat_lt, nat_le, Error, AddressOverflow, BadLineHeader, UnknownVersion, UnsupportedAddressSize, UnsupportedSegmentSize, Section, Reading, is_address_size, run_of, DW_LNS_extended_op, DW_LNS_copy, DW_LNS_advance_pc, DW_LNS_advance_line, DW_LNS_set_file, DW_LNS_set_column, DW_LNS_negate_stmt, DW_LNS_set_basic_block, DW_LNS_const_add_pc, DW_LNS_fixed_advance_pc, DW_LNS_set_prologue_end, DW_LNS_set_epilogue_begin, DW_LNS_set_isa, DW_LNE_end_sequence, DW_LNE_set_address, DW_LNE_set_discriminator, LineEncoding, Opcode, AdvancePc, AdvanceLine, SetFile, SetColumn, FixedAdvancePc, SetAddress, Other, Changes, Defines, Registers, LineRow, limit, Header, Program, file_with_path_at, file_entry_at, numbers_skipped, standard_at, operand_at, defines, extended_in, extended_at, coded_instruction_at, instruction_at, instructions_of, opcodes_in, times, format_at, is_sound_format, EntryValues, no_entry, with_value, values_at, filed, formatted_entry_at, directory_at, file_at, address_after, address_state, is_end, makes_row, row_after, row_from, past_after, ended, rows_after, lines_of, fitting, executed, fault_after}
use Rattle.gimli_read.specs.declared.endian.Encoding.{Encoding}
use Rattle.gimli_read.specs.declared.endian.Format.{Format}
use Rattle.gimli_read.specs.declared.value.AttributeValue.{AttributeValue}
use Rattle.gimli_read.specs.Version.{is_before_4, is_before_5, is_unknown}
use Rattle.gimli_read.proofs.FaultLemmas.{IsByBytes, AreByBytes, step, either, value, fault, test, moved_fault, mapped_is, run_of_is, collected_is, fixed_is, signed_byte_is, address_size_is, address_is, offset_is, split_is, null_terminated_is, initial_length_is, uleb128_is, sleb128_is, value_is}
use Rattle.gimli_line.specs.declared.entry_tables.EntryFormat.{EntryFormat}
use Rattle.gimli_line.specs.EntryTables.{formats_at, entry_front_at, entry_table_at}
use Rattle.gimli_line.specs.Program.{program_address_size_at, nonzero_at, operations_at, numbers_at, unit_fields_at, line_header_fields_at, line_program_at}
use Rattle.gimli_line.specs.Tables.{old_tables_at, new_tables_at, tables_at}
use Rattle.gimli_line.specs.Steps.{step_registers as step_of}

-- ---- instructions
pub file_with_path_is : (path s : Section) → IsByBytes (file_with_path_at path s)
unfolding file_with_path_at
file_with_path_is path s = step (uleb128_is s) (λ d. step (uleb128_is d.1) (λ t. step (uleb128_is t.1) (λ n. value)))

pub file_entry_is : (s : Section) → IsByBytes (file_entry_at s)
unfolding file_entry_at
file_entry_is s = step (null_terminated_is s) (λ path. file_with_path_is path.0 path.1)

pub numbers_skipped_is : (n : ℕ) (s : Section) → IsByBytes (numbers_skipped n s)
unfolding numbers_skipped
numbers_skipped_is zero s = value
numbers_skipped_is (suc n) s = step (uleb128_is s) (λ x. numbers_skipped_is n x.1)

pub standard_is : (h : Header) (code : ℕ) (s : Section) → IsByBytes (standard_at h code s)
unfolding standard_at
standard_is h code s =
    either (code == DW_LNS_copy) value
    (either (code == DW_LNS_advance_pc) (mapped_is AdvancePc (uleb128_is s))
    (either (code == DW_LNS_advance_line) (mapped_is AdvanceLine (sleb128_is s))
    (either (code == DW_LNS_set_file) (mapped_is SetFile (uleb128_is s))
    (either (code == DW_LNS_set_column) (mapped_is SetColumn (uleb128_is s))
    (either (code == DW_LNS_negate_stmt) value
    (either (code == DW_LNS_set_basic_block) value
    (either (code == DW_LNS_const_add_pc) value
    (either (code == DW_LNS_fixed_advance_pc) (mapped_is FixedAdvancePc (fixed_is 2 s))
    (either (code == DW_LNS_set_prologue_end) value
    (either (code == DW_LNS_set_epilogue_begin) value
    (either (code == DW_LNS_set_isa) (mapped_is (λ n. Other) (uleb128_is s))
    (mapped_is (λ x. Other) (numbers_skipped_is (slice_index h.standard_opcode_lengths.bytes (code - 1)) s)))))))))))))

pub operand_is : (address_size code : ℕ) (s : Section) → IsByBytes (operand_at address_size code s)
unfolding operand_at
operand_is address_size code s =
    either (code == DW_LNE_end_sequence) value
    (either (code == DW_LNE_set_address) (mapped_is SetAddress (address_is address_size s))
    (either (code == DW_LNE_set_discriminator) (mapped_is (λ n. Other) (uleb128_is s)) value))

pub extended_in_is : (h : Header) (s : Section) → IsByBytes (extended_in h s)
unfolding extended_in
extended_in_is h s =
    step (fixed_is 1 s) (λ code. either (defines h code.0) (mapped_is Defines (file_entry_is code.1)) (mapped_is Changes (operand_is h.line_encoding.address_size code.0 code.1)))

pub extended_is : (h : Header) (s : Section) → IsByBytes (extended_at h s)
unfolding extended_at
extended_is h s = step (uleb128_is s) (λ size. step (split_is size.0 size.1) (λ text. step (extended_in_is h text.0) (λ i. value)))

pub coded_instruction_is : (h : Header) (code : ℕ) (s : Section) → IsByBytes (coded_instruction_at h code s)
unfolding coded_instruction_at
coded_instruction_is h code s =
    either (code == DW_LNS_extended_op) (extended_is h s)
    (either (nat_le h.line_encoding.opcode_base code) value (mapped_is Changes (standard_is h code s)))

pub instruction_is : (h : Header) (s : Section) → IsByBytes (instruction_at h s)
unfolding instruction_at
instruction_is h s = either (length s.bytes == 0) value (step (fixed_is 1 s) (λ code. mapped_is Some (coded_instruction_is h code.0 code.1)))

-- what follows the instructions that can be read
pub instructions_end : (h : Header) (s : Section) → IsByBytes (instructions_of h s).end
instructions_end h s = run_of_is (instruction_at h) (instruction_is h) s

-- ---- rows
fitting_is : (e : LineEncoding) (r : Registers) → IsByBytes (fitting e r)
fitting_is e r = either (nat_lt r.address (limit e)) value (fault AddressOverflow (λ p. cc))

pub executed_is : (e : LineEncoding) (r : Registers) (op : Opcode) → IsByBytes (executed e r op)
unfolding executed
executed_is e r op = step (fitting_is e (step_of e r op)) (λ q. value)

either_rows : {A : Type 0} (b : Bool) (rows others : List (Result A Error)) → AreByBytes rows → AreByBytes others → AreByBytes (cond b rows others)
either_rows true rows others h k = h
either_rows false rows others h k = k

ended_are : {Z : Type 0} (end : Result Z Error) → IsByBytes end → AreByBytes (ended end)
ended_are (Ok z) h = tt
ended_are (Err e) h = (moved_fault h, tt)

row_is_first : (e : LineEncoding) (op : Opcode) (past : List Opcode) (rest : List (Result LineRow Error)) → AreByBytes rest → AreByBytes (row_from e op past rest)
row_is_first e op past rest h =
    either_rows (is_end op) (Ok (row_after e past true) ∷ rest) _ (value, h)
    (either_rows (makes_row op && not (address_state e past).dropping) (Ok (row_after e past false) ∷ rest) rest (value, h) h)

rows_are : {Z : Type 0} (e : LineEncoding) (past ops : List Opcode) (end : Result Z Error) → IsByBytes end → AreByBytes (rows_after e past ops end)
rows_are e past [] end h = ended_are end h
rows_are e past (op ∷ ops) end h =
    either_rows (nat_lt (address_after e (op ∷ past)) (limit e)) (row_from e op (op ∷ past) (rows_after e (past_after op past) ops end)) (Err AddressOverflow ∷ [])
    (row_is_first e op (op ∷ past) (rows_after e (past_after op past) ops end) (rows_are e (past_after op past) ops end h))
    (fault AddressOverflow (λ p. cc), tt)

-- a program's rows, and the fault after them
pub rows_of_are : (p : Program) → AreByBytes (lines_of p).left
rows_of_are p = rows_are p.header.line_encoding [] (opcodes_in (instructions_of p.header p.program).items) (instructions_of p.header p.program).end (instructions_end p.header p.program)

pub fault_after_is : {X : Type 0} (left : List (Result X Error)) → AreByBytes left → IsByBytes (fault_after left)
fault_after_is [] h = value
fault_after_is (Ok x ∷ rest) h = fault_after_is rest h.1
fault_after_is (Err e ∷ rest) h = moved_fault h.0

-- ---- tables
pub times_are : {A : Type 0} {part : Section → Reading A} → ((s : Section) → IsByBytes (part s)) → (n : ℕ) (s : Section) → IsByBytes (times part n s)
unfolding times
times_are h zero s = value
times_are h (suc n) s = step (h s) (λ first. step (times_are h n first.1) (λ others. value))

pub format_is : (s : Section) → IsByBytes (format_at s)
unfolding format_at
format_is s = step (uleb128_is s) (λ type. step (uleb128_is type.1) (λ form. value))

pub formats_are : (s : Section) → IsByBytes (formats_at s)
unfolding formats_at
formats_are s = step (fixed_is 1 s) (λ count. times_are format_is count.0 count.1)

values_are : (e : Encoding) (formats : List EntryFormat) (entry : EntryValues) (s : Section) → IsByBytes (values_at e formats entry s)
unfolding values_at
values_are e [] entry s = value
values_are e (f ∷ formats) entry s = step (value_is e f.form.0 s) (λ x. values_are e formats (with_value f.content_type x.0 entry) x.1)

filed_is : (path : Option (AttributeValue Section)) (index : ℕ) → IsByBytes (filed path index)
filed_is None index = fault BadLineHeader (λ p. cc)
filed_is (Some path) index = value

pub entry_is : (e : Encoding) (formats : List EntryFormat) (s : Section) → IsByBytes (formatted_entry_at e formats s)
unfolding formatted_entry_at
entry_is e formats s =
    step (values_are e formats no_entry s) (λ entry. step (filed_is entry.0.path_name entry.0.directory_index) (λ file. value))

pub entry_front_is : (s : Section) → IsByBytes (entry_front_at s)
unfolding entry_front_at
entry_front_is s =
    step (formats_are s) (λ formats. step (uleb128_is formats.1) (λ count.
    step (test (not (count.0 == 0) && not (is_sound_format formats.0)) BadLineHeader (λ p. cc)) (λ u. value)))

pub entry_table_is : (e : Encoding) (s : Section) → IsByBytes (entry_table_at e s)
unfolding entry_table_at
entry_table_is e s = step (entry_front_is s) (λ front. times_are (entry_is e front.0.formats) front.0.count front.1)

pub directory_is : (s : Section) → IsByBytes (directory_at s)
unfolding directory_at
directory_is s = step (null_terminated_is s) (λ path. either (length path.0.bytes == 0) value value)

pub file_is : (s : Section) → IsByBytes (file_at s)
unfolding file_at
file_is s =
    step (null_terminated_is s) (λ path. either (length path.0.bytes == 0) value (step (file_with_path_is path.0 path.1) (λ file. value)))

pub old_tables_are : (s : Section) → IsByBytes (old_tables_at s)
unfolding old_tables_at
old_tables_are s =
    step (collected_is (run_of directory_at s) (run_of_is directory_at directory_is s)) (λ directories.
    step (collected_is (run_of file_at directories.1) (run_of_is file_at file_is directories.1)) (λ files. value))

pub new_tables_are : (e : Encoding) (s : Section) → IsByBytes (new_tables_at e s)
unfolding new_tables_at
new_tables_are e s = step (entry_table_is e s) (λ directories. step (entry_table_is e directories.1) (λ files. value))

pub tables_are : (e : Encoding) (s : Section) → IsByBytes (tables_at e s)
unfolding tables_at
tables_are e s = at (is_before_5 e.version)
  where
    at : (b : Bool) → IsByBytes (cond b (old_tables_at s) (new_tables_at e s))
    at true = old_tables_are s
    at false = new_tables_are e s

-- ---- the header
program_address_size_is : (version unit_size : ℕ) (s : Section) → IsByBytes (program_address_size_at version unit_size s)
unfolding program_address_size_at
program_address_size_is version unit_size s =
    either (is_before_5 version)
    (step (test (not (is_address_size unit_size)) UnsupportedAddressSize (λ p. cc)) (λ u. value))
    (step (address_size_is s) (λ size. step (fixed_is 1 size.1) (λ segment. step (test (not (segment.0 == 0)) UnsupportedSegmentSize (λ p. cc)) (λ u. value))))

nonzero_is : (s : Section) → IsByBytes (nonzero_at s)
unfolding nonzero_at
nonzero_is s = step (fixed_is 1 s) (λ byte. step (test (byte.0 == 0) BadLineHeader (λ p. cc)) (λ u. value))

operations_are : (version : ℕ) (s : Section) → IsByBytes (operations_at version s)
unfolding operations_at
operations_are version s = either (is_before_4 version) value (nonzero_is s)

numbers_are : (e : Encoding) (s : Section) → IsByBytes (numbers_at e s)
unfolding numbers_at
numbers_are e s =
    step (nonzero_is s) (λ length. step (operations_are e.version length.1) (λ operations.
    step (fixed_is 1 operations.1) (λ is_stmt. step (signed_byte_is is_stmt.1) (λ base.
    step (nonzero_is base.1) (λ range. step (nonzero_is range.1) (λ opcode_base. value))))))

pub unit_fields_are : (unit_size : ℕ) (format : Format) (s : Section) → IsByBytes (unit_fields_at unit_size format s)
unfolding unit_fields_at
unit_fields_are unit_size format s =
    step (fixed_is 2 s) (λ version. step (test (is_unknown version.0) UnknownVersion (λ p. cc)) (λ known.
    step (program_address_size_is version.0 unit_size version.1) (λ size. step (offset_is format size.1) (λ header_length.
    step (split_is header_length.0 header_length.1) (λ header. step (numbers_are (record { address_size = size.0; format = format; version = version.0 }) header.0) (λ numbers.
    step (split_is (numbers.0.opcode_base - 1) numbers.1) (λ lengths. value)))))))

pub line_header_fields_are : (unit_size : ℕ) (s : Section) → IsByBytes (line_header_fields_at unit_size s)
unfolding line_header_fields_at
line_header_fields_are unit_size s =
    step (initial_length_is s) (λ length. step (split_is length.0.0 length.1) (λ unit. unit_fields_are unit_size length.0.1 unit.0))

pub line_program_is : (unit_size : ℕ) (s : Section) → IsByBytes (line_program_at unit_size s)
unfolding line_program_at
line_program_is unit_size s =
    step (line_header_fields_are unit_size s) (λ fields. step (tables_are fields.encoding fields.tables) (λ tables. value))
