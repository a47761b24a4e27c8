-- A line program: its header and the bytes of its opcodes (DWARF 5, section 6.2.4).
-- Own: versions 2 to 4 have the unit's address size. A zero that may not be is BadLineHeader.
use Rattle.std.specs.Prelude.{ℕ, ◌-◌, ◌==◌, not, Result, Ok, if◌then◌else◌}
use Rattle.gimli_line.specs.Common.{Error, UnknownVersion, UnsupportedAddressSize, UnsupportedSegmentSize, BadLineHeader, Encoding, Section, is_unknown, is_before_4, is_before_5, Reading, ◌>>=◌, refused_if, fixed_at, signed_byte_at, offset_at, split_at, initial_length_at, is_address_size, address_size_at}
use Rattle.gimli_read.specs.declared.endian.Format.{Format}
use Rattle.gimli_line.specs.declared.encoding.LineEncoding.{LineEncoding}
use Rattle.gimli_line.specs.Header.{Program}
use Rattle.gimli_line.specs.Tables.{tables_at}

-- the address size: of the unit below version 5, else of the header, with a segment selector size
-- of 0
unfoldable pub program_address_size_at : ℕ → ℕ → Section → Reading ℕ
program_address_size_at version unit_size s =
    if is_before_5 version
    then (refused_if (not (is_address_size unit_size)) UnsupportedAddressSize
    >>= λ _. Ok (unit_size, s))
    else do
      size ← address_size_at s
      segment ← fixed_at 1 size.1
      flat ← refused_if (not (segment.0 == 0)) UnsupportedSegmentSize
      Ok (size.0, segment.1)

-- a byte that may not be zero
unfoldable pub nonzero_at : Section → Reading ℕ
nonzero_at s = do
  byte ← fixed_at 1 s
  some ← refused_if (byte.0 == 0) BadLineHeader
  Ok byte

-- how many operations an instruction may have, which versions below 4 do not say
unfoldable pub operations_at : ℕ → Section → Reading ℕ
operations_at version s = if is_before_4 version then Ok (1, s) else nonzero_at s

-- the numbers that a program is run by
unfoldable pub numbers_at : Encoding → Section → Reading LineEncoding
numbers_at e s = do
  length ← nonzero_at s
  operations ← operations_at e.version length.1
  is_stmt ← fixed_at 1 operations.1
  base ← signed_byte_at is_stmt.1
  range ← nonzero_at base.1
  opcode_base ← nonzero_at range.1
  Ok (
    record {
      address_size = e.address_size;
      minimum_instruction_length = length.0;
      maximum_operations_per_instruction = operations.0;
      line_base = base.0;
      line_range = range.0;
      opcode_base = opcode_base.0;
    },
    opcode_base.1,
  )

-- the fields of a header before its tables, and the bytes of the tables and of the program
pub record HeaderFields : Type 0 where
  pub encoding : Encoding
  pub line_encoding : LineEncoding
  pub standard_opcode_lengths : Section
  pub tables : Section
  pub program : Section

-- the fields in the unit's bytes, from the version on
unfoldable pub unit_fields_at : ℕ → Format → Section → Result HeaderFields Error
unit_fields_at unit_size format s = do
  version ← fixed_at 2 s
  known ← refused_if (is_unknown version.0) UnknownVersion
  size ← program_address_size_at version.0 unit_size version.1
  header_length ← offset_at format size.1
  header ← split_at header_length.0 header_length.1
  numbers ← numbers_at (record { address_size = size.0; format = format; version = version.0 })
      header.0
  lengths ← split_at (numbers.0.opcode_base - 1) numbers.1
  Ok (record {
    encoding = record { address_size = size.0; format = format; version = version.0 };
    line_encoding = numbers.0;
    standard_opcode_lengths = lengths.0;
    tables = lengths.1;
    program = header.1;
  })

-- the fields of the header that begins here
unfoldable pub line_header_fields_at : ℕ → Section → Result HeaderFields Error
line_header_fields_at unit_size s = do
  length ← initial_length_at s
  unit ← split_at length.0.0 length.1
  unit_fields_at unit_size length.0.1 unit.0

-- the line program that begins here, in a unit with this address size
unfoldable pub line_program_at : ℕ → Section → Result Program Error
line_program_at unit_size s = do
  fields ← line_header_fields_at unit_size s
  tables ← tables_at fields.encoding fields.tables
  Ok (record {
    header = record {
      encoding = fields.encoding;
      line_encoding = fields.line_encoding;
      standard_opcode_lengths = fields.standard_opcode_lengths;
      include_directories = tables.0.include_directories;
      file_names = tables.0.file_names;
    };
    program = fields.program;
  })
