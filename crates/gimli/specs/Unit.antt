-- A unit: its header, its abbreviations and its record (DWARF 5, sections 3.1.1 and 7.5).
-- Own: bases begin at 0; in a version 5 unit of a split file at the end of the table's header.
-- Own: the record is faulty by its abbreviations, its root entry, its line program's header, or the
-- index of its low_pc, in this order. A name or a directory that can't be read counts as none.
use Rattle.std.specs.Prelude.{ℕ, List, option_map, option_and_then, Option, Some, None, Result, Ok, unwrap_or, if◌then◌else◌}
use Rattle.std.specs.Result.{result_ok}
use Rattle.gimli.specs.Common.{Error, Encoding, Format, AttributeValue, Section, is_5, Abbrev}
use Rattle.gimli_read.specs.declared.endian.Format.TheVariants.{Dwarf32, Dwarf64}
use Rattle.gimli_read.specs.Reading.{◌>>=◌}
use Rattle.gimli_read.specs.Abbrev.{table_at}
use Rattle.gimli_line.specs.Header.{Program}
use Rattle.gimli_line.specs.Program.{line_program_at}
use Rattle.gimli.specs.declared.constants.TheConstants.{STR_OFFSETS_HEADER_32, STR_OFFSETS_HEADER_64, RNGLISTS_HEADER_32, RNGLISTS_HEADER_64}
use Rattle.gimli.specs.declared.dwarf.DwarfFileType.{DwarfFileType}
use Rattle.gimli.specs.declared.dwarf.DwarfFileType.TheVariants.{Main, Dwo}
use Rattle.gimli.specs.declared.unit.DwoId.{DwoId}
use Rattle.gimli.specs.declared.record.AddressValue.{AddressValue}
use Rattle.gimli.specs.declared.record.AddressValue.TheVariants.{Address, Index}
use Rattle.gimli.specs.Header.{UnitHeaderFields}
use Rattle.gimli.specs.Sections.{Sections}
use Rattle.gimli.specs.Text.{from_offset, indexed_number, string_of}
use Rattle.gimli.specs.Record.{RootValues, root_values_of}

-- a unit without where it lies in memory
pub record UnitRecord : Type 0 where
  pub header : UnitHeaderFields
  pub abbreviations : List Abbrev
  pub name : Option Section
  pub comp_dir : Option Section
  pub low_pc : ℕ
  pub str_offsets_base : ℕ
  pub addr_base : ℕ
  pub rnglists_base : ℕ
  pub dwo_id : Option DwoId
  pub line_program : Option Program

-- one number for each format
abbrev pub by_format : ℕ → ℕ → Format → ℕ
by_format short long Dwarf32 = short
by_format short long Dwarf64 = long

-- the length of a table's header in a version 5 unit of a split file, else 0
abbrev pub first_base : ℕ → ℕ → DwarfFileType → Encoding → ℕ
first_base short long Main encoding = 0
first_base short long Dwo encoding =
    if is_5 encoding.version then by_format short long encoding.format else 0

-- the address that a value stands for, where its index counts from base
abbrev pub address_from : Sections → Encoding → ℕ → AddressValue → Result ℕ Error
address_from d encoding base (Address a) = Ok a
address_from d encoding base (Index i) = indexed_number encoding.address_size base i d.debug_addr

-- the address of low_pc, 0 where there is none
abbrev pub low_pc_of : Sections → Encoding → ℕ → Option AddressValue → Result ℕ Error
low_pc_of d encoding base None = Ok 0
low_pc_of d encoding base (Some value) = address_from d encoding base value

-- the line program at the offset that stmt_list gives, if it gives one
abbrev pub line_program_of : Sections → Encoding → Option ℕ → Result (Option Program) Error
line_program_of d encoding None = Ok None
line_program_of d encoding (Some offset) = do
  rest ← from_offset offset d.debug_line
  program ← line_program_at encoding.address_size rest
  Ok (Some program)

-- the string of a value, none where it can't be read
abbrev pub readable_string : Sections → Format → ℕ → Option (AttributeValue Section)
    → Option Section
readable_string d format base value =
    option_and_then (λ v. result_ok (string_of d format base v)) value

-- the identifier of the header, else that of the root entry
abbrev pub dwo_id_of : Option DwoId → Option ℕ → Option DwoId
dwo_id_of (Some id) given = Some id
dwo_id_of None given = option_map (λ (n : ℕ). record { 0 = n }) given

-- the name and the directory that a root entry's values lead to, none where they can't be read
abbrev pub name_and_directory_of : Sections → Format → ℕ → RootValues
    → Option Section × Option Section
name_and_directory_of d format base root =
    (readable_string d format base root.name, readable_string d format base root.comp_dir)

-- the line program and the low_pc that a root entry's values lead to
unfoldable pub program_and_low_pc_of : Sections → Encoding → ℕ → RootValues
    → Result (Option Program × ℕ) Error
program_and_low_pc_of d encoding addr_base root = do
  program ← line_program_of d encoding root.stmt_list
  low_pc ← low_pc_of d encoding addr_base root.low_pc
  Ok (program, low_pc)

-- the unit of a header, whose root entry has these values
unfoldable pub completed_record : Sections → UnitHeaderFields → List Abbrev → RootValues
    → Result UnitRecord Error
completed_record d header table root =
    let str_offsets_base =
    unwrap_or root.str_offsets_base
    (first_base STR_OFFSETS_HEADER_32 STR_OFFSETS_HEADER_64 d.file_type header.encoding) in
    let addr_base = unwrap_or root.addr_base 0 in
    let texts = name_and_directory_of d header.encoding.format str_offsets_base root in
    do
      read ← program_and_low_pc_of d header.encoding addr_base root
      Ok (record {
        header = header;
        abbreviations = table;
        name = texts.0;
        comp_dir = texts.1;
        low_pc = read.1;
        str_offsets_base = str_offsets_base;
        addr_base = addr_base;
        rnglists_base = unwrap_or root.rnglists_base
            (first_base RNGLISTS_HEADER_32 RNGLISTS_HEADER_64 d.file_type header.encoding);
        dwo_id = dwo_id_of header.dwo_id root.dwo_id;
        line_program = read.0;
      })

-- the unit of a header, whose table is read
unfoldable pub unit_by : Sections → UnitHeaderFields → Result (List Abbrev) Error
    → Result UnitRecord Error
unit_by d header read = do
  table ← read
  root ← root_values_of header.encoding table header.entries
  completed_record d header table root

-- the table at an offset
abbrev pub table_from : ℕ → Section → Result (List Abbrev) Error
table_from offset s = from_offset offset s >>= table_at

-- the unit of a header
unfoldable pub unit_record_of : Sections → UnitHeaderFields → Result UnitRecord Error
unit_record_of d header =
    unit_by d header (table_from header.debug_abbrev_offset d.debug_abbrev)

-- the string that a value of an attribute of a unit stands for
abbrev pub attr_string_of : Sections → UnitRecord → AttributeValue Section → Result Section Error
attr_string_of d u value = string_of d u.header.encoding.format u.str_offsets_base value
