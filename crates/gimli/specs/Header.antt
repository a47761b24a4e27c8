-- The headers of units (DWARF 5, section 7.5.1; DWARF 4, section 7.5.1.1).
-- Own: versions 2 to 5; another is UnknownVersion. A unit type other than those of section 7.5.1 is
-- UnknownUnitType.
use Rattle.std.specs.Prelude.{ℕ, ◌-◌, ◌==◌, length, Option, Some, None, Result, Ok, Err, if◌then◌else◌}
use Rattle.gimli.specs.Common.{Error, UnknownVersion, UnknownUnitType, Format, Section, is_unknown, is_before_5, Reading, mapped, ◌>>=◌, refused_if, fixed_at, offset_at, skipped_at, split_at, initial_length_at, address_size_at, Run, run_of, Encoding}
use Rattle.gimli_read.specs.declared.constants.TheConstants.{DWARF_5}
use Rattle.gimli.specs.declared.constants.TheConstants.{DW_UT_compile, DW_UT_type, DW_UT_partial, DW_UT_skeleton, DW_UT_split_compile, DW_UT_split_type}
use Rattle.gimli.specs.declared.unit.UnitType.{UnitType}
use Rattle.gimli.specs.declared.unit.UnitType.TheVariants.{Compile, TypeUnit, Partial, Skeleton, SplitCompile, SplitType}
use Rattle.gimli.specs.declared.unit.DwoId.{DwoId}
use Rattle.gimli_read.specs.declared.value.DebugInfoOffset.{DebugInfoOffset}

-- the fields of a unit's header, the unit's offset in the section, the header's length, and the
-- bytes of the unit's entries
pub record UnitHeaderFields : Type 0 where
  pub encoding : Encoding
  pub unit_type : UnitType
  pub offset : DebugInfoOffset
  pub debug_abbrev_offset : ℕ
  pub dwo_id : Option DwoId
  pub header_length : ℕ
  pub entries : Section

-- the unit type of a number
abbrev pub unit_type_of : ℕ → Result UnitType Error
unit_type_of n =
    if n == DW_UT_compile then Ok Compile
    else if n == DW_UT_type then Ok TypeUnit
    else if n == DW_UT_partial then Ok Partial
    else if n == DW_UT_skeleton then Ok Skeleton
    else if n == DW_UT_split_compile then Ok SplitCompile
    else if n == DW_UT_split_type then Ok SplitType
    else Err UnknownUnitType

-- a unit type
unfoldable pub unit_type_at : Section → Reading UnitType
unit_type_at s = do
  number ← fixed_at 1 s
  kind ← unit_type_of number.0
  Ok (kind, number.1)

-- an identifier of a split unit
abbrev pub dwo_id_at : Section → Reading (Option DwoId)
dwo_id_at s = mapped (λ id. Some (record { 0 = id })) (fixed_at 8 s)

-- a type's signature, and the type's offset in the unit
abbrev pub signature_at : Format → Section → Reading (Option DwoId)
signature_at format s = do
  signature ← skipped_at 8 s
  type_offset ← offset_at format signature.1
  Ok (None, type_offset.1)

-- the fields that only some unit types have, after those that every unit of version 5 has
abbrev pub type_fields_at : Format → UnitType → Section → Reading (Option DwoId)
type_fields_at format Compile s = Ok (None, s)
type_fields_at format TypeUnit s = signature_at format s
type_fields_at format Partial s = Ok (None, s)
type_fields_at format Skeleton s = dwo_id_at s
type_fields_at format SplitCompile s = dwo_id_at s
type_fields_at format SplitType s = signature_at format s

-- the fields after the version, of version 5, in a unit at an offset of the section; its length is
-- counted with the field that gives it
unfoldable pub fields_5_at : ℕ → ℕ → Format → Section → Result UnitHeaderFields Error
fields_5_at offset unit_length format s = do
  unit_type ← unit_type_at s
  address_size ← address_size_at unit_type.1
  abbrev_offset ← offset_at format address_size.1
  type_fields ← type_fields_at format unit_type.0 abbrev_offset.1
  Ok (record {
    encoding = record { address_size = address_size.0; format = format; version = DWARF_5 };
    unit_type = unit_type.0;
    offset = record { 0 = offset };
    debug_abbrev_offset = abbrev_offset.0;
    dwo_id = type_fields.0;
    header_length = unit_length - length type_fields.1.bytes;
    entries = type_fields.1;
  })

-- the same of versions 2 to 4
unfoldable pub fields_4_at : ℕ → ℕ → Format → ℕ → Section → Result UnitHeaderFields Error
fields_4_at offset unit_length format version s = do
  abbrev_offset ← offset_at format s
  address_size ← address_size_at abbrev_offset.1
  Ok (record {
    encoding = record { address_size = address_size.0; format = format; version = version };
    unit_type = Compile;
    offset = record { 0 = offset };
    debug_abbrev_offset = abbrev_offset.0;
    dwo_id = None;
    header_length = unit_length - length address_size.1.bytes;
    entries = address_size.1;
  })

-- the fields after the length
unfoldable pub header_fields_at : ℕ → ℕ → Format → Section → Result UnitHeaderFields Error
header_fields_at offset unit_length format s = do
  version ← fixed_at 2 s
  known ← refused_if (is_unknown version.0) UnknownVersion
  if is_before_5 version.0 then fields_4_at offset unit_length format version.0 version.1
      else fields_5_at offset unit_length format version.1

-- the header of the unit at the front of what is left of a section of these many bytes
unfoldable pub unit_header_at : ℕ → Section → Reading UnitHeaderFields
unit_header_at section_length s = do
  initial_length ← initial_length_at s
  unit ← split_at initial_length.0.0 initial_length.1
  header ← header_fields_at (section_length - length s.bytes) (length s.bytes - length unit.1.bytes)
      initial_length.0.1 unit.0
  Ok (header, unit.1)

-- the next unit's header, or none at the section's end
unfoldable pub next_header_at : ℕ → Section → Reading (Option UnitHeaderFields)
next_header_at section_length s =
    if length s.bytes == 0 then Ok (None, s)
    else mapped Some (unit_header_at section_length s)

-- the headers of a section: it is its units, one after another, up to its end or the first fault
abbrev pub headers_of : Section → Run UnitHeaderFields Section
headers_of s = run_of (next_header_at (length s.bytes)) s
