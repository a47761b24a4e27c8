-- The record of a unit: what its root entry's attributes give (DWARF 5, sections 3.1.1 and 7.5.5).
-- Own: of each attribute the last counts. One of a form that is not of its class counts as not
-- there: low_pc is an address or an index, stmt_list and the bases are section offsets, and so are
-- data4 and data8 of the offset's width under stmt_list in versions 2 and 3; GNU_dwo_id is a
-- constant. A name or a directory that can't be read counts as none. GNU_dwo_name names a split
-- file below version 5, dwo_name from then on, in any form.
use Rattle.std.specs.Prelude.{ℕ, ◌==◌, ◌||◌, List, fold, Option, Some, None, Result, Ok, if◌then◌else◌}
use Rattle.std.specs.Option.{option_or}
use Rattle.gimli.specs.Common.{Error, DwAt, Encoding, Format, AttributeValue, Section, is_before_4, is_before_5, ◌>>=◌, NamedValue, constant_of, Abbrev}
use Rattle.gimli_read.specs.declared.constants.TheConstants.DwAt.{DW_AT_name, DW_AT_comp_dir, DW_AT_low_pc, DW_AT_stmt_list, DW_AT_str_offsets_base, DW_AT_addr_base, DW_AT_GNU_addr_base, DW_AT_rnglists_base, DW_AT_GNU_ranges_base, DW_AT_GNU_dwo_id, DW_AT_GNU_dwo_name, DW_AT_dwo_name}
use Rattle.gimli_read.specs.declared.endian.Format.TheVariants.{Dwarf32, Dwarf64}
use Rattle.gimli_read.specs.declared.value.AttributeValue.TheVariants as values
use Rattle.gimli.specs.declared.record.AddressValue.{AddressValue}
use Rattle.gimli.specs.declared.record.AddressValue.TheVariants.{Address, Index}
use Rattle.gimli.specs.Entry.{root_attributes}

-- the values of a root entry's attributes that a unit's record is made of
pub record RootValues : Type 0 where
  pub name : Option (AttributeValue Section)
  pub comp_dir : Option (AttributeValue Section)
  pub low_pc : Option AddressValue
  pub stmt_list : Option ℕ
  pub str_offsets_base : Option ℕ
  pub addr_base : Option ℕ
  pub rnglists_base : Option ℕ
  pub dwo_id : Option ℕ
  pub dwo_name : Option (AttributeValue Section)

-- a value of the class address
abbrev pub address_value : AttributeValue Section → Option AddressValue
address_value (values.Addr a) = Some (Address a)
address_value (values.DebugAddrIndex i) = Some (Index i)
address_value _ = None

-- a value of the class section offset
abbrev pub section_offset : AttributeValue Section → Option ℕ
section_offset (values.SecOffset n) = Some n
section_offset _ = None

-- an offset of the format's width
abbrev pub of_width : Format → Format → ℕ → Option ℕ
of_width Dwarf32 Dwarf32 n = Some n
of_width Dwarf64 Dwarf64 n = Some n
of_width _ _ n = None

-- a value of the class section offset under stmt_list; below version 4 it has no form of its own
abbrev pub line_offset : Encoding → AttributeValue Section → Option ℕ
line_offset encoding (values.SecOffset n) = Some n
line_offset encoding (values.Data4 n) =
    if is_before_4 encoding.version then of_width Dwarf32 encoding.format n else None
line_offset encoding (values.Data8 n) =
    if is_before_4 encoding.version then of_width Dwarf64 encoding.format n else None
line_offset encoding _ = None

-- the attribute that names a split file
abbrev pub dwo_name_attribute : Encoding → DwAt
dwo_name_attribute encoding =
    if is_before_5 encoding.version then DW_AT_GNU_dwo_name else DW_AT_dwo_name

-- the values with one more attribute
abbrev pub with_root_attribute : Encoding → RootValues → NamedValue → RootValues
with_root_attribute encoding root a =
    if a.name.0 == DW_AT_name.0 then record root { name = Some a.value }
    else if a.name.0 == DW_AT_comp_dir.0 then record root { comp_dir = Some a.value }
    else if a.name.0 == DW_AT_low_pc.0
    then record root { low_pc = option_or (address_value a.value) root.low_pc }
    else if a.name.0 == DW_AT_stmt_list.0
    then record root { stmt_list = option_or (line_offset encoding a.value) root.stmt_list }
    else if a.name.0 == DW_AT_str_offsets_base.0
    then record root { str_offsets_base = option_or (section_offset a.value) root.str_offsets_base }
    else if a.name.0 == DW_AT_addr_base.0 || a.name.0 == DW_AT_GNU_addr_base.0
    then record root { addr_base = option_or (section_offset a.value) root.addr_base }
    else if a.name.0 == DW_AT_rnglists_base.0 || a.name.0 == DW_AT_GNU_ranges_base.0
    then record root { rnglists_base = option_or (section_offset a.value) root.rnglists_base }
    else if a.name.0 == DW_AT_GNU_dwo_id.0
    then record root { dwo_id = option_or (constant_of a.value) root.dwo_id }
    else if a.name.0 == (dwo_name_attribute encoding).0
    then record root { dwo_name = Some a.value }
    else root

-- before the first attribute
abbrev pub no_root_values : RootValues
no_root_values = record {
  name = None;
  comp_dir = None;
  low_pc = None;
  stmt_list = None;
  str_offsets_base = None;
  addr_base = None;
  rnglists_base = None;
  dwo_id = None;
  dwo_name = None;
}

-- the values of the attributes of a unit's root entry
unfoldable pub root_values_of : Encoding → List Abbrev → Section → Result RootValues Error
root_values_of encoding table s = do
  attributes ← root_attributes encoding table s
  Ok (fold (with_root_attribute encoding) no_root_values attributes)
