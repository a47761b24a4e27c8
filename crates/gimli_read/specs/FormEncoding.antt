-- The forms that are listed, by class, and how the value of each is encoded (DWARF 5, sections
-- 7.5.5 and 7.5.6).
-- Own: the GNU forms. DW_FORM_indirect is not listed, nor is DW_FORM_implicit_const, whose value
-- stands in the abbreviation.
use Rattle.std.specs.Prelude.{ℕ, ◌==◌, not, true, List, [], ◌∷◌, ◌++◌, Option, Some, None, if◌then◌else◌, ℤ}
use Rattle.gimli_read.specs.declared.constants.DwForm.{DwForm}
use Rattle.gimli_read.specs.declared.constants.TheConstants.DwForm.{DW_FORM_addr, DW_FORM_addrx, DW_FORM_GNU_addr_index, DW_FORM_addrx1, DW_FORM_addrx2, DW_FORM_addrx3, DW_FORM_addrx4, DW_FORM_block1, DW_FORM_block2, DW_FORM_block4, DW_FORM_block, DW_FORM_exprloc, DW_FORM_data1, DW_FORM_data2, DW_FORM_data4, DW_FORM_data8, DW_FORM_data16, DW_FORM_sdata, DW_FORM_udata, DW_FORM_flag, DW_FORM_flag_present, DW_FORM_sec_offset, DW_FORM_loclistx, DW_FORM_rnglistx, DW_FORM_string, DW_FORM_strp, DW_FORM_line_strp, DW_FORM_strp_sup, DW_FORM_GNU_strp_alt, DW_FORM_strx, DW_FORM_GNU_str_index, DW_FORM_strx1, DW_FORM_strx2, DW_FORM_strx3, DW_FORM_strx4, DW_FORM_ref1, DW_FORM_ref2, DW_FORM_ref4, DW_FORM_ref8, DW_FORM_ref_udata, DW_FORM_ref_addr, DW_FORM_ref_sup4, DW_FORM_ref_sup8, DW_FORM_GNU_ref_alt, DW_FORM_ref_sig8}
use Rattle.gimli_read.specs.declared.value.AttributeValue.{AttributeValue}
use Rattle.gimli_read.specs.declared.value.AttributeValue.TheVariants as values
use Rattle.gimli_read.specs.Section.{Section}

-- how the value of a form is encoded, and how it is made of what is encoded so
pub data FormEncoding : Type 0 where
  Fixed : ℕ → (ℕ → AttributeValue Section) → FormEncoding
  Address : (ℕ → AttributeValue Section) → FormEncoding
  Offset : (ℕ → AttributeValue Section) → FormEncoding
  AddressOrOffset : (ℕ → AttributeValue Section) → FormEncoding
  Unsigned : (ℕ → AttributeValue Section) → FormEncoding
  Signed : (ℤ → AttributeValue Section) → FormEncoding
  Block1 : (Section → AttributeValue Section) → FormEncoding
  Block2 : (Section → AttributeValue Section) → FormEncoding
  Block4 : (Section → AttributeValue Section) → FormEncoding
  Block : (Section → AttributeValue Section) → FormEncoding
  Text : (Section → AttributeValue Section) → FormEncoding
  Empty : AttributeValue Section → FormEncoding

-- a reference by offset in the unit
abbrev pub unit_ref : ℕ → AttributeValue Section
unit_ref n = values.UnitRef (record { 0 = n })

-- a reference by offset in the supplementary file's section
abbrev pub info_ref_sup : ℕ → AttributeValue Section
info_ref_sup n = values.DebugInfoRefSup (record { 0 = n })

-- the forms of addresses
abbrev pub address_forms : List (DwForm × FormEncoding)
address_forms =
    (DW_FORM_addr, Address values.Addr)
    ∷ (DW_FORM_addrx, Unsigned values.DebugAddrIndex)
    ∷ (DW_FORM_GNU_addr_index, Unsigned values.DebugAddrIndex)
    ∷ (DW_FORM_addrx1, Fixed 1 values.DebugAddrIndex)
    ∷ (DW_FORM_addrx2, Fixed 2 values.DebugAddrIndex)
    ∷ (DW_FORM_addrx3, Fixed 3 values.DebugAddrIndex)
    ∷ (DW_FORM_addrx4, Fixed 4 values.DebugAddrIndex)
    ∷ []

-- the forms of blocks and expressions
abbrev pub block_forms : List (DwForm × FormEncoding)
block_forms =
    (DW_FORM_block1, Block1 values.Block)
    ∷ (DW_FORM_block2, Block2 values.Block)
    ∷ (DW_FORM_block4, Block4 values.Block)
    ∷ (DW_FORM_block, Block values.Block)
    ∷ (DW_FORM_exprloc, Block values.Exprloc)
    ∷ []

-- the forms of constants
abbrev pub constant_forms : List (DwForm × FormEncoding)
constant_forms =
    (DW_FORM_data1, Fixed 1 values.Data1)
    ∷ (DW_FORM_data2, Fixed 2 values.Data2)
    ∷ (DW_FORM_data4, Fixed 4 values.Data4)
    ∷ (DW_FORM_data8, Fixed 8 values.Data8)
    ∷ (DW_FORM_data16, Fixed 16 values.Data16)
    ∷ (DW_FORM_sdata, Signed values.Sdata)
    ∷ (DW_FORM_udata, Unsigned values.Udata)
    ∷ []

-- the forms of flags, and of what stands in other sections
abbrev pub flag_and_list_forms : List (DwForm × FormEncoding)
flag_and_list_forms =
    (DW_FORM_flag, Fixed 1 (λ n. values.Flag (not (n == 0))))
    ∷ (DW_FORM_flag_present, Empty (values.Flag true))
    ∷ (DW_FORM_sec_offset, Offset values.SecOffset)
    ∷ (DW_FORM_loclistx, Unsigned values.DebugLocListsIndex)
    ∷ (DW_FORM_rnglistx, Unsigned values.DebugRngListsIndex)
    ∷ []

-- the forms of strings
abbrev pub string_forms : List (DwForm × FormEncoding)
string_forms =
    (DW_FORM_string, Text values.String)
    ∷ (DW_FORM_strp, Offset values.DebugStrRef)
    ∷ (DW_FORM_line_strp, Offset values.DebugLineStrRef)
    ∷ (DW_FORM_strp_sup, Offset values.DebugStrRefSup)
    ∷ (DW_FORM_GNU_strp_alt, Offset values.DebugStrRefSup)
    ∷ (DW_FORM_strx, Unsigned values.DebugStrOffsetsIndex)
    ∷ (DW_FORM_GNU_str_index, Unsigned values.DebugStrOffsetsIndex)
    ∷ (DW_FORM_strx1, Fixed 1 values.DebugStrOffsetsIndex)
    ∷ (DW_FORM_strx2, Fixed 2 values.DebugStrOffsetsIndex)
    ∷ (DW_FORM_strx3, Fixed 3 values.DebugStrOffsetsIndex)
    ∷ (DW_FORM_strx4, Fixed 4 values.DebugStrOffsetsIndex)
    ∷ []

-- the forms of references
abbrev pub reference_forms : List (DwForm × FormEncoding)
reference_forms =
    (DW_FORM_ref1, Fixed 1 unit_ref)
    ∷ (DW_FORM_ref2, Fixed 2 unit_ref)
    ∷ (DW_FORM_ref4, Fixed 4 unit_ref)
    ∷ (DW_FORM_ref8, Fixed 8 unit_ref)
    ∷ (DW_FORM_ref_udata, Unsigned unit_ref)
    ∷ (DW_FORM_ref_addr, AddressOrOffset (λ n. values.DebugInfoRef (record { 0 = n })))
    ∷ (DW_FORM_ref_sup4, Fixed 4 info_ref_sup)
    ∷ (DW_FORM_ref_sup8, Fixed 8 info_ref_sup)
    ∷ (DW_FORM_GNU_ref_alt, Offset info_ref_sup)
    ∷ (DW_FORM_ref_sig8, Fixed 8 values.DebugTypesRef)
    ∷ []

-- the forms from those of strings on
abbrev pub forms_from_strings : List (DwForm × FormEncoding)
forms_from_strings = string_forms ++ reference_forms

-- the forms from those of flags on
abbrev pub forms_from_flags : List (DwForm × FormEncoding)
forms_from_flags = flag_and_list_forms ++ forms_from_strings

-- the forms from those of constants on
abbrev pub forms_from_constants : List (DwForm × FormEncoding)
forms_from_constants = constant_forms ++ forms_from_flags

-- the forms from those of blocks on
abbrev pub forms_from_blocks : List (DwForm × FormEncoding)
forms_from_blocks = block_forms ++ forms_from_constants

-- what a table of forms has for a form
abbrev pub form_in : List (DwForm × FormEncoding) → ℕ → Option FormEncoding
form_in [] form = None
form_in (f ∷ table) form = if form == f.0.0 then Some f.1 else form_in table form

-- how the value of a form is encoded, if the form is listed
unfoldable pub form_encoding_of : ℕ → Option FormEncoding
form_encoding_of form = form_in (address_forms ++ forms_from_blocks) form
