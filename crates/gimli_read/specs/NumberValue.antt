-- Values of frequent forms that are numbers (DWARF 5, section 7.5.5).
-- Own: which forms these are; of an implicit constant one that isn't negative.
use Rattle.std.specs.Prelude.{◌==◌, ◌||◌, Bool, Option, Some, None, option_and_then, option_map, Ok, if◌then◌else◌, ℕ, ℤ}
use Rattle.gimli_read.specs.declared.constants.DwForm.{DwForm}
use Rattle.gimli_read.specs.declared.constants.TheConstants.DwForm.{DW_FORM_addr, DW_FORM_data1, DW_FORM_data2, DW_FORM_data4, DW_FORM_data8, DW_FORM_implicit_const, DW_FORM_ref4, DW_FORM_udata}
use Rattle.gimli_read.specs.declared.endian.Encoding.{Encoding}
use Rattle.gimli_read.specs.declared.number_value.NumberValue.{NumberValue}
use Rattle.gimli_read.specs.declared.number_value.NumberValue.TheVariants as numbers
use Rattle.gimli_read.specs.declared.value.AttributeValue.{AttributeValue}
use Rattle.gimli_read.specs.declared.value.AttributeValue.TheVariants as values
use Rattle.gimli_read.specs.Abbreviations.{Specification}
use Rattle.gimli_read.specs.Form.{attribute_at, unsigned_of}
use Rattle.gimli_read.specs.Reading.{Reading, mapped}
use Rattle.gimli_read.specs.Section.{Section}

-- a value as a number: an address, a constant that isn't negative, a reference in the unit
abbrev pub number_if : {R : Type 0} → AttributeValue R → Option NumberValue
number_if (values.Addr n) = Some (numbers.Address n)
number_if (values.Data1 n) = Some (numbers.Constant n)
number_if (values.Data2 n) = Some (numbers.Constant n)
number_if (values.Data4 n) = Some (numbers.Constant n)
number_if (values.Data8 n) = Some (numbers.Constant n)
number_if (values.Udata n) = Some (numbers.Constant n)
number_if (values.Sdata z) = option_map numbers.Constant (unsigned_of z)
number_if (values.UnitRef o) = Some (numbers.UnitRef o)
number_if _ = None

-- whether a form is a frequent one of numbers
abbrev pub is_number_form : DwForm → Bool
is_number_form form =
    form.0 == DW_FORM_addr.0 || form.0 == DW_FORM_data1.0 || form.0 == DW_FORM_data2.0
    || form.0 == DW_FORM_data4.0 || form.0 == DW_FORM_data8.0 || form.0 == DW_FORM_udata.0
    || form.0 == DW_FORM_ref4.0

-- an implicit constant as a number
abbrev pub implicit_number : Option ℤ → Option NumberValue
implicit_number constant = option_map numbers.Constant (option_and_then unsigned_of constant)

-- the number that an attribute's value is, where its form is a frequent one of numbers; of another
-- form nothing is read
abbrev pub number_at : Encoding → Specification → Section → Reading (Option NumberValue)
number_at encoding x s =
    if x.form.0 == DW_FORM_implicit_const.0 then Ok (implicit_number x.constant, s)
    else if is_number_form x.form
    then mapped (λ a. number_if a.value) (attribute_at encoding x s)
    else Ok (None, s)

-- the number as a constant
abbrev pub number_constant : NumberValue → Option ℕ
number_constant (numbers.Constant n) = Some n
number_constant _ = None

-- the number as an address
abbrev pub number_address : NumberValue → Option ℕ
number_address (numbers.Address n) = Some n
number_address _ = None
