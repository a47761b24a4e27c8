-- The value of an attribute by its form (DWARF 5, sections 7.5.5 and 7.5.6).
-- Own: a form that is not listed is UnknownForm where a value of it is read; so is DW_FORM_indirect
-- to DW_FORM_implicit_const, whose value stands in the abbreviation.
use Rattle.std.specs.Prelude.{ℕ, zero, suc, ◌+◌, ◌==◌, length, List, [], ◌∷◌, Option, Some, None, Result, Ok, Err, if◌then◌else◌, ℤ, pos, negsuc}
use Rattle.gimli_read.specs.declared.error.Error.{Error}
use Rattle.gimli_read.specs.declared.error.Error.TheVariants.{UnknownForm, UnexpectedEof}
use Rattle.gimli_read.specs.declared.endian.Encoding.{Encoding}
use Rattle.gimli_read.specs.declared.constants.DwAt.{DwAt}
use Rattle.gimli_read.specs.declared.constants.TheConstants.DwForm.{DW_FORM_indirect, DW_FORM_implicit_const}
use Rattle.gimli_read.specs.declared.value.AttributeValue.{AttributeValue}
use Rattle.gimli_read.specs.declared.value.AttributeValue.TheVariants as values
use Rattle.gimli_read.specs.Abbreviations.{Specification}
use Rattle.gimli_read.specs.Section.{Section}
use Rattle.gimli_read.specs.Reading.{Reading, mapped, ◌>>=◌}
use Rattle.gimli_read.specs.Leb128.{uleb128_at}
use Rattle.gimli_read.specs.FormEncoding.{form_encoding_of}
use Rattle.gimli_read.specs.EncodedValue.{encoded_at}

-- a value whose readers are seen as sections
abbrev pub as_value : {R : Type 0} → (R → Section) → AttributeValue R → AttributeValue Section
as_value see (values.Addr x) = values.Addr x
as_value see (values.Block x) = values.Block (see x)
as_value see (values.Data1 x) = values.Data1 x
as_value see (values.Data2 x) = values.Data2 x
as_value see (values.Data4 x) = values.Data4 x
as_value see (values.Data8 x) = values.Data8 x
as_value see (values.Data16 x) = values.Data16 x
as_value see (values.Sdata x) = values.Sdata x
as_value see (values.Udata x) = values.Udata x
as_value see (values.Exprloc x) = values.Exprloc (see x)
as_value see (values.Flag x) = values.Flag x
as_value see (values.SecOffset x) = values.SecOffset x
as_value see (values.DebugAddrIndex x) = values.DebugAddrIndex x
as_value see (values.UnitRef x) = values.UnitRef x
as_value see (values.DebugInfoRef x) = values.DebugInfoRef x
as_value see (values.DebugInfoRefSup x) = values.DebugInfoRefSup x
as_value see (values.DebugTypesRef x) = values.DebugTypesRef x
as_value see (values.DebugLocListsIndex x) = values.DebugLocListsIndex x
as_value see (values.DebugRngListsIndex x) = values.DebugRngListsIndex x
as_value see (values.DebugStrRef x) = values.DebugStrRef x
as_value see (values.DebugStrRefSup x) = values.DebugStrRefSup x
as_value see (values.DebugStrOffsetsIndex x) = values.DebugStrOffsetsIndex x
as_value see (values.DebugLineStrRef x) = values.DebugLineStrRef x
as_value see (values.String x) = values.String (see x)

-- what a reading leaves, where nobody looks at its value
abbrev pub rest_of : {A : Type 0} → Reading A → Result Section Error
rest_of read = read >>= λ x. Ok x.1

-- the value of a form other than DW_FORM_indirect and DW_FORM_implicit_const
abbrev pub direct_at : Encoding → ℕ → Section → Reading (AttributeValue Section)
direct_at encoding form s = encoded_at encoding (form_encoding_of form) s

-- the form that an indirection names, which may be one more: at most n of them
unfoldable pub form_within : ℕ → Section → Reading ℕ
form_within zero s = Err UnexpectedEof
form_within (suc n) s =
    uleb128_at s >>= λ form. if form.0 == DW_FORM_indirect.0 then form_within n form.1 else Ok form

-- the form that indirections lead to, each of which takes a byte at least
abbrev pub form_at : Section → Reading ℕ
form_at s = form_within (length s.bytes + 1) s

-- the value of any form but DW_FORM_implicit_const
unfoldable pub value_at : Encoding → ℕ → Section → Reading (AttributeValue Section)
value_at encoding form s =
    if form == DW_FORM_indirect.0 then (form_at s >>= λ real. direct_at encoding real.0 real.1)
    else direct_at encoding form s

-- an attribute of an entry: its name, and its value by its form alone
pub record NamedValue : Type 0 where
  pub name : DwAt
  pub value : AttributeValue Section

-- the value that an abbreviation has for all its entries
abbrev pub implicit_of : Option ℤ → Result (AttributeValue Section) Error
implicit_of None = Err UnknownForm
implicit_of (Some z) = Ok (values.Sdata z)

-- a value of an attribute by its specification
abbrev pub named_value : Specification → AttributeValue Section → NamedValue
named_value specification value = record { name = specification.name; value = value }

-- the attribute of a specification
unfoldable pub attribute_at : Encoding → Specification → Section → Reading (NamedValue)
attribute_at encoding specification s =
    if specification.form.0 == DW_FORM_implicit_const.0 then
    (implicit_of specification.constant >>= λ value. Ok (named_value specification value, s))
    else mapped (named_value specification) (value_at encoding specification.form.0 s)

-- the attributes of the specifications, one after another
unfoldable pub attributes_at : Encoding → List Specification → Section → Reading (List NamedValue)
attributes_at encoding [] s = Ok ([], s)
attributes_at encoding (x ∷ xs) s =
    attribute_at encoding x s >>= λ a.
    mapped (λ more. a.0 ∷ more) (attributes_at encoding xs a.1)

-- a signed number that isn't negative
abbrev pub unsigned_of : ℤ → Option ℕ
unsigned_of (pos n) = Some n
unsigned_of (negsuc n) = None

-- the value of a constant
-- (Own: the class is data1, data2, data4, data8, udata, and sdata where not negative)
abbrev pub constant_of : {R : Type 0} → AttributeValue R → Option ℕ
constant_of (values.Data1 n) = Some n
constant_of (values.Data2 n) = Some n
constant_of (values.Data4 n) = Some n
constant_of (values.Data8 n) = Some n
constant_of (values.Udata n) = Some n
constant_of (values.Sdata z) = unsigned_of z
constant_of _ = None
