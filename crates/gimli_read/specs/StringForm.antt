-- The forms of strings (DWARF 5, section 7.5.5): those whose values the table of forms makes
-- strings.
use Rattle.std.specs.Prelude.{ℕ, Bool, true, false, [], Option, Some, None, pos}
use Rattle.gimli_read.specs.declared.endian.RunTimeEndian.TheVariants.{Little}
use Rattle.gimli_read.specs.declared.value.AttributeValue.{AttributeValue}
use Rattle.gimli_read.specs.declared.value.AttributeValue.TheVariants as values
use Rattle.gimli_read.specs.Section.{Section}
use Rattle.gimli_read.specs.FormEncoding.{FormEncoding, Fixed, Address, Offset, AddressOrOffset, Unsigned, Signed, Block1, Block2, Block4, Block, Text, Empty, form_encoding_of}

-- whether a value is a string, or where one is found
abbrev pub is_string : {R : Type 0} → AttributeValue R → Bool
is_string (values.String x) = true
is_string (values.DebugStrRef x) = true
is_string (values.DebugLineStrRef x) = true
is_string (values.DebugStrRefSup x) = true
is_string (values.DebugStrOffsetsIndex x) = true
is_string _ = false

-- a section of no bytes
abbrev pub no_bytes : Section
no_bytes = record { bytes = []; endian = Little }

-- the value that is made of 0, or of no bytes: all values of a form are of one kind
abbrev pub least_value : FormEncoding → AttributeValue Section
least_value (Fixed n make) = make 0
least_value (Address make) = make 0
least_value (Offset make) = make 0
least_value (AddressOrOffset make) = make 0
least_value (Unsigned make) = make 0
least_value (Signed make) = make (pos 0)
least_value (Block1 make) = make no_bytes
least_value (Block2 make) = make no_bytes
least_value (Block4 make) = make no_bytes
least_value (Block make) = make no_bytes
least_value (Text make) = make no_bytes
least_value (Empty made) = made

-- whether what is encoded so is a string
abbrev pub makes_string : Option FormEncoding → Bool
makes_string None = false
makes_string (Some form) = is_string (least_value form)

-- whether values of the form are strings
abbrev pub is_string_form : ℕ → Bool
is_string_form form = makes_string (form_encoding_of form)
