-- Strings, offsets of strings and addresses by index (DWARF 5, sections 7.26 and 7.27).
-- Own: an offset past the section's end is OffsetOutOfBounds, and so is an entry of a table that
-- isn't wholly in it.
-- Own: a value of no string form is ExpectedString, and a string of a supplementary file that isn't
-- there is NoSupplementary.
use Rattle.std.specs.Prelude.{ℕ, ◌+◌, ◌*◌, Bool, false, nat_lt, length, Option, Some, None, Result, Ok, Err, if◌then◌else◌}
use Rattle.gimli.specs.Common.{Error, OffsetOutOfBounds, ExpectedString, NoSupplementary, Format, AttributeValue, Section, after, ◌>>=◌, address_at, null_terminated_at, offset_size}
use Rattle.gimli_read.specs.declared.value.AttributeValue.TheVariants as values
use Rattle.gimli.specs.Sections.{Sections, SupSections}

-- a section from an offset on
abbrev pub from_offset : ℕ → Section → Result Section Error
from_offset offset s =
    if nat_lt (length s.bytes) offset then Err OffsetOutOfBounds else Ok (after offset s)

-- the string at an offset, without the zero byte that ends it
unfoldable pub string_at : ℕ → Section → Result Section Error
string_at offset s = do
  rest ← from_offset offset s
  string ← null_terminated_at rest
  Ok string.0

-- how many bytes the string at an offset has
abbrev pub string_length_at : ℕ → Section → Result ℕ Error
string_length_at offset s = string_at offset s >>= λ string. Ok (length string.bytes)

-- the number of an index in a table of numbers of a size, which begins at a base
unfoldable pub indexed_number : ℕ → ℕ → ℕ → Section → Result ℕ Error
indexed_number size base index s =
    if nat_lt (length s.bytes) (base + index * size + size) then Err OffsetOutOfBounds
    else (address_at size (after (base + index * size) s) >>= λ number. Ok number.0)

-- the string of an index, where the unit's offsets of strings begin at a base
abbrev pub indexed_string : Sections → Format → ℕ → ℕ → Result Section Error
indexed_string d format base index =
    indexed_number (offset_size format) base index d.debug_str_offsets >>= λ offset.
    string_at offset d.debug_str

-- the string at an offset of the supplementary file's strings
abbrev pub sup_string_at : ℕ → Option SupSections → Result Section Error
sup_string_at offset None = Err NoSupplementary
sup_string_at offset (Some sup) = string_at offset sup.debug_str

-- the string that a value stands for, where the unit's offsets of strings begin at a base
unfoldable pub string_of : Sections → Format → ℕ → AttributeValue Section → Result Section Error
string_of d format base (values.String string) = Ok string
string_of d format base (values.DebugStrRef offset) = string_at offset d.debug_str
string_of d format base (values.DebugLineStrRef offset) = string_at offset d.debug_line_str
string_of d format base (values.DebugStrRefSup offset) = sup_string_at offset d.sup
string_of d format base (values.DebugStrOffsetsIndex index) = indexed_string d format base index
string_of d format base _ = Err ExpectedString

-- whether the string of a value is taken from a section, so that it may take memory
abbrev pub string_takes_memory : Bool → AttributeValue Section → Bool
string_takes_memory shares (values.String string) = false
string_takes_memory shares _ = shares
