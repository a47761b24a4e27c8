-- Where the string of a value stands, as the private functions see it (on specs/Text.antt).
use Rattle.std.specs.Prelude.{ℕ, Option, None, Some, Result, Ok, Err}
use Rattle.gimli.specs.Common.{Error, ExpectedString, NoSupplementary, Format, AttributeValue, Section, ◌>>=◌, offset_size}
use Rattle.gimli_read.specs.declared.value.AttributeValue.TheVariants as values
use Rattle.gimli.specs.declared.text.StringPlace.{StringPlace}
use Rattle.gimli.specs.declared.text.StringPlace.TheVariants.{InValue, InSection}
use Rattle.gimli.specs.Sections.{Sections, SupSections}
use Rattle.gimli.specs.Text.{indexed_number}

-- the strings of the supplementary file
abbrev pub sup_strings : Option SupSections → Result Section Error
sup_strings None = Err NoSupplementary
sup_strings (Some sup) = Ok sup.debug_str

-- a place whose readers are seen as sections
abbrev pub as_string_place : {T S : Type 0} → (T → Section) → (S → Section) → StringPlace T S
    → StringPlace Section Section
as_string_place section_of see (InValue string) = InValue (see string)
as_string_place section_of see (InSection section offset) = InSection (section_of section) offset

-- where the string of a value stands
unfoldable pub string_place_of : Sections → Format → ℕ → AttributeValue Section
    → Result (StringPlace Section Section) Error
string_place_of d format base (values.String string) = Ok (InValue string)
string_place_of d format base (values.DebugStrRef offset) = Ok (InSection d.debug_str offset)
string_place_of d format base (values.DebugLineStrRef offset) =
    Ok (InSection d.debug_line_str offset)
string_place_of d format base (values.DebugStrRefSup offset) =
    sup_strings d.sup >>= λ strings. Ok (InSection strings offset)
string_place_of d format base (values.DebugStrOffsetsIndex index) =
    indexed_number (offset_size format) base index d.debug_str_offsets >>= λ offset.
    Ok (InSection d.debug_str offset)
string_place_of d format base _ = Err ExpectedString
