-- What the readings of numbers, values and attributes have to do with their texts (DWARF 5, section
-- 7.5): each text is read, whatever follows, and nothing else is.
use Rattle.std.specs.Prelude.{◌≡◌, ℕ, List, ◌++◌, Ok}
use Rattle.gimli_read.specs.declared.endian.RunTimeEndian.{RunTimeEndian}
use Rattle.gimli_read.specs.declared.endian.Encoding.{Encoding}
use Rattle.gimli_read.specs.declared.value.AttributeValue.{AttributeValue}
use Rattle.gimli_read.specs.Abbreviations.{Specification}
use Rattle.gimli_read.specs.Section.{Section}
use Rattle.gimli_read.specs.Reading.{Reading}
use Rattle.gimli_read.specs.Number.{fixed_at}
use Rattle.gimli_read.specs.Form.{NamedValue, value_at, attribute_at}
use Rattle.gimli_read.specs.Value.{section_of, IsFixed, IsValue, IsAttribute}

-- the text, with what is left after it, is read as x
abbrev pub IsReadAs : {X : Type 0} → (Section → Reading X) → RunTimeEndian → List ℕ → List ℕ → X
    → Type 0
IsReadAs reading order text rest x =
    reading (section_of order (text ++ rest)) ≡ Ok (x, section_of order rest)

-- the section is a text and what is left
abbrev pub IsTextAndRest : Section → List ℕ → Section → Type 0
IsTextAndRest s text rest = s ≡ section_of rest.endian (text ++ rest.bytes)

-- each text of a fixed number is read as that number, whatever follows
abbrev pub ReadsFixed : Type 0
ReadsFixed =
    (order : RunTimeEndian) (n x : ℕ) (text rest : List ℕ)
    → IsFixed order n text x → IsReadAs (fixed_at n) order text rest x

-- and nothing else is read
abbrev pub ReadsFixedAlone : Type 0
ReadsFixedAlone =
    (n x : ℕ) (s rest : Section) → fixed_at n s ≡ Ok (x, rest)
    → (text : List ℕ) × IsFixed s.endian n text x × IsTextAndRest s text rest

-- each text of a value is read as that value, whatever follows
abbrev pub ReadsValue : Type 0
ReadsValue =
    (encoding : Encoding) (order : RunTimeEndian) (form : ℕ) (text rest : List ℕ)
    (value : AttributeValue Section)
    → IsValue encoding order form text value
    → IsReadAs (value_at encoding form) order text rest value

-- and nothing else is read
abbrev pub ReadsValueAlone : Type 0
ReadsValueAlone =
    (encoding : Encoding) (form : ℕ) (s rest : Section) (value : AttributeValue Section)
    → value_at encoding form s ≡ Ok (value, rest)
    → (text : List ℕ) × IsValue encoding s.endian form text value × IsTextAndRest s text rest

-- each text of an attribute is read as that attribute, whatever follows
abbrev pub ReadsAttribute : Type 0
ReadsAttribute =
    (encoding : Encoding) (order : RunTimeEndian) (specification : Specification)
    (text rest : List ℕ) (attribute : NamedValue)
    → IsAttribute encoding order specification text attribute
    → IsReadAs (attribute_at encoding specification) order text rest attribute

-- and nothing else is read
abbrev pub ReadsAttributeAlone : Type 0
ReadsAttributeAlone =
    (encoding : Encoding) (specification : Specification) (s rest : Section)
    (attribute : NamedValue)
    → attribute_at encoding specification s ≡ Ok (attribute, rest)
    → (text : List ℕ) × IsAttribute encoding s.endian specification text attribute
    × IsTextAndRest s text rest

-- fixed numbers, values of forms and attributes
pub record ValueLaws : Type 0 where
  pub fixed : ReadsFixed
  pub fixed_alone : ReadsFixedAlone
  pub value : ReadsValue
  pub value_alone : ReadsValueAlone
  pub attribute : ReadsAttribute
  pub attribute_alone : ReadsAttributeAlone
