-- The values of attributes as a relation of texts (DWARF 5, sections 7.5.5 and 7.5.6): the text of
-- a form's value, and which value it is.
-- Own: a form that is not listed has no value, nor has DW_FORM_indirect to DW_FORM_implicit_const.
use Rattle.std.specs.Prelude.{◌≡◌, ◌≢◌, ◌⊎◌, ℕ, zero, suc, ◌+◌, ◌*◌, ◌^◌, ◌<◌, true, List, [], ◌∷◌, ◌++◌, length, slice_index, Option, Some, None, ℤ}
use Rattle.gimli_read.specs.declared.constants.TheConstants.{DWARF_2}
use Rattle.gimli_read.specs.declared.constants.TheConstants.DwForm.{DW_FORM_indirect, DW_FORM_implicit_const}
use Rattle.gimli_read.specs.declared.endian.RunTimeEndian.{RunTimeEndian}
use Rattle.gimli_read.specs.declared.endian.RunTimeEndian.TheVariants.{Little, Big}
use Rattle.gimli_read.specs.declared.endian.Encoding.{Encoding}
use Rattle.gimli_read.specs.declared.value.AttributeValue.{AttributeValue}
use Rattle.gimli_read.specs.declared.value.AttributeValue.TheVariants as values
use Rattle.gimli_read.specs.Abbreviations.{Specification}
use Rattle.gimli_read.specs.Section.{Section}
use Rattle.gimli_read.specs.Number.{is_address_size, offset_size}
use Rattle.gimli_read.specs.Leb128.{IsUleb128, IsSleb128}
use Rattle.gimli_read.specs.Form.{NamedValue}
use Rattle.gimli_read.specs.FormEncoding.{FormEncoding, Fixed, Address, Offset, AddressOrOffset, Unsigned, Signed, Block1, Block2, Block4, Block, Text, Empty, form_encoding_of}

-- the base 256 value of bytes, the lowest first
abbrev pub low_first : List ℕ → ℕ
low_first [] = 0
low_first (b ∷ bytes) = b + 256 * low_first bytes

-- the base 256 value of bytes, the highest first
abbrev pub high_first : List ℕ → ℕ
high_first [] = 0
high_first (b ∷ bytes) = b * 256 ^ length bytes + high_first bytes

-- the base 256 value of bytes in their order
abbrev pub number_in : RunTimeEndian → List ℕ → ℕ
number_in Little bytes = low_first bytes
number_in Big bytes = high_first bytes

-- the text is one number of n bytes, and this is its value
pub record IsFixed (order : RunTimeEndian) (n : ℕ) (text : List ℕ) (x : ℕ) : Type 0 where
  pub long : length text ≡ n
  pub value : x ≡ number_in order text

-- an address, which has 1, 2, 4 or 8 bytes
abbrev pub IsAddress : Encoding → RunTimeEndian → List ℕ → ℕ → Type 0
IsAddress encoding order text x =
    (is_address_size encoding.address_size ≡ true) × IsFixed order encoding.address_size text x

-- an offset
abbrev pub IsOffset : Encoding → RunTimeEndian → List ℕ → ℕ → Type 0
IsOffset encoding order text x = IsFixed order (offset_size encoding.format) text x

-- an address in version 2, else an offset
abbrev pub IsAddressOrOffset : Encoding → RunTimeEndian → List ℕ → ℕ → Type 0
IsAddressOrOffset encoding order text x =
    ((encoding.version ≡ DWARF_2) × IsAddress encoding order text x)
    ⊎ ((encoding.version ≢ DWARF_2) × IsOffset encoding order text x)

-- a value made of what the text is
abbrev pub IsMadeOf : {A : Type 0} → (List ℕ → A → Type 0) → (A → AttributeValue Section) → List ℕ
    → AttributeValue Section → Type 0
IsMadeOf {A = A} is make text value = (x : A) × is text x × (value ≡ make x)

-- bytes in an order
abbrev pub section_of : RunTimeEndian → List ℕ → Section
section_of order bytes = record { bytes = bytes; endian = order }

-- the text of a length, and as many bytes
pub record IsBlock (order : RunTimeEndian) (is : List ℕ → ℕ → Type 0) (text : List ℕ)
    (block : Section) : Type 0 where
  pub front : List ℕ
  pub joined : text ≡ front ++ block.bytes
  pub counted : is front (length block.bytes)
  pub in_order : block.endian ≡ order

-- bytes other than zero, and a zero
pub record IsEnded (order : RunTimeEndian) (text : List ℕ) (chars : Section) : Type 0 where
  pub joined : text ≡ chars.bytes ++ 0 ∷ []
  pub no_zero : (k : ℕ) → k < length chars.bytes → slice_index chars.bytes k ≢ 0
  pub in_order : chars.endian ≡ order

-- the text is encoded so, and this is its value
abbrev pub IsEncoded : Encoding → RunTimeEndian → FormEncoding → List ℕ → AttributeValue Section
    → Type 0
IsEncoded encoding order (Fixed n make) text value = IsMadeOf (IsFixed order n) make text value
IsEncoded encoding order (Address make) text value =
    IsMadeOf (IsAddress encoding order) make text value
IsEncoded encoding order (Offset make) text value =
    IsMadeOf (IsOffset encoding order) make text value
IsEncoded encoding order (AddressOrOffset make) text value =
    IsMadeOf (IsAddressOrOffset encoding order) make text value
IsEncoded encoding order (Unsigned make) text value = IsMadeOf IsUleb128 make text value
IsEncoded encoding order (Signed make) text value = IsMadeOf IsSleb128 make text value
IsEncoded encoding order (Block1 make) text value =
    IsMadeOf (IsBlock order (IsFixed order 1)) make text value
IsEncoded encoding order (Block2 make) text value =
    IsMadeOf (IsBlock order (IsFixed order 2)) make text value
IsEncoded encoding order (Block4 make) text value =
    IsMadeOf (IsBlock order (IsFixed order 4)) make text value
IsEncoded encoding order (Block make) text value =
    IsMadeOf (IsBlock order IsUleb128) make text value
IsEncoded encoding order (Text make) text value = IsMadeOf (IsEnded order) make text value
IsEncoded encoding order (Empty made) text value = (text ≡ []) × (value ≡ made)

-- the text is one value of a listed form, and this is the value
abbrev pub IsListedValue : Encoding → RunTimeEndian → Option FormEncoding → List ℕ
    → AttributeValue Section → Type 0
IsListedValue encoding order None text value = ⊥
IsListedValue encoding order (Some form) text value = IsEncoded encoding order form text value

-- the text is one value after n indirections, each of which names the form of what follows it
abbrev pub IsIndirectValue : ℕ → Encoding → RunTimeEndian → ℕ → List ℕ → AttributeValue Section
    → Type 0
IsIndirectValue zero encoding order form text value =
    IsListedValue encoding order (form_encoding_of form) text value
IsIndirectValue (suc n) encoding order form text value =
    (form ≡ DW_FORM_indirect.0)
    × ((named : ℕ) × (front rest : List ℕ) × (text ≡ front ++ rest) × IsUleb128 front named
    × IsIndirectValue n encoding order named rest value)

-- the text is one value of a form, and this is the value
abbrev pub IsValue : Encoding → RunTimeEndian → ℕ → List ℕ → AttributeValue Section → Type 0
IsValue encoding order form text value = (n : ℕ) × IsIndirectValue n encoding order form text value

-- the text is the value of an attribute: none for DW_FORM_implicit_const, whose value stands in the
-- abbreviation
abbrev pub IsAttributeValue : Encoding → RunTimeEndian → Specification → List ℕ
    → AttributeValue Section → Type 0
IsAttributeValue encoding order specification text value =
    ((specification.form.0 ≡ DW_FORM_implicit_const.0) × (text ≡ [])
    × ((z : ℤ) × (specification.constant ≡ Some z) × (value ≡ values.Sdata z)))
    ⊎ ((specification.form.0 ≢ DW_FORM_implicit_const.0)
    × IsValue encoding order specification.form.0 text value)

-- the text is one attribute of a specification, and this is the attribute
pub record IsAttribute (encoding : Encoding) (order : RunTimeEndian)
    (specification : Specification) (text : List ℕ) (attribute : NamedValue) : Type 0 where
  pub named : attribute.name ≡ specification.name
  pub valued : IsAttributeValue encoding order specification text attribute.value
