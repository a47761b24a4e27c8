-- How many bytes values take whose form alone says so (DWARF 5, sections 7.5.5 and 7.5.6).
-- Own: an address of a size other than 1, 2, 4 and 8 has none, since no such value is read.
use Rattle.std.specs.Prelude.{◌≡◌, ℕ, ◌+◌, ◌*◌, ◌==◌, ◌&&◌, nat_lt, Bool, true, Option, Some, None, if◌then◌else◌, ℤ}
use Rattle.gimli_read.specs.declared.constants.TheConstants.{DWARF_2}
use Rattle.gimli_read.specs.declared.constants.TheConstants.DwForm.{DW_FORM_implicit_const}
use Rattle.gimli_read.specs.declared.endian.Encoding.{Encoding}
use Rattle.gimli_read.specs.declared.size.ValueSize.{ValueSize}
use Rattle.gimli_read.specs.declared.size.ValueSize.TheVariants as sizes
use Rattle.gimli_read.specs.declared.size.CountedSize.{CountedSize}
use Rattle.gimli_read.specs.declared.size.TotalSize.{TotalSize}
use Rattle.gimli_read.specs.Section.{Section}
use Rattle.gimli_read.specs.Version.{is_2}
use Rattle.gimli_read.specs.Abbreviations.{Specification}
use Rattle.gimli_read.specs.Number.{is_address_size, offset_size, skipped_at}
use Rattle.gimli_read.specs.Form.{attribute_at, rest_of}
use Rattle.gimli_read.specs.FormEncoding.{FormEncoding, Fixed, Address, Offset, AddressOrOffset, Unsigned, Signed, Block1, Block2, Block4, Block, Text, Empty, form_encoding_of}

-- what says how many bytes a value has that is encoded so
abbrev pub encoded_size : Option FormEncoding → ValueSize
encoded_size None = sizes.Other
encoded_size (Some (Fixed n make)) = sizes.Bytes n
encoded_size (Some (Address make)) = sizes.Address
encoded_size (Some (Offset make)) = sizes.Offset
encoded_size (Some (AddressOrOffset make)) = sizes.AddressOrOffset
encoded_size (Some (Unsigned make)) = sizes.Number
encoded_size (Some (Signed make)) = sizes.Other
encoded_size (Some (Block1 make)) = sizes.Other
encoded_size (Some (Block2 make)) = sizes.Other
encoded_size (Some (Block4 make)) = sizes.Other
encoded_size (Some (Block make)) = sizes.Block
encoded_size (Some (Text make)) = sizes.Text
encoded_size (Some (Empty made)) = sizes.Bytes 0

-- the same of a value that the abbreviation has: an entry has no bytes of it
abbrev pub constant_size : Option ℤ → ValueSize
constant_size None = sizes.Other
constant_size (Some z) = sizes.Bytes 0

-- what says how many bytes an attribute's value has
abbrev pub value_size_of : Specification → ValueSize
value_size_of x =
    if x.form.0 == DW_FORM_implicit_const.0 then constant_size x.constant
    else encoded_size (form_encoding_of x.form.0)

-- the bytes of an address
abbrev pub address_bytes : Encoding → Option ℕ
address_bytes encoding =
    if is_address_size encoding.address_size then Some encoding.address_size else None

-- the bytes of a size in a unit of an encoding
abbrev pub bytes_of : Encoding → ValueSize → Option ℕ
bytes_of encoding (sizes.Bytes n) = Some n
bytes_of encoding sizes.Address = address_bytes encoding
bytes_of encoding sizes.Offset = Some (offset_size encoding.format)
bytes_of encoding sizes.AddressOrOffset =
    if is_2 encoding.version then address_bytes encoding else Some (offset_size encoding.format)
bytes_of encoding _ = None

-- the bytes of an attribute's value, where its form alone says so
abbrev pub attribute_size : Encoding → Specification → Option ℕ
attribute_size encoding x = bytes_of encoding (value_size_of x)

-- the bytes of a number of addresses or of offsets, by the version
abbrev pub address_or_offset_bytes : Encoding → ℕ
address_or_offset_bytes encoding =
    if is_2 encoding.version then encoding.address_size else offset_size encoding.format

-- the bytes of so many bytes, addresses and offsets in a unit of an encoding
abbrev pub counted_bytes : Encoding → CountedSize → ℕ
counted_bytes encoding t =
    t.bytes + t.addresses * encoding.address_size + t.offsets * offset_size encoding.format
    + t.addresses_or_offsets * address_or_offset_bytes encoding

-- whether an encoding is that of a usual unit: addresses of eight bytes, 32-bit DWARF, past version
-- 2
abbrev pub is_usual : Encoding → Bool
is_usual encoding =
    (encoding.address_size == 8) && nat_lt DWARF_2 encoding.version
    && (offset_size encoding.format == 4)

-- the bytes that a total comes to in a unit of an encoding
abbrev pub total_bytes : Encoding → TotalSize → ℕ
total_bytes encoding t =
    if is_usual encoding then t.usual else counted_bytes encoding t.counted

-- the total of no value
abbrev pub no_size : TotalSize
no_size = record {
  usual = 0;
  counted = record { bytes = 0; addresses = 0; offsets = 0; addresses_or_offsets = 0 };
}

-- counts are others with a value of this size, in each encoding whose addresses can be read
abbrev pub AddsCounted : ValueSize → CountedSize → CountedSize → Type 0
AddsCounted size old new =
    (encoding : Encoding) → is_address_size encoding.address_size ≡ true
    → (n : ℕ) × (bytes_of encoding size ≡ Some n)
    × (counted_bytes encoding new ≡ counted_bytes encoding old + n)

-- one total is another with a value of this size, in each encoding whose addresses can be read
abbrev pub AddsSize : ValueSize → TotalSize → TotalSize → Type 0
AddsSize size old new =
    (encoding : Encoding) → is_address_size encoding.address_size ≡ true
    → (n : ℕ) × (bytes_of encoding size ≡ Some n)
    × (total_bytes encoding new ≡ total_bytes encoding old + n)

-- to read an attribute of this size leaves what passing over as many bytes leaves
abbrev pub LeavesItsSize : Type 0
LeavesItsSize =
    (encoding : Encoding) (x : Specification) (n : ℕ) (s : Section)
    → attribute_size encoding x ≡ Some n
    → rest_of (attribute_at encoding x s) ≡ rest_of (skipped_at n s)
