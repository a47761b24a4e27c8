-- The value of a form, as the form is encoded (DWARF 5, sections 7.5.5 and 7.5.6).
-- Own: a form that is not listed is UnknownForm where a value of it is read.
use Rattle.std.specs.Prelude.{ℕ, Option, Some, None, Ok, Err, if◌then◌else◌}
use Rattle.gimli_read.specs.declared.endian.Encoding.{Encoding}
use Rattle.gimli_read.specs.declared.error.Error.TheVariants.{UnknownForm}
use Rattle.gimli_read.specs.declared.value.AttributeValue.{AttributeValue}
use Rattle.gimli_read.specs.Section.{Section}
use Rattle.gimli_read.specs.Version.{is_2}
use Rattle.gimli_read.specs.Reading.{Reading, mapped, ◌>>=◌}
use Rattle.gimli_read.specs.Number.{fixed_at, offset_at, address_at, split_at, null_terminated_at}
use Rattle.gimli_read.specs.Leb128.{uleb128_at, sleb128_at}
use Rattle.gimli_read.specs.FormEncoding.{FormEncoding, Fixed, Address, Offset, AddressOrOffset, Unsigned, Signed, Block1, Block2, Block4, Block, Text, Empty}

-- a length, and as many bytes
abbrev pub block_at : Reading ℕ → Reading Section
block_at length = length >>= λ n. split_at n.0 n.1

-- an address in version 2, else an offset
abbrev pub address_or_offset_at : Encoding → Section → Reading ℕ
address_or_offset_at encoding s =
    if is_2 encoding.version then address_at encoding.address_size s
    else offset_at encoding.format s

-- the value that is encoded so; of no encoding UnknownForm
abbrev pub encoded_at : Encoding → Option FormEncoding → Section → Reading (AttributeValue Section)
encoded_at encoding None s = Err UnknownForm
encoded_at encoding (Some (Fixed n make)) s = mapped make (fixed_at n s)
encoded_at encoding (Some (Address make)) s = mapped make (address_at encoding.address_size s)
encoded_at encoding (Some (Offset make)) s = mapped make (offset_at encoding.format s)
encoded_at encoding (Some (AddressOrOffset make)) s =
    mapped make (address_or_offset_at encoding s)
encoded_at encoding (Some (Unsigned make)) s = mapped make (uleb128_at s)
encoded_at encoding (Some (Signed make)) s = mapped make (sleb128_at s)
encoded_at encoding (Some (Block1 make)) s = mapped make (block_at (fixed_at 1 s))
encoded_at encoding (Some (Block2 make)) s = mapped make (block_at (fixed_at 2 s))
encoded_at encoding (Some (Block4 make)) s = mapped make (block_at (fixed_at 4 s))
encoded_at encoding (Some (Block make)) s = mapped make (block_at (uleb128_at s))
encoded_at encoding (Some (Text make)) s = mapped make (null_terminated_at s)
encoded_at encoding (Some (Empty made)) s = Ok (made, s)
