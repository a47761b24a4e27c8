-- Numbers of a fixed length, addresses, offsets, texts and parts (DWARF 5, sections 7.4, 7.31 and
-- 7.32).
-- Own: a reading past the end of the section is UnexpectedEof.
-- Own: an address size other than 1, 2, 4 and 8 is UnsupportedAddressSize.
use Rattle.std.specs.List.{position}
use Rattle.std.specs.Prelude.{ℕ, ◌+◌, ◌^◌, ◌==◌, ◌||◌, not, Bool, List, length, slice_index, Option, Some, None, Ok, Err, nat_lt, if◌then◌else◌, ℤ, pos, negsuc}
use Rattle.std.specs.Int.{w8, cast_signed}
use Rattle.byteorder.specs.Endian.{big_number, little_number}
use Rattle.gimli_read.specs.declared.constants.TheConstants.{FIRST_RESERVED_LENGTH, LENGTH_ESCAPE}
use Rattle.gimli_read.specs.declared.error.Error.TheVariants.{UnexpectedEof, UnsupportedAddressSize, UnknownReservedLength}
use Rattle.gimli_read.specs.declared.endian.RunTimeEndian.{RunTimeEndian}
use Rattle.gimli_read.specs.declared.endian.RunTimeEndian.TheVariants.{Little, Big}
use Rattle.gimli_read.specs.declared.endian.Format.{Format}
use Rattle.gimli_read.specs.declared.endian.Format.TheVariants.{Dwarf32, Dwarf64}
use Rattle.gimli_read.specs.Section.{Section, first, after}
use Rattle.gimli_read.specs.Reading.{Reading, ◌>>=◌, refused_if}

-- whether a number has 64 bits
abbrev pub fits_u64 : ℕ → Bool
fits_u64 n = nat_lt n (2 ^ 64)

-- whether a number has signed 64 bits
abbrev pub fits_i64 : ℤ → Bool
fits_i64 (pos n) = nat_lt n (2 ^ 63)
fits_i64 (negsuc n) = nat_lt n (2 ^ 63)

-- the base 256 value of the first n bytes in their order
abbrev pub number_of : RunTimeEndian → ℕ → List ℕ → ℕ
number_of Little n bytes = little_number n bytes
number_of Big n bytes = big_number n bytes

-- n bytes that nobody looks at
abbrev pub skipped_at : ℕ → Section → Reading (Unit {0})
skipped_at n s = if nat_lt (length s.bytes) n then Err UnexpectedEof else Ok (tt, after n s)

-- n bytes as a section of their own
abbrev pub split_at : ℕ → Section → Reading Section
split_at n s = if nat_lt (length s.bytes) n then Err UnexpectedEof else Ok (first n s, after n s)

-- a number of n bytes
abbrev pub fixed_at : ℕ → Section → Reading ℕ
fixed_at n s =
    if nat_lt (length s.bytes) n then Err UnexpectedEof
    else Ok (number_of s.endian n s.bytes, after n s)

-- a signed number of one byte, in two's complement
abbrev pub signed_byte_at : Section → Reading ℤ
signed_byte_at s =
    if nat_lt (length s.bytes) 1 then Err UnexpectedEof
    else Ok (cast_signed w8 (slice_index s.bytes 0), after 1 s)

-- the sizes that an address may have
abbrev pub is_address_size : ℕ → Bool
is_address_size n = n == 1 || n == 2 || n == 4 || n == 8

-- an address size, of one byte
unfoldable pub address_size_at : Section → Reading ℕ
address_size_at s = do
  size ← fixed_at 1 s
  known ← refused_if (not (is_address_size size.0)) UnsupportedAddressSize
  Ok size

-- an address of a size
abbrev pub address_at : ℕ → Section → Reading ℕ
address_at size s = if is_address_size size then fixed_at size s else Err UnsupportedAddressSize

-- the number of bytes of an offset
abbrev pub offset_size : Format → ℕ
offset_size Dwarf32 = 4
offset_size Dwarf64 = 8

-- an offset or a length, which the format makes four bytes or eight
abbrev pub offset_at : Format → Section → Reading ℕ
offset_at Dwarf32 s = fixed_at 4 s
offset_at Dwarf64 s = fixed_at 8 s

-- what stands before the place of a zero byte, which is passed over
abbrev pub ended_at : Section → Option ℕ → Reading Section
ended_at s None = Err UnexpectedEof
ended_at s (Some n) = Ok (first n s, after (n + 1) s)

-- a text that ends before its zero byte
abbrev pub null_terminated_at : Section → Reading Section
null_terminated_at s = ended_at s (position (λ b. b == 0) s.bytes)

-- the eight bytes of a length after its escape
unfoldable pub long_length_at : Section → Reading (ℕ × Format)
long_length_at s = do
  long ← fixed_at 8 s
  Ok ((long.0, Dwarf64), long.1)

-- the length of a unit and its format: one of four bytes is an escape, the fifteen below reserved
unfoldable pub initial_length_at : Section → Reading (ℕ × Format)
initial_length_at s = do
  short ← fixed_at 4 s
  if nat_lt short.0 FIRST_RESERVED_LENGTH then Ok ((short.0, Dwarf32), short.1)
      else if nat_lt short.0 LENGTH_ESCAPE then Err UnknownReservedLength
      else long_length_at short.1
