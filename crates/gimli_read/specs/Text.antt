-- Bytes as text, and the texts of the refusals.
-- Own: bytes that are no UTF-8 are replaced by U+FFFD; a refusal has one text, in lower case.
use Rattle.std.specs.Prelude.{ℕ, List, codes}
use Rattle.std.specs.Str.{encode_utf8_all}
use Rattle.bstr.specs.Utf8.{lossy_chars}
use Rattle.gimli_read.specs.declared.error.Error.{Error}
use Rattle.gimli_read.specs.declared.error.Error.TheVariants.{OutOfMemory, UnexpectedEof, BadLeb128, UnknownReservedLength, UnknownVersion, UnknownUnitType, UnsupportedAddressSize, UnsupportedSegmentSize, BadAbbreviation, UnknownAbbreviation, UnknownForm, MissingUnitDie, OffsetOutOfBounds, ExpectedString, NoSupplementary, NoEntryAtGivenOffset, UnknownRangeListEntry, BadLineHeader, AddressOverflow, UnknownToken}

-- the characters of the bytes, with U+FFFD for each piece that is none, in UTF-8
abbrev pub lossy_text : List ℕ → List ℕ
lossy_text bytes = encode_utf8_all (lossy_chars bytes)

-- what a refusal says
abbrev pub text_of : Error → List ℕ
text_of OutOfMemory = codes "out of memory"
text_of UnexpectedEof = codes "unexpected end of data"
text_of BadLeb128 = codes "bad LEB128 number"
text_of UnknownReservedLength = codes "unknown reserved length"
text_of UnknownVersion = codes "unknown DWARF version"
text_of UnknownUnitType = codes "unknown unit type"
text_of UnsupportedAddressSize = codes "unsupported address size"
text_of UnsupportedSegmentSize = codes "unsupported segment size"
text_of BadAbbreviation = codes "bad abbreviation"
text_of UnknownAbbreviation = codes "unknown abbreviation code"
text_of UnknownForm = codes "unknown attribute form"
text_of MissingUnitDie = codes "missing unit entry"
text_of OffsetOutOfBounds = codes "offset out of bounds"
text_of ExpectedString = codes "expected a string"
text_of NoSupplementary = codes "no supplementary file"
text_of (NoEntryAtGivenOffset offset) = codes "no entry at the given offset"
text_of UnknownRangeListEntry = codes "unknown range list entry"
text_of BadLineHeader = codes "bad line program header"
text_of AddressOverflow = codes "address overflow"
text_of UnknownToken = codes "unknown unit token"
