-- The numbers of statuses, and what they say.
-- Own: the library's own statuses come first, then refusals of files, then those of DWARF bytes; a
-- refused growth has one number, wherever it was refused.
use Rattle.std.specs.Prelude.{ℕ, List, codes, Result, Ok, Err}
use Rattle.addr2line_c.specs.Common.{Error}
use Rattle.gimli_read.specs.declared.error.Error.TheVariants as reading
use Rattle.elf.specs.declared.error.LoaderError.{LoaderError}
use Rattle.elf.specs.declared.error.LoaderError.TheVariants as loading
use Rattle.elf.specs.Text.{loader_error_of, loader_text_of}
use Rattle.addr2line_c.specs.declared.status.Status.{Status}
use Rattle.addr2line_c.specs.declared.status.Status.TheVariants.{Done, TooSmall, Waits, Nothing, Closed, OtherUnit, BadFlags, Refused}

-- the number of a refused reading of DWARF bytes
abbrev pub dwarf_number : Error → ℕ
dwarf_number reading.OutOfMemory = 16
dwarf_number reading.UnexpectedEof = 32
dwarf_number reading.BadLeb128 = 33
dwarf_number reading.UnknownReservedLength = 34
dwarf_number reading.UnknownVersion = 35
dwarf_number reading.UnknownUnitType = 36
dwarf_number reading.UnsupportedAddressSize = 37
dwarf_number reading.UnsupportedSegmentSize = 38
dwarf_number reading.BadAbbreviation = 39
dwarf_number reading.UnknownAbbreviation = 40
dwarf_number reading.UnknownForm = 41
dwarf_number reading.MissingUnitDie = 42
dwarf_number reading.OffsetOutOfBounds = 43
dwarf_number reading.ExpectedString = 44
dwarf_number reading.NoSupplementary = 45
dwarf_number (reading.NoEntryAtGivenOffset offset) = 46
dwarf_number reading.UnknownRangeListEntry = 47
dwarf_number reading.BadLineHeader = 48
dwarf_number reading.AddressOverflow = 49
dwarf_number reading.UnknownToken = 50

-- the number of a refusal
abbrev pub loader_number : LoaderError → ℕ
loader_number loading.OutOfMemory = 16
loader_number loading.Io = 17
loader_number loading.NotElf = 18
loader_number loading.BadElf = 19
loader_number loading.CompressedSection = 20
loader_number loading.RelocationsNeeded = 21
loader_number loading.PathNotUtf8 = 22
loader_number (loading.Dwarf e) = dwarf_number e

-- the number of a status
abbrev pub status_number : Status → ℕ
status_number Done = 0
status_number TooSmall = 1
status_number Waits = 2
status_number Nothing = 3
status_number Closed = 4
status_number OtherUnit = 5
status_number BadFlags = 6
status_number (Refused e) = loader_number e

-- what a status says
abbrev pub status_text : Status → List ℕ
status_text Done = codes "done"
status_text TooSmall = codes "a buffer is too small"
status_text Waits = codes "a split file is waited for"
status_text Nothing = codes "nothing there"
status_text Closed = codes "the handle is not open"
status_text OtherUnit = codes "the split file of another unit"
status_text BadFlags = codes "unknown flags"
status_text (Refused e) = loader_text_of e

-- the status of a refused reading of DWARF bytes
abbrev pub status_of_error : Error → Status
status_of_error e = Refused (loader_error_of e)

-- a status, but where something was refused before it
abbrev pub after_reply : Result (Unit {0}) Error → Status → Status
after_reply (Ok x) s = s
after_reply (Err e) s = status_of_error e
