-- The texts of the refusals of a loader, and its refusal for a refused reading of DWARF.
-- Own: a refusal has one text, in lower case; that of a DWARF reading is the reading's own.
-- Own: OutOfMemory is one refusal, wherever a growth was refused.
use Rattle.std.specs.Prelude.{ℕ, List, codes}
use Rattle.gimli_read.specs.declared.error.Error.{Error}
use Rattle.gimli_read.specs.declared.error.Error.TheVariants as reading
use Rattle.gimli_read.specs.Text as dwarf
use Rattle.elf.specs.declared.error.LoaderError.{LoaderError}
use Rattle.elf.specs.declared.error.LoaderError.TheVariants.{Io, NotElf, BadElf, CompressedSection, RelocationsNeeded, PathNotUtf8, Dwarf, OutOfMemory}

-- the text of a refusal
abbrev pub loader_text_of : LoaderError → List ℕ
loader_text_of Io = codes "the file cannot be read"
loader_text_of NotElf = codes "not an ELF file"
loader_text_of BadElf = codes "malformed ELF file"
loader_text_of CompressedSection = codes "compressed section"
loader_text_of RelocationsNeeded = codes "section needs relocations"
loader_text_of PathNotUtf8 = codes "path is not UTF-8"
loader_text_of (Dwarf e) = dwarf.text_of e
loader_text_of OutOfMemory = codes "out of memory"

-- the refusal for a refused reading
abbrev pub loader_error_of : Error → LoaderError
loader_error_of reading.OutOfMemory = OutOfMemory
loader_error_of e = Dwarf e
