-- Sections by their names (System V ABI, Object Files: Sections).
-- Own: the first section of a name counts. A section that is missing, or NOBITS, is empty.
-- Own: refused, in this order, are a section outside the file, a compressed one, and one that
-- still needs relocations; a missing one is compressed where .zdebug_ stands in place of the
-- .debug_ of its name.
use Rattle.std.specs.List.{position, starts_with, list_any}
use Rattle.std.specs.Option.{option_map_or}
use Rattle.std.specs.Prelude.{ℕ, ◌+◌, ◌==◌, ◌&&◌, ◌||◌, Bool, false, not, List, [], Option, Some, None, Ok, Err, if◌then◌else◌, drop, length, nat_eq, codes, bit_and, option_map, option_and_then}
use Rattle.std.specs.Str.{bytes_eq}
use Rattle.std.specs.List.{slice_get}
use Rattle.gimli_read.specs.Section.{Section}
use Rattle.gimli_read.specs.Number.{fits_u64}
use Rattle.gimli_read.specs.declared.range.Range.{Range}
use Rattle.elf.specs.declared.constants.TheConstants.{SHT_REL, SHT_RELA, SHF_COMPRESSED}
use Rattle.elf.specs.declared.error.LoaderError.TheVariants.{BadElf, CompressedSection, RelocationsNeeded}
use Rattle.elf.specs.declared.section.SectionHeader.{SectionHeader}
use Rattle.elf.specs.SectionBytes.{bytes_at, is_nobits, is_outside, string_table_in, table_text_at}
use Rattle.elf.specs.Loading.{Loading}
use Rattle.elf.specs.ObjectFile.{ObjectFile}

-- the table of the sections' names
abbrev pub section_names_of : ObjectFile → List ℕ
section_names_of file = string_table_in file.bytes file.sections file.name_table

-- whether a text of the table is the name
abbrev pub is_named : List ℕ → List ℕ → SectionHeader → Bool
is_named names name s = option_map_or (λ t. bytes_eq t name) (table_text_at names s.name) false

-- the number of the first section of a name
abbrev pub number_named : List ℕ → ObjectFile → Option ℕ
number_named name file = position (is_named (section_names_of file) name) file.sections

-- that section, beside its number
abbrev pub first_named : List ℕ → ObjectFile → Option (ℕ × SectionHeader)
first_named name file = option_and_then (λ n.
    option_map (λ (s : SectionHeader). (n, s)) (slice_get file.sections n)) (number_named name file)

-- the addresses of a section; none where they pass 64 bits
abbrev pub addresses_of : SectionHeader → Option Range
addresses_of s = if fits_u64 (s.address + s.size)
    then Some (record { begin = s.address; end = s.address + s.size })
    else None

-- the addresses of the first section of a name, whatever its type and flags
abbrev pub section_range_at : List ℕ → ObjectFile → Option Range
section_range_at name file = option_and_then (λ found. addresses_of found.1) (first_named name file)

-- what the name of a section of debug information begins with
abbrev pub debug_prefix : List ℕ
debug_prefix = codes ".debug_"

-- what stands in place of it where a section is compressed without SHF_COMPRESSED
abbrev pub zdebug_prefix : List ℕ
zdebug_prefix = codes ".zdebug_"

-- whether a text is the name with .zdebug_ in place of .debug_
abbrev pub is_zdebug_text : List ℕ → List ℕ → Bool
is_zdebug_text name text = starts_with nat_eq name debug_prefix
    && (starts_with nat_eq text zdebug_prefix
    && bytes_eq (drop (length zdebug_prefix) text) (drop (length debug_prefix) name))

-- whether a section has such a name
abbrev pub is_zdebug : List ℕ → List ℕ → SectionHeader → Bool
is_zdebug names name s = option_map_or (is_zdebug_text name) (table_text_at names s.name) false

-- whether the section's bytes are compressed
abbrev pub is_compressed : SectionHeader → Bool
is_compressed s = not (bit_and s.flags SHF_COMPRESSED == 0)

-- whether a section changes bytes of another one when the file is linked: a nonempty REL or RELA
abbrev pub relocates : ℕ → SectionHeader → Bool
relocates n s = (s.kind == SHT_RELA || s.kind == SHT_REL) && (not (s.size == 0) && s.info == n)

-- whether section n still needs relocations
abbrev pub is_relocated : ObjectFile → ℕ → Bool
is_relocated file n = file.is_relocatable && list_any (relocates n) file.sections

-- no bytes in the file's order
abbrev pub empty_contents : ObjectFile → Section
empty_contents file = record { bytes = []; endian = file.endian }

-- the bytes of section n
unfoldable pub contents_of : ObjectFile → ℕ → SectionHeader → Loading Section
contents_of file n s = if is_nobits s then Ok (empty_contents file)
    else if is_outside file.bytes s then Err BadElf
    else if is_compressed s then Err CompressedSection
    else if is_relocated file n then Err RelocationsNeeded
    else Ok (record { bytes = bytes_at file.bytes s; endian = file.endian })

-- the answer for a name that no section has
abbrev pub missing_section : List ℕ → ObjectFile → Loading Section
missing_section name file = if list_any (is_zdebug (section_names_of file) name) file.sections
    then Err CompressedSection
    else Ok (empty_contents file)

-- the bytes of the first section of a name
unfoldable pub section_at : List ℕ → ObjectFile → Loading Section
section_at name file = option_map_or (λ found. contents_of file found.0 found.1)
    (first_named name file) (missing_section name file)

-- whether a loading gives a section with bytes, which it shares with the file
abbrev pub gives_bytes_of_file : Loading Section → Bool
gives_bytes_of_file (Ok s) = not (length s.bytes == 0)
gives_bytes_of_file (Err e) = false
