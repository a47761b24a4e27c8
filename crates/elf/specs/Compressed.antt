-- Sections whose bytes are compressed (System V ABI, Object Files: Section Compression; the form
-- that GNU's tools had before it, in sections named .zdebug_).
-- Own: refused, in this order, are a section outside the file or whose header isn't whole (BadElf),
-- another compression than zlib's (CompressedSection), a section that still needs relocations
-- (RelocationsNeeded), and a stream that isn't one or inflates to another size than its header
-- tells (BadElf).
-- Own: a section named .zdebug_ is read in the older form, whatever its flag says; one that is
-- NOBITS has no header. What a header says of alignment, and its reserved number, aren't looked at.
-- Own: memory is taken for the stream of a section, once its header and the need of relocations
-- don't refuse it, and for a part of the file that is shared; for a name that lookups don't ask for
-- also for a copy of what is read, since the file's pieces may not have it in one.
use Rattle.std.specs.List.{position, starts_with}
use Rattle.std.specs.Option.{option_map_or}
use Rattle.std.specs.Prelude.{ℕ, ◌*◌, ◌==◌, ◌&&◌, ◌||◌, Bool, not, List, Option, Ok, Err, if◌then◌else◌, drop, length, nat_eq, nat_lt, codes, option_map, option_and_then}
use Rattle.elf.specs.Common.{RunTimeEndian}
use Rattle.std.specs.List.{slice_get}
use Rattle.gimli_read.specs.declared.endian.RunTimeEndian.TheVariants.{Big}
use Rattle.gimli_read.specs.Costed.{◌>>=◌, free}
use Rattle.gimli_read.specs.Section.{Section}
use Rattle.inflate.specs.Reading.{OrFault}
use Rattle.inflate.specs.Inflated.{inflated, stream_takes_memory}
use Rattle.elf.specs.declared.constants.TheConstants.{WORD_SIZE, ELFCOMPRESS_ZLIB, ZLIB_SIZE, ZLIB_HEADER_SIZE}
use Rattle.elf.specs.declared.error.LoaderError.TheVariants.{BadElf, CompressedSection, RelocationsNeeded}
use Rattle.elf.specs.declared.section.SectionHeader.{SectionHeader}
use Rattle.elf.specs.Layout.{layout_number_at, layout_of}
use Rattle.elf.specs.Loading.{CostedLoading, Loading}
use Rattle.elf.specs.ObjectFile.{ObjectFile}
use Rattle.elf.specs.SectionBytes.{bytes_at, is_nobits, is_outside, section_bytes_in}
use Rattle.elf.specs.Wanted.{is_wanted_text}
use Rattle.elf.specs.Sections.{section_names_of, first_named, is_zdebug, is_compressed, is_relocated, empty_contents, contents_of, gives_bytes_of_file}

-- the size that a stream is to have, and the stream
abbrev pub PackedSection : Type 0
PackedSection = ℕ × List ℕ

-- behind a compression header of three addresses' size: ch_type, ch_size, ch_addralign
unfoldable pub packed_in : RunTimeEndian → ℕ → List ℕ → Loading PackedSection
packed_in endian size bytes =
    if nat_lt (length bytes) (3 * size) then Err BadElf
    else if not (layout_number_at endian 0 WORD_SIZE bytes == ELFCOMPRESS_ZLIB)
    then Err CompressedSection
    else Ok (layout_number_at endian size size bytes, drop (3 * size) bytes)

-- behind "ZLIB" and the size in eight bytes, the highest first
unfoldable pub zdebug_packed_in : List ℕ → Loading PackedSection
zdebug_packed_in bytes =
    if not (starts_with nat_eq bytes (codes "ZLIB")) then Err BadElf
    else if nat_lt (length bytes) ZLIB_HEADER_SIZE then Err BadElf
    else Ok (layout_number_at Big 4 ZLIB_SIZE bytes, drop ZLIB_HEADER_SIZE bytes)

-- what a stream gave, if it has the size
abbrev pub of_size : ℕ → OrFault (List ℕ) → Loading (List ℕ)
of_size size (Ok bytes) = if length bytes == size then Ok bytes else Err BadElf
of_size size (Err e) = Err BadElf

-- what a stream inflates to, if it has the size
unfoldable pub unpacked_section : PackedSection → CostedLoading (List ℕ)
unpacked_section p = record {
  given = of_size p.0 (inflated p.0 p.1);
  takes_memory = λ shares. stream_takes_memory p.0 p.1;
}

-- the bytes of section n in a file's order, which a stream has
unfoldable pub unpacked_contents : ObjectFile → ℕ → PackedSection → CostedLoading Section
unpacked_contents file n p = if is_relocated file n then free (Err RelocationsNeeded)
    else unpacked_section p >>= λ bytes. free (Ok (record { bytes = bytes; endian = file.endian }))

-- the same, once that is read
abbrev pub inflated_contents : ObjectFile → ℕ → Loading PackedSection → CostedLoading Section
inflated_contents file n packed = free packed >>= unpacked_contents file n

-- the bytes of section n as they stand in the file
abbrev pub shared_contents : ObjectFile → ℕ → SectionHeader → CostedLoading Section
shared_contents file n s = record {
  given = contents_of file n s;
  takes_memory = λ shares. shares && gives_bytes_of_file (contents_of file n s);
}

-- the bytes of section n, decompressed where they are compressed
unfoldable pub decompressed_of : ObjectFile → ℕ → SectionHeader → CostedLoading Section
decompressed_of file n s =
    if is_nobits s || (is_outside file.bytes s || not (is_compressed s))
    then shared_contents file n s
    else inflated_contents file n
    (packed_in file.endian (layout_of file.class).address_size (bytes_at file.bytes s))

-- the first section with .zdebug_ for the .debug_ of a name, beside its number
abbrev pub first_zdebug : List ℕ → ObjectFile → Option (ℕ × SectionHeader)
first_zdebug name file = option_and_then
    (λ n. option_map (λ (s : SectionHeader). (n, s)) (slice_get file.sections n))
    (position (is_zdebug (section_names_of file) name) file.sections)

-- the bytes of a section of such a name
unfoldable pub zdebug_of : ObjectFile → ℕ → SectionHeader → CostedLoading Section
zdebug_of file n s = option_map_or
    (λ bytes. inflated_contents file n (zdebug_packed_in bytes))
    (section_bytes_in file.bytes s) (free (Err BadElf))

-- the answer for a name that no section has: no bytes, or those of a section with .zdebug_ for it
unfoldable pub missing_decompressed : List ℕ → ObjectFile → CostedLoading Section
missing_decompressed name file = option_map_or (λ found. zdebug_of file found.0 found.1)
    (first_zdebug name file) (free (Ok (empty_contents file)))

-- the same, where memory may be taken too for a copy of the bytes that are read
abbrev pub copied_if : {A : Type 0} → Bool → CostedLoading A → CostedLoading A
copied_if may c = record { given = c.given; takes_memory = λ shares. may || c.takes_memory shares }

-- the bytes of the first section of a name, decompressed where they are compressed
unfoldable pub decompression_of : List ℕ → ObjectFile → CostedLoading Section
decompression_of name file = copied_if (not (is_wanted_text name)) (option_map_or
    (λ found. decompressed_of file found.0 found.1)
    (first_named name file) (missing_decompressed name file))

-- the bytes, or the fault
abbrev pub decompressed_at : List ℕ → ObjectFile → Loading Section
decompressed_at name file = (decompression_of name file).given
