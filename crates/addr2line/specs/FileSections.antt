-- The sections of an ELF file that DWARF is read from (DWARF 5, section 7.5 and appendix B; split
-- files: section 7.3.2.2).
-- Own: they are taken in the order of their names, and the first fault counts. A section that split
-- files don't have is empty. A section that is compressed is refused or decompressed, as it is
-- chosen for the file.
use Rattle.std.specs.Prelude.{List, ℕ, Option, Some, None, Ok}
use Rattle.addr2line.specs.Common.{◌>>=◌, Section, Sections, SupSections, Loading, ObjectFile, sup_sections}
use Rattle.gimli.specs.declared.dwarf.DwarfFileType.{DwarfFileType}
use Rattle.gimli.specs.declared.load.SectionId.{SectionId}
use Rattle.gimli.specs.declared.load.SectionId.TheVariants.{DebugAbbrev, DebugAddr, DebugAranges, DebugInfo, DebugLine, DebugLineStr, DebugRanges, DebugRngLists, DebugStr, DebugStrOffsets}
use Rattle.gimli.specs.Asked.{dwo_section_name, section_name}
use Rattle.elf.specs.Compressed.{decompressed_at}
use Rattle.elf.specs.Sections.{section_at}
use Rattle.gimli_read.specs.StringForm.{no_bytes}
use Rattle.addr2line.specs.declared.compressed.CompressedSections.{CompressedSections}
use Rattle.addr2line.specs.declared.compressed.CompressedSections.TheVariants.{Decompressed, Refused}

-- the ten sections, by what each is given as, or the first fault
unfoldable pub sections_by : (SectionId → Loading Section) → Loading SupSections
sections_by given = do
  abbrevs ← given DebugAbbrev
  addr ← given DebugAddr
  aranges ← given DebugAranges
  info ← given DebugInfo
  line ← given DebugLine
  line_str ← given DebugLineStr
  ranges ← given DebugRanges
  rnglists ← given DebugRngLists
  str ← given DebugStr
  str_offsets ← given DebugStrOffsets
  Ok (record {
    debug_abbrev = abbrevs;
    debug_addr = addr;
    debug_aranges = aranges;
    debug_info = info;
    debug_line = line;
    debug_line_str = line_str;
    debug_ranges = ranges;
    debug_rnglists = rnglists;
    debug_str = str;
    debug_str_offsets = str_offsets;
  })

-- the section of a name, by what becomes of one that is compressed
abbrev pub section_by : CompressedSections → List ℕ → ObjectFile → Loading Section
section_by Refused name file = section_at name file
section_by Decompressed name file = decompressed_at name file

-- a section of a file that isn't split
abbrev pub main_section : CompressedSections → ObjectFile → SectionId → Loading Section
main_section compressed file id = section_by compressed (section_name id) file

-- the section of a name in a split file, if split files have it
abbrev pub section_if : CompressedSections → ObjectFile → Option (List ℕ) → Loading Section
section_if choice file None = Ok no_bytes
section_if choice file (Some name) = section_by choice name file

-- a section of a split file
abbrev pub split_section : CompressedSections → ObjectFile → SectionId → Loading Section
split_section compressed file id = section_if compressed file (dwo_section_name id)

-- ten sections as those of a file of a kind with a supplementary file, or none
abbrev pub as_file : DwarfFileType → Option SupSections → SupSections → Sections
as_file kind sup ten = record (sup_sections ten) { file_type = kind; sup = sup }
