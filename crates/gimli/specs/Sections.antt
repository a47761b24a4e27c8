-- The sections that DWARF is read from (DWARF 5, section 7.5 and appendix B), each as bytes in an
-- order.
use Rattle.std.specs.Prelude.{Option, None}
use Rattle.gimli.specs.Common.{Section}
use Rattle.gimli.specs.declared.dwarf.DwarfFileType.{DwarfFileType}
use Rattle.gimli.specs.declared.dwarf.DwarfFileType.TheVariants.{Main}

-- ten sections of a supplementary file (DWARF 5, section 7.3.6)
pub record SupSections : Type 0 where
  pub debug_abbrev : Section
  pub debug_addr : Section
  pub debug_aranges : Section
  pub debug_info : Section
  pub debug_line : Section
  pub debug_line_str : Section
  pub debug_ranges : Section
  pub debug_rnglists : Section
  pub debug_str : Section
  pub debug_str_offsets : Section

-- ten sections of one file, what kind of file it is, and its supplementary file, if it has one
pub record Sections : Type 0 where
  pub debug_abbrev : Section
  pub debug_addr : Section
  pub debug_aranges : Section
  pub debug_info : Section
  pub debug_line : Section
  pub debug_line_str : Section
  pub debug_ranges : Section
  pub debug_rnglists : Section
  pub debug_str : Section
  pub debug_str_offsets : Section
  pub file_type : DwarfFileType
  pub sup : Option SupSections

-- the sections of a supplementary file as those of a file of its own
abbrev pub sup_sections : SupSections → Sections
sup_sections s = record {
  debug_abbrev = s.debug_abbrev;
  debug_addr = s.debug_addr;
  debug_aranges = s.debug_aranges;
  debug_info = s.debug_info;
  debug_line = s.debug_line;
  debug_line_str = s.debug_line_str;
  debug_ranges = s.debug_ranges;
  debug_rnglists = s.debug_rnglists;
  debug_str = s.debug_str;
  debug_str_offsets = s.debug_str_offsets;
  file_type = Main;
  sup = None;
}
