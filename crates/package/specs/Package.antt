-- The sections of a split unit in a package (DWARF 5, sections 7.3.5.1 to 7.3.5.3): the parts that
-- the row of its identifier names, and all strings of the package.
-- Own: a part that isn't wholly in its section is OffsetOutOfBounds, for its unit alone.
-- Own: sections that packages haven't are empty.
use Rattle.std.specs.Prelude.{ℕ, ◌+◌, ◌&&◌, not, nat_le, Bool, length, Option, Some, None, Result, Ok}
use Rattle.package.specs.Common.{Error, OffsetOutOfBounds, Section, Sections, Dwo, after, first, ◌>>=◌, refused_if}
use Rattle.package.specs.declared.unit_index.SectionPart.{SectionPart}
use Rattle.package.specs.declared.unit_index.UnitSections.{UnitSections}
use Rattle.package.specs.Index.{Index}
use Rattle.package.specs.Parts.{sections_of}
use Rattle.package.specs.Search.{row_by_id}

-- an index, the sections that its parts belong to, and strings
pub record Package : Type 0 where
  pub cu_index : Index
  pub debug_abbrev : Section
  pub debug_info : Section
  pub debug_line : Section
  pub debug_rnglists : Section
  pub debug_str : Section
  pub debug_str_offsets : Section

-- whether a part is within a section
abbrev pub is_within : SectionPart → Section → Bool
is_within part s = nat_le (part.offset + part.size) (length s.bytes)

-- the bytes of a part
abbrev pub part_bytes : SectionPart → Section → Section
part_bytes part s = first part.size (after part.offset s)

-- no bytes, in the order of a section
abbrev pub nothing_of : Section → Section
nothing_of s = first 0 s

-- whether the parts of a unit are within the sections of a package
abbrev pub are_within : UnitSections → Package → Bool
are_within parts p =
    is_within parts.debug_abbrev p.debug_abbrev && is_within parts.debug_info p.debug_info
    && is_within parts.debug_line p.debug_line && is_within parts.debug_rnglists p.debug_rnglists
    && is_within parts.debug_str_offsets p.debug_str_offsets

-- the sections of a split file that has these parts
abbrev pub unit_sections : Package → UnitSections → Sections
unit_sections p parts = record {
  debug_abbrev = part_bytes parts.debug_abbrev p.debug_abbrev;
  debug_addr = nothing_of p.debug_str;
  debug_aranges = nothing_of p.debug_str;
  debug_info = part_bytes parts.debug_info p.debug_info;
  debug_line = part_bytes parts.debug_line p.debug_line;
  debug_line_str = nothing_of p.debug_str;
  debug_ranges = nothing_of p.debug_str;
  debug_rnglists = part_bytes parts.debug_rnglists p.debug_rnglists;
  debug_str = p.debug_str;
  debug_str_offsets = part_bytes parts.debug_str_offsets p.debug_str_offsets;
  file_type = Dwo;
  sup = None;
}

-- the sections of the unit of a row, counted from 1
unfoldable pub sections_in_row : Package → ℕ → Result Sections Error
sections_in_row p row = do
  parts ← sections_of p.cu_index row
  within ← refused_if (not (are_within parts p)) OffsetOutOfBounds
  Ok (unit_sections p parts)

-- those of the unit of a row, if there is one
abbrev pub sections_if : Package → Option ℕ → Result (Option Sections) Error
sections_if p None = Ok None
sections_if p (Some row) = sections_in_row p row >>= λ sections. Ok (Some sections)

-- those of the unit that has an identifier, if there is one
abbrev pub sections_by_id : Package → ℕ → Result (Option Sections) Error
sections_by_id p id = sections_if p (row_by_id p.cu_index id)
