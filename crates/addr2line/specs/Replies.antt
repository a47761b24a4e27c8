-- What calls of a context give, as owned copies: texts and names by their bytes.
-- Own: a lookup that is left at a load replies with the unit that it waits for.
use Rattle.std.specs.Prelude.{ℕ, List, [], map, Option, Some, None, option_map, Result, Ok, Err}
use Rattle.gimli_read.specs.declared.constants.DwLang.{DwLang}
use Rattle.addr2line.specs.Common.{Error, Section, Sections, UnitRecord, FrameRecord, NameRecord, LookupStop, Waits, Finds, FindsNothing, LocationResult, SplitLoad}
use Rattle.gimli.specs.declared.dwarf.DwarfFileType.{DwarfFileType}
use Rattle.gimli.specs.declared.unit.DwoId.{DwoId}
use Rattle.addr2line_lines.specs.Location.{Location}
use Rattle.addr2line_lines.specs.RangeLocations.{LocatedSpan}
use Rattle.addr2line.specs.Lookups.{UnitResult}

-- the bytes of a name, and the language of its unit
pub record CopiedName : Type 0 where
  pub name : List ℕ
  pub language : Option DwLang

-- a frame: where its entry begins, its name and its location
pub record CopiedFrame : Type 0 where
  pub offset : Option ℕ
  pub function : Option CopiedName
  pub location : Option Location

-- what kind of file a unit is in, and where the unit begins, in bytes from the start of the section
pub record CopiedUnit : Type 0 where
  pub file_type : DwarfFileType
  pub offset : ℕ

-- a load: its unit, the identifier of the split unit, and the bytes of its directory and its path
pub record CopiedLoad : Type 0 where
  pub unit : ℕ
  pub dwo_id : DwoId
  pub comp_dir : Option (List ℕ)
  pub path : Option (List ℕ)

-- what one call gives
pub data CopiedReply : Type 0 where
  Located : LocationResult → CopiedReply
  Ranged : List (Result LocatedSpan Error) → CopiedReply
  Framed : Result (List CopiedFrame) Error → CopiedReply
  Viewed : Option CopiedUnit → CopiedReply
  Listed : List CopiedLoad → CopiedReply
  Ended : Result (Unit {0}) Error → CopiedReply
  SuspendedAt : ℕ → CopiedReply

-- the bytes of a section
abbrev pub section_bytes : Section → List ℕ
section_bytes s = s.bytes

-- a name
abbrev pub copied_name : NameRecord → CopiedName
copied_name n = record { name = section_bytes n.name; language = n.language }

-- a frame
abbrev pub copied_frame : FrameRecord → CopiedFrame
copied_frame f = record {
  offset = f.offset;
  function = option_map copied_name f.function;
  location = f.location;
}

-- a unit
abbrev pub copied_unit : Sections × UnitRecord → CopiedUnit
copied_unit v = record { file_type = v.0.file_type; offset = v.1.header.offset.0 }

-- a load
abbrev pub copied_load : SplitLoad → CopiedLoad
copied_load l = record {
  unit = l.unit;
  dwo_id = l.dwo_id;
  comp_dir = option_map section_bytes l.comp_dir;
  path = option_map section_bytes l.path;
}

-- the reply of a lookup of frames that has come to this
abbrev pub reply_of_frames : Result LookupStop Error → CopiedReply
reply_of_frames (Ok (Waits n)) = SuspendedAt n
reply_of_frames (Ok (Finds n frames)) = Framed (Ok (map copied_frame frames))
reply_of_frames (Ok FindsNothing) = Framed (Ok [])
reply_of_frames (Err e) = Framed (Err e)

-- the unit that was found, if one was
abbrev pub unit_found_in : UnitResult → Option CopiedUnit
unit_found_in (Ok (Some found)) = option_map copied_unit found
unit_found_in found = None

-- the reply of a lookup of a unit that has come to this, with what it has found
abbrev pub reply_of_unit : Result LookupStop Error → UnitResult → CopiedReply
reply_of_unit (Ok (Waits n)) found = SuspendedAt n
reply_of_unit stop found = Viewed (unit_found_in found)

-- the rows of a range, with the faults of units in their places
abbrev pub reply_of_range : Result (List (Result LocatedSpan Error)) Error → CopiedReply
reply_of_range (Ok rows) = Ranged rows
reply_of_range (Err e) = Ranged []
