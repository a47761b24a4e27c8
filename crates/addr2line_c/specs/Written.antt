-- What C gets for locations, frames and spans: their parts, and their texts in a buffer.
-- Own: the texts of an item stand in the order function, file, after those of the items before it.
use Rattle.std.specs.Prelude.{◌≡◌, ◌++◌, ◌≤◌, ◌&&◌, ℕ, Bool, List, [], length, nat_le, option_and_then, option_map, Option, Some, None}
use Rattle.addr2line_lines.specs.Location.{Location}
use Rattle.addr2line_units.specs.Frames.{FrameRecord, NameRecord}
use Rattle.addr2line_units.specs.FramesLent.{raw_text}
use Rattle.addr2line.specs.Names.{shown_name}
use Rattle.addr2line.specs.declared.names.Style.{Style}
use Rattle.addr2line_units.specs.EntriesFrames.{FramesResult}
use Rattle.addr2line_c.specs.Common.{of_file}
use Rattle.addr2line_c.specs.declared.location.WrittenLocation.{WrittenLocation}
use Rattle.addr2line_c.specs.declared.frames.WrittenFrame.{WrittenFrame}
use Rattle.addr2line_c.specs.declared.status.Status.{Status}
use Rattle.addr2line_c.specs.Answered.{SaysOrWaits}
use Rattle.addr2line_c.specs.Parts.{number_part, offset_part}
use Rattle.addr2line_c.specs.Filled.{IsFilled}
use Rattle.addr2line_c.specs.Sequence.{EachNames, texts_of_items, written_items}
use Rattle.addr2line_c.specs.Texts.{NamesText, optional_text, zero_ended, text_after}

-- the text of the file of a location
abbrev pub location_file : Option Location → Option (List ℕ)
location_file location = option_and_then (λ (l : Location). l.file) location

-- the line of a location
abbrev pub location_line : Option Location → Option ℕ
location_line location = option_and_then (λ (l : Location). l.line) location

-- the column of a location
abbrev pub location_column : Option Location → Option ℕ
location_column location = option_and_then (λ (l : Location). l.column) location

-- the location that follows these texts
abbrev pub written_location : List (List ℕ) → Option Location → WrittenLocation
written_location before location = record {
  file = text_after before (location_file location);
  line = number_part (location_line location);
  column = number_part (location_column location);
}

-- the text of a name: that in its language and a style, or the bytes that the file has
abbrev pub chosen_name : Option Style → NameRecord → List ℕ
chosen_name None n = n.name.bytes
chosen_name (Some s) n = shown_name (Some s) (option_map (λ l. l.0) n.language) (raw_text n)

-- the text of the name of a frame
abbrev pub frame_name : Option Style → FrameRecord → Option (List ℕ)
frame_name names f = option_map (chosen_name names) f.function

-- the texts of a frame
abbrev pub frame_texts : Option Style → FrameRecord → List (List ℕ)
frame_texts names f =
    optional_text (frame_name names f) ++ optional_text (location_file f.location)

-- the frame that follows these texts
abbrev pub written_frame : Option Style → List (List ℕ) → FrameRecord → WrittenFrame
written_frame names before f = record {
  entry = offset_part f.offset;
  function = text_after before (frame_name names f);
  location = written_location (before ++ optional_text (frame_name names f)) f.location;
}

-- the texts of frames
abbrev pub frames_texts : Option Style → List FrameRecord → List (List ℕ)
frames_texts names frames = texts_of_items (frame_texts names) frames

-- frames, the first of which follows no text
abbrev pub written_frames : Option Style → List FrameRecord → List WrittenFrame
written_frames names frames =
    written_items (frame_texts names) (written_frame names) [] frames

-- this location is written, with its text
pub record IsWrittenLocation (out : WrittenLocation) (buffer : List ℕ) (needed : ℕ) (l : Location)
    : Type 0 where
  pub parts : out ≡ written_location [] (Some l)
  pub texts : IsFilled needed buffer (zero_ended (optional_text (location_file (Some l))))
  pub named : length (zero_ended (optional_text (location_file (Some l)))) ≤ length buffer
      → NamesText buffer out.file (location_file (Some l))

-- the parts of a frame name its texts in a buffer
abbrev pub NamesFrame : Option Style → List ℕ → WrittenFrame → FrameRecord → Type 0
NamesFrame names buffer w f = NamesText buffer w.function (frame_name names f)
    × NamesText buffer w.location.file (location_file f.location)

-- these frames are written, with their texts
pub record IsWrittenFrames (names : Option Style) (out : List WrittenFrame) (count : ℕ)
    (buffer : List ℕ) (needed : ℕ) (frames : List FrameRecord) : Type 0 where
  pub parts : IsFilled count out (written_frames names frames)
  pub texts : IsFilled needed buffer (zero_ended (frames_texts names frames))
  pub named : length frames ≤ length out
      → length (zero_ended (frames_texts names frames)) ≤ length buffer
      → EachNames (NamesFrame names buffer) out frames

-- whether so many frames have room, and the bytes that their texts need
abbrev pub frames_fit : List WrittenFrame → ℕ → List ℕ → ℕ → Bool
frames_fit out count buffer needed = nat_le count (length out) && nat_le needed (length buffer)

-- the status says what a lookup of frames gives, and the frames are written
abbrev pub SaysFrames : Option Style → FramesResult → List WrittenFrame → ℕ → List ℕ → ℕ → Status
    → Type 0
SaysFrames names given out count buffer needed s = SaysOrWaits (of_file given)
    (IsWrittenFrames names out count buffer needed) (frames_fit out count buffer needed) s
