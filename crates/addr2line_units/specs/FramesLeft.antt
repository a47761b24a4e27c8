-- The frames that an iterator has left, as the private functions see them.
use Rattle.std.specs.Borrow.{Bor}
use Rattle.std.specs.Prelude.{ℕ, List, [], ◌∷◌, reverse, slice_get, Option, Some, None, option_map}
use Rattle.addr2line_units.specs.Common.{DwLang, InlinedEntry, FunctionTable, cached_name, cached_offset_at, LineTable, Location, as_location}
use Rattle.addr2line_units.specs.declared.frames.FrameIter.{FrameIter}
use Rattle.addr2line_units.specs.declared.frames.FrameState.{FrameState}
use Rattle.addr2line_units.specs.declared.frames.FrameState.TheVariants.{Empty, Located, Function}
use Rattle.addr2line_units.specs.Frames.{FrameRecord, call_location, function_frame, location_frames}

-- the frame of an inlined entry; without an entry one with neither offset nor function
abbrev pub entry_frame : Option DwLang → Option InlinedEntry → Option Location → FrameRecord
entry_frame language None location =
    record { offset = None; function = None; location = location }
entry_frame language (Some e) location = function_frame language e.offset e.name location

-- the frame of the function of a place
abbrev pub place_frame : Option DwLang → FunctionTable → ℕ → Option Location → FrameRecord
place_frame language t place location = record {
  offset = cached_offset_at t place;
  function = option_map (λ n. record { name = n; language = language }) (cached_name t place);
  location = location;
}

-- the function of a place, and before it the inlined entries of places from the inside out
abbrev pub frames_inside : List (List ℕ) → Option DwLang → FunctionTable → ℕ → List ℕ
    → Option Location → List FrameRecord
frames_inside files language t place [] location = place_frame language t place location ∷ []
frames_inside files language t place (n ∷ inlined) location =
    entry_frame language (slice_get t.inlined n) location
    ∷ frames_inside files language t place inlined
    (option_map (λ (e : InlinedEntry). call_location files e.call) (slice_get t.inlined n))

-- the texts of the files of lines, none without lines
abbrev pub files_if : Option (Bor LineTable) → List (List ℕ)
files_if None = []
files_if (Some lines) = lines.now.files

-- the frames that a state has left
abbrev pub state_frames : {R : Type 0} → FrameState R → List FrameRecord
state_frames Empty = []
state_frames (Located l) = location_frames (option_map as_location l)
state_frames (Function f) =
    frames_inside (files_if f.lines) f.language f.functions.now f.place (reverse f.inlined.now)
    (option_map as_location f.location)

-- the frames that are left
abbrev pub frames_left : {R : Type 0} → FrameIter R → List FrameRecord
frames_left i = state_frames i.state
