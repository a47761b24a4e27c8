-- The functions that stand at an address, each with its location (DWARF 5, section 3.3.8).
-- Own: the innermost inlined function comes first, the function itself last. The first has the
-- location of the address, each next one the call of the one before; of a call line 0 is no line
-- and column 0 no column. Where no function holds the address, its location alone is a frame. The
-- first fault counts of the functions, the detail of the function, and the lines of the main unit.
use Rattle.std.specs.Prelude.{ℕ, ◌==◌, List, [], ◌∷◌, reverse, slice_get, Option, Some, None, option_and_then, option_map, Result, Ok, if◌then◌else◌}
use Rattle.addr2line_units.specs.Common.{DwLang, Error, ◌>>=◌, Section, UnitRecord, InlinedEntry, function_offset_at, functions_of, Location, Scope}
use Rattle.addr2line_lines.specs.declared.inlined.CallSite.{CallSite}
use Rattle.addr2line_lines.specs.Details.{Detail, detail_at}
use Rattle.addr2line_lines.specs.InlinedChain.{inlined_chain}

-- the name of a function, and the language of the main unit
pub record NameRecord : Type 0 where
  pub name : Section
  pub language : Option DwLang

-- a function at an address: where its entry begins, in bytes from the start of the length of its
-- unit, its name and its location; or a location without a function
pub record FrameRecord : Type 0 where
  pub offset : Option ℕ
  pub function : Option NameRecord
  pub location : Option Location

-- a number that counts, none of 0
abbrev pub if_counted : ℕ → Option ℕ
if_counted n = if n == 0 then None else Some n

-- where a function was called that is inlined, by the files of the main unit
abbrev pub call_location : List (List ℕ) → CallSite → Location
call_location files c = record {
  file = option_and_then (slice_get files) c.file;
  line = if_counted c.line;
  column = if_counted c.column;
}

-- a function with its location
abbrev pub function_frame : Option DwLang → ℕ → Option Section → Option Location → FrameRecord
function_frame language offset name location = record {
  offset = Some offset;
  function = option_map (λ n. record { name = n; language = language }) name;
  location = location;
}

-- the function, and before it inlined entries from the inside out, the first at a location
abbrev pub frames_from : List (List ℕ) → Option DwLang → ℕ → Option Section → List InlinedEntry
    → Option Location → List FrameRecord
frames_from files language offset name [] location =
    function_frame language offset name location ∷ []
frames_from files language offset name (e ∷ entries) location =
    function_frame language e.offset e.name location
    ∷ frames_from files language offset name entries (Some (call_location files e.call))

-- a location alone
abbrev pub location_frames : Option Location → List FrameRecord
location_frames None = []
location_frames (Some l) = record { offset = None; function = None; location = Some l } ∷ []

-- a function at an address: where its entry begins, its name, and the inlined entries at the
-- address, from the outside in
pub record FoundFunction : Type 0 where
  pub offset : ℕ
  pub name : Option Section
  pub inlined : List InlinedEntry

-- a function by its detail, with the inlined entries at the probe
abbrev pub found_function : ℕ → ℕ → Detail → FoundFunction
found_function probe offset detail = record {
  offset = offset;
  name = detail.name;
  inlined = inlined_chain probe detail.inlined;
}

-- the function whose entry begins at an offset, if there is one, or the fault of its detail
abbrev pub function_from : Scope → UnitRecord → ℕ → Option ℕ
    → Result (Option FoundFunction) Error
function_from scope view probe None = Ok None
function_from scope view probe (Some offset) =
    detail_at scope view offset >>= λ detail. Ok (Some (found_function probe offset detail))

-- the function at the probe in a view whose references lead where the scope says, none where no
-- function holds it; or the first fault of the functions, and of the detail of the function
unfoldable pub function_at : Scope → UnitRecord → ℕ → Result (Option FoundFunction) Error
function_at scope view probe = do
  functions ← functions_of scope.file.sections view
  function_from scope view probe (function_offset_at probe functions)

-- the frames of a function at an address, or of its location alone
abbrev pub found_frames : List (List ℕ) → Option DwLang → Option FoundFunction → Option Location
    → List FrameRecord
found_frames files language None location = location_frames location
found_frames files language (Some f) location =
    frames_from files language f.offset f.name (reverse f.inlined) location
