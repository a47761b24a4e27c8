-- What stands at an address in one unit (DWARF 5, sections 3.1.2 and 3.3): the function in the view
-- of the unit, and the frames.
-- Own: the first fault counts of the view, its functions, the detail of the function, and the lines
-- of the main unit. A unit that waits for an answer has no frames yet.
use Rattle.std.specs.Prelude.{◌≡◌, ℕ, Bool, false, ◌&&◌, not, List, [], Option, Some, None, Result, Ok, Err, is_ok, if◌then◌else◌}
use Rattle.addr2line_lines.specs.Location.{LineTable as Lines}
use Rattle.addr2line_units.specs.Common.{DwLang, Error, ◌>>=◌, Sections, UnitRecord, FunctionRange, function_offset_at, functions_of, exceeds_inline_room, InlinedEntry, location_at, Scope, unit_lines}
use Rattle.addr2line_units.specs.Frames.{FoundFunction, FrameRecord, found_frames, function_at}
use Rattle.addr2line_units.specs.UnitsRanged.{IndexedUnit}
use Rattle.addr2line_units.specs.UnitView.{View, is_open, verdict, view_scope}

-- the frames at a probe, none where an answer to a load is waited for; or the first fault
abbrev pub FramesResult : Type 0
FramesResult = Result (Option (List FrameRecord)) Error

-- the function at the probe in a view, or the first fault of the view, its functions and the detail
abbrev pub function_by : Scope → ℕ → Option (Result View Error)
    → Result (Option FoundFunction) Error
function_by scope probe None = Ok None
function_by scope probe (Some view) =
    view >>= λ v. function_at (view_scope scope v) v.unit probe

-- the same in the view of a unit with this first answer, none while it is open
abbrev pub function_in : Scope → UnitRecord → Option (Option Sections) → ℕ
    → Result (Option FoundFunction) Error
function_in scope u answer probe =
    function_by scope probe (verdict scope.file.sections u answer)

-- where the entry of the function at the probe begins, by the functions, if they can be read
abbrev pub function_offset_among : ℕ → Result (List FunctionRange) Error → Option ℕ
function_offset_among probe (Ok functions) = function_offset_at probe functions
function_offset_among probe (Err e) = None

-- the same by the functions of a view, if it can be read
abbrev pub function_offset_by : Scope → ℕ → Option (Result View Error) → Option ℕ
function_offset_by scope probe (Some (Ok v)) =
    function_offset_among probe (functions_of (view_scope scope v).file.sections v.unit)
function_offset_by scope probe _ = None

-- the same in the view of a unit with this first answer, none while it is open
unfoldable pub function_offset_in : Scope → UnitRecord → Option (Option Sections) → ℕ → Option ℕ
function_offset_in scope u answer probe =
    function_offset_by scope probe (verdict scope.file.sections u answer)

-- the frames at the probe of a function that was found in the view of a unit, or none was, by the
-- unit's language and lines
abbrev pub frames_by : Option DwLang → Result Lines Error → ℕ → Result (Option FoundFunction) Error
    → Result (List FrameRecord) Error
frames_by language lines probe found = do
  function ← found
  table ← lines
  Ok (found_frames table.files language function (location_at probe table))

-- the frames at the probe in a unit with this first answer, by its language and lines
unfoldable pub frames_by_lines : Scope → UnitRecord → Option DwLang → Result Lines Error
    → Option (Option Sections) → ℕ → FramesResult
frames_by_lines scope u language lines answer probe =
    if is_open scope.file.sections u answer then Ok None
    else frames_by language lines probe (function_in scope u answer probe)
    >>= λ frames. Ok (Some frames)

-- the same by what the unit's bytes give of its lines
abbrev pub frames_in : Scope → IndexedUnit → Option (Option Sections) → ℕ → FramesResult
frames_in scope u answer probe =
    frames_by_lines scope u.unit u.language (unit_lines scope.file.sections u.unit) answer probe

-- whether the lines of a unit are asked for: it isn't open, and no fault comes before theirs
unfoldable pub asks_lines_in : Scope → UnitRecord → Option (Option Sections) → ℕ → Bool
asks_lines_in scope u answer probe =
    not (is_open scope.file.sections u answer) && is_ok (function_in scope u answer probe)

-- the inlined functions of what was found; none where it is no function, or a fault
abbrev pub inlined_of_found : Result (Option FoundFunction) Error → List InlinedEntry
inlined_of_found (Ok (Some f)) = f.inlined
inlined_of_found _ = []

-- the inlined functions at the probe in the view of a unit
unfoldable pub inlined_of_unit : Scope → UnitRecord → Option (Option Sections) → ℕ
    → List InlinedEntry
inlined_of_unit scope u answer probe = inlined_of_found (function_in scope u answer probe)

-- at most 16 inlined functions stand there
abbrev pub HasFewInlined : Scope → UnitRecord → Option (Option Sections) → ℕ → Type 0
HasFewInlined scope u answer probe =
    exceeds_inline_room (inlined_of_unit scope u answer probe) ≡ false
