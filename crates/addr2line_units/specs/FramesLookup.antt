-- Lookups along the ranges that hold an address (DWARF 5, sections 2.17, 3.3 and 6.2).
-- Own: the units are asked one after another, for their frames or for the location in their lines
-- alone: the first that waits for an answer, that has a fault, or that has frames ends the lookup.
-- A lookup of a unit passes over each unit with a fault.
use Rattle.std.specs.Prelude.{ℕ, Bool, true, false, List, [], ◌∷◌, set, slice_get, Option, Some, None, option_and_then, option_map, unwrap_or, Result, Ok, Err}
use Rattle.addr2line_units.specs.Common.{Error, ◌>>=◌, Sections, UnitRecord, InlinedEntry, Location, Scope, sup_sections}
use Rattle.addr2line_units.specs.declared.frames.Asks.{Asks}
use Rattle.addr2line_units.specs.declared.frames.Asks.TheVariants as lookups
use Rattle.addr2line_units.specs.declared.index.UnitRange.{UnitRange}
use Rattle.addr2line_units.specs.declared.frames.OnFault.{OnFault}
use Rattle.addr2line_units.specs.declared.frames.OnFault.TheVariants.{Stop, Skip}
use Rattle.addr2line_units.specs.EntriesMemory.{functions_in_take_memory}
use Rattle.addr2line_units.specs.IndexCover.{ComesTo, holds_until}
use Rattle.addr2line_units.specs.Frames.{FrameRecord, location_frames}
use Rattle.addr2line_units.specs.Locations.{location_in}
use Rattle.addr2line_units.specs.EntriesFrames.{FramesResult, asks_lines_in, frames_in, inlined_of_unit, function_offset_in}
use Rattle.addr2line_units.specs.UnitsIndex.{UnitIndex}
use Rattle.addr2line_units.specs.UnitsRanged.{IndexedUnit, unit_records}
use Rattle.addr2line_units.specs.UnitView.{FirstAnswers, View, decided_answer, parts_of, verdict}

-- where references lead from a unit of a context
abbrev pub main_scope : Sections → UnitIndex → Scope
main_scope d m = record {
  file = record { sections = d; units = unit_records m.units };
  sup = option_map (λ s. record { sections = sup_sections s; units = m.sup_units }) d.sup;
}

-- what a lookup comes to: the unit of this number waits for an answer; that of this number has
-- these frames; or no unit has any
pub data LookupStop : Type 0 where
  Waits : ℕ → LookupStop
  Finds : ℕ → List FrameRecord → LookupStop
  FindsNothing : LookupStop

-- the first answer of the unit of a number, none while it has none
abbrev pub answer_of : FirstAnswers → ℕ → Option (Option Sections)
answer_of answers n = unwrap_or (slice_get answers n) None

-- the frames at the probe in the unit of a number, none while it is open, or the first fault; where
-- there is no such unit there are no frames
abbrev pub frames_of_number : Scope → List IndexedUnit → FirstAnswers → ℕ → ℕ → FramesResult
frames_of_number scope units answers probe n = elim (slice_get units n)
    [ None ↦ Ok (Some []) | Some u ↦ frames_in scope u (answer_of answers n) probe ]

-- a fault as it is, or no frames in its place where a lookup passes over it
abbrev pub after_fault : OnFault → FramesResult → FramesResult
after_fault faults (Ok frames) = Ok frames
after_fault Stop (Err e) = Err e
after_fault Skip (Err e) = Ok (Some [])

-- the frames that a lookup asks the unit of a number for
abbrev pub asked_frames : OnFault → Scope → List IndexedUnit → FirstAnswers → ℕ → ℕ → FramesResult
asked_frames faults scope units answers probe n =
    after_fault faults (frames_of_number scope units answers probe n)

-- the location of the probe in the lines of the unit of a number, as frames of that location alone,
-- or the fault of the lines
abbrev pub located_frames : Sections → List IndexedUnit → ℕ → ℕ → FramesResult
located_frames d units probe n = location_in d probe (slice_get units n)
    >>= λ location. Ok (Some (location_frames location))

-- what a lookup asks the unit of a number for
abbrev pub asked_of_unit : Asks → Scope → List IndexedUnit → FirstAnswers → ℕ → ℕ → FramesResult
asked_of_unit lookups.Location scope units answers probe =
    located_frames scope.file.sections units probe
asked_of_unit (lookups.Frames faults) scope units answers probe =
    asked_frames faults scope units answers probe

-- the same, with a fault also where a lookup passes over it
abbrev pub found_in_unit : Asks → Scope → List IndexedUnit → FirstAnswers → ℕ → ℕ → FramesResult
found_in_unit lookups.Location scope units answers probe =
    located_frames scope.file.sections units probe
found_in_unit (lookups.Frames faults) scope units answers probe =
    frames_of_number scope units answers probe

-- the unit of a number waits, or has frames, else the lookup goes on
abbrev pub or_stop : ℕ → Result LookupStop Error → Option (List FrameRecord)
    → Result LookupStop Error
or_stop n rest None = Ok (Waits n)
or_stop n rest (Some []) = rest
or_stop n rest (Some (f ∷ frames)) = Ok (Finds n (f ∷ frames))

-- what a lookup comes to along ranges, by what the unit of each number has
abbrev pub stop_along : (ℕ → FramesResult) → List UnitRange
    → Result LookupStop Error
stop_along frames [] = Ok FindsNothing
stop_along frames (r ∷ ranges) = frames r.unit >>= or_stop r.unit (stop_along frames ranges)

-- the frames that a lookup has found
abbrev pub frames_found : LookupStop → List FrameRecord
frames_found (Finds n frames) = frames
frames_found stop = []

-- the location of the first of frames, if it has one
abbrev pub first_frame_location : List FrameRecord → Option Location
first_frame_location [] = None
first_frame_location (f ∷ frames) = f.location

-- the location of the address that a lookup has found
abbrev pub location_found : LookupStop → Option Location
location_found stop = first_frame_location (frames_found stop)

-- whether a lookup has ended: a unit waits, or has something
abbrev pub has_stopped : LookupStop → Bool
has_stopped (Waits n) = true
has_stopped (Finds n frames) = true
has_stopped FindsNothing = false

-- whether a lookup waits for an answer
abbrev pub is_waiting : Result LookupStop Error → Bool
is_waiting (Ok (Waits n)) = true
is_waiting stop = false

-- the view of the unit of a number, or its fault; none where it is open or there is no such unit
abbrev pub view_of_number : Sections → List UnitRecord → FirstAnswers → ℕ
    → Option (Result View Error)
view_of_number d us answers n =
    option_and_then (λ u. verdict d u (answer_of answers n)) (slice_get us n)

-- a view that has no fault
abbrev pub readable_view : Option (Result View Error) → Option View
readable_view (Some (Ok v)) = Some v
readable_view view = None

-- the sections and the unit of the view that a lookup has found
abbrev pub unit_found : Sections → List UnitRecord → FirstAnswers → LookupStop
    → Option (Sections × UnitRecord)
unit_found d us answers (Finds n frames) =
    option_map parts_of (readable_view (view_of_number d us answers n))
unit_found d us answers stop = None

-- whether what a unit has ends a lookup
abbrev pub ends_lookup : FramesResult → Bool
ends_lookup (Ok (Some [])) = false
ends_lookup (Ok (Some (f ∷ frames))) = true
ends_lookup (Ok None) = true
ends_lookup (Err e) = true

-- whether this is so of each unit along ranges, up to the one that ends the lookup
abbrev pub holds_along : (ℕ → Bool) → (ℕ → FramesResult) → List UnitRange → Bool
holds_along holds frames ranges = holds_until (λ n. ends_lookup (frames n)) holds ranges

-- a lookup asks a unit: a range leads to it, and no unit before it ends the lookup
abbrev pub LookupAsks : (ℕ → FramesResult) → List UnitRange → ℕ → Type 0
LookupAsks frames ranges n = ComesTo (λ m. ends_lookup (frames m)) ranges n

-- whether the lines of the unit of a number are asked for, if the unit is asked
abbrev pub asks_lines_of : Scope → List IndexedUnit → FirstAnswers → ℕ → ℕ → Bool
asks_lines_of scope units answers probe n = elim (slice_get units n)
    [ None ↦ false | Some u ↦ asks_lines_in scope u.unit (answer_of answers n) probe ]

-- where the entry of the function at the probe begins in the unit of a number, in bytes from the
-- start of the length of the unit of its view; none where there is none that can be read
abbrev pub function_offset_of : Scope → List IndexedUnit → FirstAnswers → ℕ → ℕ → Option ℕ
function_offset_of scope units answers probe n = elim (slice_get units n)
    [ None ↦ None | Some u ↦ function_offset_in scope u.unit (answer_of answers n) probe ]

-- the inlined functions at the probe in the unit of a number
abbrev pub inlined_at_number : Scope → List IndexedUnit → FirstAnswers → ℕ → ℕ → List InlinedEntry
inlined_at_number scope units answers probe n = elim (slice_get units n)
    [ None ↦ [] | Some u ↦ inlined_of_unit scope u.unit (answer_of answers n) probe ]

-- whether memory may be taken to read the functions in the view of the unit of a number
abbrev pub functions_of_take_memory : Bool → Scope → List IndexedUnit → FirstAnswers → ℕ → Bool
functions_of_take_memory shares scope units answers n = elim (slice_get units n) [
  | None ↦ false
  | Some u ↦ functions_in_take_memory shares scope u.unit (answer_of answers n)
]

-- the first answers with one to the load of the unit of a number, which counts where it is open
abbrev pub with_answer : Sections → List UnitRecord → FirstAnswers → ℕ
    → Option Sections → FirstAnswers
with_answer d us answers n given = elim (slice_get us n) [
  | None ↦ answers
  | Some u ↦ set answers n (decided_answer d u (answer_of answers n) given)
]
