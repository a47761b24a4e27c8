-- Lookups of frames and of units in a context, and the loads that they wait for (DWARF 5, sections
-- 2.17, 3.1.2, 3.3 and 7.3.2).
-- Own: a lookup asks the units that cover an address one after another; a unit that is open ends it
-- until its load is answered.
use Rattle.std.specs.Prelude.{◌≡◌, ℕ, ◌==◌, Bool, false, List, [], map, slice_get, Option, Some, None, option_map, unwrap_or, Result, Ok, Err}
use Rattle.addr2line.specs.Common.{Error, ◌>>=◌, Sections, UnitRecord, OnFault, Stop, Skip, cover, FrameRecord, LookupAsks, LookupStop, Waits, Finds, asked_frames, frames_found, frames_of_number, main_scope, readable_view, stop_along, view_of_number, UnitIndex, index_units, unit_records, FirstAnswers, SplitLoad, View, load_of_unit, parts_of, FramesResult}
use Rattle.addr2line_units.specs.LoadsLaws.{loads_of}

-- what a lookup asks the unit of a number for
abbrev pub asked_of : OnFault → Sections → FirstAnswers → ℕ → UnitIndex → ℕ → FramesResult
asked_of faults d answers probe m = asked_frames faults (main_scope d m) m.units answers probe

-- what a lookup comes to among units
abbrev pub stop_in : OnFault → Sections → FirstAnswers → ℕ → UnitIndex → Result LookupStop Error
stop_in faults d answers probe m =
    stop_along (asked_of faults d answers probe m) (cover probe m.ranges)

-- what a lookup comes to
abbrev pub lookup_stop : OnFault → Sections → FirstAnswers → ℕ → Result LookupStop Error
lookup_stop faults d answers probe = index_units d >>= stop_in faults d answers probe

-- a unit that a lookup asks has this fault
abbrev pub IsFaultOfAsked : OnFault → Sections → FirstAnswers → ℕ → Error → Type 0
IsFaultOfAsked faults d answers probe e = (m : UnitIndex) × (index_units d ≡ Ok m)
    × ((n : ℕ) × LookupAsks (asked_of faults d answers probe m) (cover probe m.ranges) n
    × (frames_of_number (main_scope d m) m.units answers probe n ≡ Err e))

-- what a lookup has found, none of it where it waits
abbrev pub ended_with : {V : Type 0} → V → LookupStop → Option V
ended_with found (Waits n) = None
ended_with found stop = Some found

-- the view of the unit in which a lookup has found something, if it has found something
abbrev pub view_found : Sections → FirstAnswers → LookupStop → Option View
view_found d answers (Finds n frames) = elim (index_units d) [
  | Err e ↦ None
  | Ok m ↦ readable_view (view_of_number d (unit_records m.units) answers n)
]
view_found d answers stop = None

-- what a lookup of a kind gives at the probe: a value of what it comes to and of the view in which
-- it finds something; none where it waits for an answer; or its fault
abbrev pub found_at : {V : Type 0} → OnFault → (LookupStop → Option View → V) → Sections
    → FirstAnswers → ℕ → Result (Option V) Error
found_at faults value_of d answers probe = lookup_stop faults d answers probe >>= λ s.
    Ok (ended_with (value_of s (view_found d answers s)) s)

-- the frames of a lookup that has come to this, none where it waits, or its fault
abbrev pub frames_of_stop : Result LookupStop Error → FramesResult
frames_of_stop stop = stop >>= λ s. Ok (ended_with (frames_found s) s)

-- what a lookup of frames gives: those that it found
abbrev pub frames_value : LookupStop → Option View → List FrameRecord
frames_value stop view = frames_found stop

-- the frames at the probe, none where the lookup waits for an answer, or its first fault
abbrev pub frames_of : Sections → FirstAnswers → ℕ → FramesResult
frames_of d answers probe = found_at Stop frames_value d answers probe

-- what a lookup of a unit gives: the sections and the unit of the view that it found, if it found
-- one
abbrev pub unit_value : LookupStop → Option View → Option (Sections × UnitRecord)
unit_value stop view = option_map parts_of view

-- the same, none of it where the lookup waits, or its fault
abbrev pub UnitResult : Type 0
UnitResult = Result (Option (Option (Sections × UnitRecord))) Error

-- the sections and the unit of the view at the probe, none where the lookup waits for an answer;
-- faults of units are passed over
abbrev pub unit_of : Sections → FirstAnswers → ℕ → UnitResult
unit_of d answers probe = found_at Skip unit_value d answers probe

-- whether a lookup waits for the unit of this number
abbrev pub waits_for : ℕ → Result LookupStop Error → Bool
waits_for k (Ok (Waits n)) = n == k
waits_for k stop = false

-- the loads of the units that a lookup may ask, of each unit that waits for one once, in order
abbrev pub loads_at : Sections → FirstAnswers → ℕ → List SplitLoad
loads_at d answers probe = elim (index_units d) [
  | Err e ↦ []
  | Ok m ↦ loads_of d (unit_records m.units) answers (cover probe m.ranges)
]

-- the first answers where each unit that has none is answered none
abbrev pub with_none : FirstAnswers → FirstAnswers
with_none answers = map (λ a. Some (unwrap_or a None)) answers

-- this is the load of the unit of a number
abbrev pub IsLoadOf : Sections → ℕ → SplitLoad → Type 0
IsLoadOf d n load = (m : UnitIndex) → index_units d ≡ Ok m
    → option_map (load_of_unit d n) (slice_get (unit_records m.units) n) ≡ Some (Ok (Some load))
