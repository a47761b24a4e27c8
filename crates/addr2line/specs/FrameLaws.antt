-- A law of the frames that a lookup finds (on Lookups; DWARF 5, section 3.3.8).
use Rattle.std.specs.Prelude.{◌≡◌, ℕ, suc, length, slice_get, List, Option, Some, None, Result, Ok}
use Rattle.addr2line.specs.Common.{Error, Sections, OnFault, FoundFunction, FrameRecord, Finds, answer_of, main_scope, function_in, UnitIndex, index_units, FirstAnswers}
use Rattle.addr2line.specs.Lookups.{lookup_stop}

-- the function at the probe in the view of the unit of a number, if one holds it, or the first
-- fault
abbrev pub function_of_number : Sections → UnitIndex → FirstAnswers → ℕ → ℕ
    → Result (Option FoundFunction) Error
function_of_number d m answers probe n = elim (slice_get m.units n) [
  | None ↦ Ok None
  | Some u ↦ function_in (main_scope d m) u.unit (answer_of answers n) probe
]

-- how many frames a function has: one, and one for each function that is inlined at the address; a
-- location without a function has one
abbrev pub frame_count : Option FoundFunction → ℕ
frame_count None = 1
frame_count (Some f) = suc (length f.inlined)

-- what a lookup has found in a unit has so many frames
abbrev pub HasFrameOfEach : Type 0
HasFrameOfEach = (faults : OnFault) (d : Sections) (m : UnitIndex) (answers : FirstAnswers)
    (probe n : ℕ) (frames : List FrameRecord)
    → index_units d ≡ Ok m → lookup_stop faults d answers probe ≡ Ok (Finds n frames)
    → (found : Option FoundFunction) × (function_of_number d m answers probe n ≡ Ok found)
    × (length frames ≡ frame_count found)
