-- Laws of the loads that an address waits for, and of lookups that wait (on Loads and
-- FramesLookup).
use Rattle.std.specs.Prelude.{◌≡◌, ◌≢◌, ◌⊎◌, ◌<◌, ℕ, true, filter, length, List, [], ◌∷◌, Option, Ok}
use Rattle.addr2line_units.specs.Common.{Sections, UnitRecord, Scope}
use Rattle.addr2line_units.specs.declared.frames.OnFault.{OnFault}
use Rattle.addr2line_units.specs.declared.index.UnitRange.{UnitRange}
use Rattle.addr2line_units.specs.FramesLookup.{Waits, asked_frames, stop_along, with_answer}
use Rattle.addr2line_units.specs.Loads.{is_of_other, is_open_at, load_of_number, loads_along}
use Rattle.addr2line_units.specs.UnitsRanged.{IndexedUnit, unit_records}
use Rattle.addr2line_units.specs.UnitView.{FirstAnswers, SplitLoad}

-- the load of the unit of a number is listed
abbrev pub IsListed : ℕ → List SplitLoad → Type 0
IsListed n [] = ⊥
IsListed n (load ∷ loads) = (load.unit ≡ n) ⊎ IsListed n loads

-- the loads of the units along ranges that are open with these first answers
abbrev pub loads_of : Sections → List UnitRecord → FirstAnswers → List UnitRange → List SplitLoad
loads_of d us answers ranges = loads_along (load_of_number d us answers) ranges

-- a lookup that waits for a unit waits for one that is open, and whose load is listed
abbrev pub WaitForListed : Type 0
WaitForListed = (faults : OnFault) (scope : Scope) (units : List IndexedUnit)
    (answers : FirstAnswers) (probe n : ℕ) (ranges : List UnitRange)
    → stop_along (asked_frames faults scope units answers probe) ranges ≡ Ok (Waits n)
    → (is_open_at scope.file.sections (unit_records units) answers n ≡ true)
    × IsListed n (loads_of scope.file.sections (unit_records units) answers ranges)

-- a lookup waits for no unit where no load is listed
abbrev pub NeedLoadsToWait : Type 0
NeedLoadsToWait = (faults : OnFault) (scope : Scope) (units : List IndexedUnit)
    (answers : FirstAnswers) (probe n : ℕ) (ranges : List UnitRange)
    → loads_of scope.file.sections (unit_records units) answers ranges ≡ []
    → stop_along (asked_frames faults scope units answers probe) ranges ≢ Ok (Waits n)

-- after an answer to a load the others are listed as before
abbrev pub LeaveOthers : Type 0
LeaveOthers = (d : Sections) (us : List UnitRecord) (answers : FirstAnswers)
    (n : ℕ) (given : Option Sections) (ranges : List UnitRange) → length us ≡ length answers
    → loads_of d us (with_answer d us answers n given) ranges
    ≡ filter (is_of_other n) (loads_of d us answers ranges)

-- fewer loads are listed after an answer to one of them
abbrev pub LeaveFewer : Type 0
LeaveFewer = (d : Sections) (us : List UnitRecord) (answers : FirstAnswers)
    (n : ℕ) (given : Option Sections) (ranges : List UnitRange) → length us ≡ length answers
    → IsListed n (loads_of d us answers ranges)
    → length (loads_of d us (with_answer d us answers n given) ranges)
    < length (loads_of d us answers ranges)

-- for which loads a lookup waits, and what an answer to one leaves
pub record LoadLaws : Type 0 where
  pub listed : WaitForListed
  pub none : NeedLoadsToWait
  pub others : LeaveOthers
  pub fewer : LeaveFewer
