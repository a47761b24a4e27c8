-- Laws of parses of the functions of all units (on Parses and FramesLookup).
use Rattle.std.specs.Prelude.{◌≡◌, ℕ, length, List, Result, Ok, Err}
use Rattle.addr2line_units.specs.Common.{Error, UnitRecord, Scope, fault_of}
use Rattle.addr2line_units.specs.declared.frames.OnFault.{OnFault}
use Rattle.addr2line_units.specs.declared.index.UnitRange.{UnitRange}
use Rattle.addr2line_units.specs.declared.parses.ReadingDepth.{ReadingDepth}
use Rattle.addr2line_units.specs.declared.parses.ReadingDepth.TheVariants.{Details}
use Rattle.addr2line_units.specs.FramesLookup.{LookupStop, Waits, asked_frames, stop_along}
use Rattle.addr2line_units.specs.Parses.{answers_after_parse, read_of_units}
use Rattle.addr2line_units.specs.Locations.{all_lines}
use Rattle.addr2line_units.specs.UnitsRanged.{IndexedUnit, unit_records}
use Rattle.addr2line_units.specs.UnitView.{FirstAnswers}

-- what a lookup comes to is no fault, and it waits for no unit
abbrev pub IsReached : Result LookupStop Error → Type 0
IsReached (Err e) = ⊥
IsReached (Ok (Waits n)) = ⊥
IsReached (Ok _) = Unit {0}

-- after a parse of all functions and details without a fault, where all lines can be read too, no
-- lookup waits or has a fault
abbrev pub ReachesAll : Type 0
ReachesAll = (faults : OnFault) (scope : Scope) (units : List IndexedUnit)
    (answers : FirstAnswers) (probe : ℕ) (ranges : List UnitRange)
    → length units ≡ length answers
    → read_of_units Details scope (unit_records units) answers ≡ Ok tt
    → fault_of (all_lines scope.file.sections units) ≡ Ok tt
    → IsReached (stop_along (asked_frames faults scope units
    (answers_after_parse Details scope (unit_records units) answers) probe) ranges)

-- a parse after a parse has the same first fault, and decides no more units
abbrev pub ReadsAgain : Type 0
ReadsAgain = (depth : ReadingDepth) (scope : Scope) (us : List UnitRecord)
    (answers : FirstAnswers)
    → (read_of_units depth scope us (answers_after_parse depth scope us answers)
    ≡ read_of_units depth scope us answers)
    × (answers_after_parse depth scope us (answers_after_parse depth scope us answers)
    ≡ answers_after_parse depth scope us answers)

-- what one parse reaches, and what a second one does
pub record FunctionParseLaws : Type 0 where
  pub reached : ReachesAll
  pub again : ReadsAgain
