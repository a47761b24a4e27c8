-- Nothing that the units of a context give is OutOfMemory: whatever the sections, the first answers
-- and the address are, it is a value or another fault.
-- Own: a refused growth alone answers OutOfMemory, so only where a contract allows it beside what
-- is given.
use Rattle.std.specs.Prelude.{ℕ, List, Option, IfOk, IfSome}
use Rattle.addr2line_units.specs.Common.{WasNotRefused, Section, UnitHeaderFields, Sections, SupSections, UnitRecord, Scope, arange_sets_of}
use Rattle.gimli_read.specs.FaultLaws.{NoneWasRefused}
use Rattle.addr2line_units.specs.declared.index.UnitArange.{UnitArange}
use Rattle.addr2line_units.specs.declared.frames.Asks.{Asks}
use Rattle.addr2line_units.specs.declared.index.UnitRange.{UnitRange}
use Rattle.addr2line_units.specs.declared.parses.ReadingDepth.{ReadingDepth}
use Rattle.addr2line_units.specs.UnitsAsked.{stop_at}
use Rattle.addr2line_units.specs.EntriesFunctions.{functions_fault}
use Rattle.addr2line_units.specs.Frames.{function_at}
use Rattle.addr2line_units.specs.FramesLookup.{asked_of_unit, frames_of_number}
use Rattle.addr2line_units.specs.Parses.{read_of_unit, read_of_units}
use Rattle.addr2line_units.specs.Loads.{forget_result, load_result, unit_of_token}
use Rattle.addr2line_units.specs.Locations.{all_lines, first_location, lines_of_unit, location_in, location_of, spans_along, spans_of}
use Rattle.addr2line_units.specs.UnitsRanged.{IndexedUnit, ranged_units, unit_of_header}
use Rattle.addr2line_units.specs.IndexAranges.{aranges_in}
use Rattle.addr2line_units.specs.Attributes.{unit_attributes}
use Rattle.addr2line_units.specs.EntriesFrames.{frames_in, function_in}
use Rattle.addr2line_units.specs.UnitsIndex.{index_units, sup_units}
use Rattle.addr2line_units.specs.UnitsState.{UnitsState, new_units, stop_of}
use Rattle.addr2line_units.specs.UnitView.{FirstAnswers, answered_view, first_unit, load_of_unit, split_name_of, verdict}

-- no unit of a file is, nor what its root entry says, nor all that a context is made of
pub record IndexIsNotRefused : Type 0 where
  pub aranges : (s : Section) → WasNotRefused (aranges_in (arange_sets_of s))
  pub attributes : (d : Sections) (u : UnitRecord) → WasNotRefused (unit_attributes d u)
  pub unit : (d : Sections) (aranges : List UnitArange) (header : UnitHeaderFields)
      → WasNotRefused (unit_of_header d aranges header)
  pub ranged : (d : Sections) → WasNotRefused (ranged_units d)
  pub sup : (sup : Option SupSections) → WasNotRefused (sup_units sup)
  pub index : (d : Sections) → WasNotRefused (index_units d)
  pub state : (d : Sections) → WasNotRefused (new_units d)

-- no lines are, nor a location, nor a row that a range of addresses meets
pub record CachedLinesAreNotRefused : Type 0 where
  pub unit : (d : Sections) (u : IndexedUnit) → WasNotRefused (lines_of_unit d u)
  pub all : (d : Sections) (units : List IndexedUnit) → WasNotRefused (all_lines d units)
  pub location : (d : Sections) (probe : ℕ) (u : Option IndexedUnit)
      → WasNotRefused (location_in d probe u)
  pub along_ranges : (d : Sections) (units : List IndexedUnit) (probe : ℕ)
      (ranges : List UnitRange) → WasNotRefused (first_location d units probe ranges)
  pub of_address : (d : Sections) (probe : ℕ) → WasNotRefused (location_of d probe)
  pub spans : (d : Sections) (units : List IndexedUnit) (low high : ℕ) (ranges : List UnitRange)
      → NoneWasRefused (spans_along d units low high ranges)
  pub of_range : (d : Sections) (low high : ℕ) → WasNotRefused (spans_of d low high)
  pub in_range : (d : Sections) (low high : ℕ)
      → IfOk (spans_of d low high) (λ spans. NoneWasRefused spans)

-- no view is, nor a load, the name of a split file or what an answer to a load gives
pub record ViewsAreNotRefused : Type 0 where
  pub split_name : (d : Sections) (u : UnitRecord) → WasNotRefused (split_name_of d u)
  pub first : (d : Sections) → WasNotRefused (first_unit d)
  pub answered : (d : Sections) (u : UnitRecord) (given : Option Sections)
      → WasNotRefused (answered_view d u given)
  pub load : (d : Sections) (n : ℕ) (u : UnitRecord) → WasNotRefused (load_of_unit d n u)
  pub view : (d : Sections) (u : UnitRecord) (answer : Option (Option Sections))
      → IfSome (verdict d u answer) (λ v. WasNotRefused v)
  pub token : (us : List UnitRecord) (n : ℕ) → WasNotRefused (unit_of_token us n)
  pub answer : (d : Sections) (us : List UnitRecord) (answers : FirstAnswers) (n : ℕ)
      (given : Option Sections) → WasNotRefused (load_result d us answers n given)
  pub forget : (us : List UnitRecord) (n : ℕ) → WasNotRefused (forget_result us n)

-- no function at an address is, nor frames, nor what a lookup comes to
pub record FramesAreNotRefused : Type 0 where
  pub function : (scope : Scope) (view : UnitRecord) (probe : ℕ)
      → WasNotRefused (function_at scope view probe)
  pub in_view : (scope : Scope) (u : UnitRecord) (answer : Option (Option Sections)) (probe : ℕ)
      → WasNotRefused (function_in scope u answer probe)
  pub in_unit : (scope : Scope) (u : IndexedUnit) (answer : Option (Option Sections)) (probe : ℕ)
      → WasNotRefused (frames_in scope u answer probe)
  pub of_number : (scope : Scope) (units : List IndexedUnit) (answers : FirstAnswers)
      (probe n : ℕ) → WasNotRefused (frames_of_number scope units answers probe n)
  pub asked : (asks : Asks) (scope : Scope) (units : List IndexedUnit)
      (answers : FirstAnswers) (probe n : ℕ)
      → WasNotRefused (asked_of_unit asks scope units answers probe n)
  pub stop : (asks : Asks) (probe : ℕ) (s : UnitsState) (ranges : List UnitRange)
      → WasNotRefused (stop_of asks probe s ranges)
  pub stop_in_unit : (asks : Asks) (probe : ℕ) (s : UnitsState) (n : ℕ)
      → WasNotRefused (stop_at asks probe s n)

-- no fault of a parse of functions and their details is
pub record ParsesAreNotRefused : Type 0 where
  pub functions : (scope : Scope) (view : UnitRecord) → WasNotRefused (functions_fault scope view)
  pub unit : (depth : ReadingDepth) (scope : Scope) (u : UnitRecord)
      (answer : Option (Option Sections)) → WasNotRefused (read_of_unit depth scope u answer)
  pub units : (depth : ReadingDepth) (scope : Scope) (us : List UnitRecord)
      (answers : FirstAnswers) → WasNotRefused (read_of_units depth scope us answers)

-- nothing of all that is
pub record UnitLookupsAreNotRefused : Type 0 where
  pub units : IndexIsNotRefused
  pub lines : CachedLinesAreNotRefused
  pub views : ViewsAreNotRefused
  pub frames : FramesAreNotRefused
  pub parses : ParsesAreNotRefused
