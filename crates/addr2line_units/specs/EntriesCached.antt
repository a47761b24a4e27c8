-- What is cached of the views of units and of the functions in them, as the private functions see
-- it.
-- Own: what a lookup finds is the same by what is cached as by the unit's bytes.
use Rattle.std.specs.Prelude.{◌≡◌, ℕ, Bool, true, false, List, Option, Some, None, Result, Ok, Err, IfSome, option_map}
use Rattle.addr2line_units.specs.Common.{Error, Sections, UnitRecord, location_of_row, Scope}
use Rattle.addr2line_units.specs.declared.entries.LazyFunctions.{LazyFunctions}
use Rattle.addr2line_units.specs.declared.unit.LazyLines.{LazyLines}
use Rattle.addr2line_units.specs.declared.unit.LazyLines.TheVariants as lines
use Rattle.addr2line_units.specs.declared.unit.LinesCache.{LinesCache}
use Rattle.addr2line_units.specs.declared.entries.EntriesCache.{EntriesCache}
use Rattle.addr2line_units.specs.EntriesOwn.{CachedUnit, first_answer_of}
use Rattle.addr2line_units.specs.declared.entries.UnitFrames.{UnitFrames}
use Rattle.addr2line_units.specs.declared.entries.UnitFrames.TheVariants as found
use Rattle.addr2line_units.specs.declared.unit.ViewState.{ViewState}
use Rattle.addr2line_units.specs.declared.unit.ViewState.TheVariants as states
use Rattle.addr2line_units.specs.EntriesMemory.{functions_in_take_memory, lines_take_memory}
use Rattle.addr2line_units.specs.UnitLinesCached.{cached_files, is_uncached, lines_or}
use Rattle.addr2line_units.specs.Frames.{FrameRecord, found_frames}
use Rattle.addr2line_units.specs.EntriesFunctions.{ArePlacesIn, ReadsNoOther, StayFunctions, function_of_place, cached_has_function, is_cached_fault, cached_functions}
use Rattle.addr2line_units.specs.UnitViewCached.{was_checked}
use Rattle.addr2line_units.specs.EntriesFrames.{FramesResult, HasFewInlined, asks_lines_in, frames_by_lines}

-- the answer stays, and so does what is cached; more may be
pub record StayEntries {R : Type 0} (old new : EntriesCache R) : Type 0 where
  pub answer : first_answer_of new ≡ first_answer_of old
  pub view : was_checked old.view.state ≡ true → new.view ≡ old.view
  pub functions : StayFunctions old.functions new.functions

-- whether the split unit of an answer has a fault that is cached, or else the function at the probe
-- is found
abbrev pub has_answered : {R : Type 0} → {X : Type 0} → ℕ → Result X Error → LazyFunctions R → Bool
has_answered probe (Ok x) functions = cached_has_function probe functions
has_answered probe (Err e) functions = is_cached_fault e

-- whether what a unit has at the probe is known, by what is cached of its view and its functions:
-- it waits for an answer, or its view has a fault, or the function at the probe is found, or that
-- there is none
abbrev pub has_entries_by : {R : Type 0} → ℕ → ViewState R → LazyFunctions R → Bool
has_entries_by probe states.Undecided functions = false
has_entries_by probe states.Open functions = true
has_entries_by probe states.Main functions = cached_has_function probe functions
has_entries_by probe (states.Unnamed e) functions = is_cached_fault e
has_entries_by probe (states.Answered a) functions = has_answered probe a.unit functions

-- whether what a unit has at the probe is known by what is cached of its entries
abbrev pub has_entries : {R : Type 0} → ℕ → EntriesCache R → Bool
has_entries probe v = has_entries_by probe v.view.state v.functions

-- no detail is read but that of the function at the probe, and nothing where all was cached
pub record ReadsEntriesOf {R : Type 0} (probe : ℕ) (old new : EntriesCache R) : Type 0 where
  pub alone : ReadsNoOther probe (cached_functions old.functions) (cached_functions new.functions)
  pub kept : has_entries probe old ≡ true → new ≡ old

-- the frames of the function of a place and the row of an address, by what is cached
abbrev pub frames_of_place : {R : Type 0} → LinesCache → EntriesCache R → UnitFrames
    → Option (List FrameRecord)
frames_of_place u v found.Open = None
frames_of_place u v (found.Here function row) =
    Some (found_frames (cached_files u.lines) u.lang
    (option_map (function_of_place (cached_functions v.functions)) function)
    (option_map (location_of_row (cached_files u.lines)) row))

-- lines were read, and have no fault
abbrev pub AreRead : LazyLines → Type 0
AreRead lines.Absent = Unit {0}
AreRead (lines.Read table) = Unit {0}
AreRead _ = ⊥

-- the frames at the probe in a unit, by the lines that are cached, or else by what its bytes give
-- of these
abbrev pub frames_or : {R : Type 0} → Scope → UnitRecord → ℕ → CachedUnit R → FramesResult
frames_or scope u probe c = frames_by_lines scope u c.lines.lang
    (lines_or scope.file.sections u c.lines.lines) (first_answer_of c.entries) probe

-- the places of a function and its inlined ones are among those that are cached, and the lines are
-- read
abbrev pub AreFramesIn : {R : Type 0} → LinesCache → EntriesCache R → UnitFrames → Type 0
AreFramesIn u v found.Open = Unit {0}
AreFramesIn u v (found.Here function row) =
    IfSome function (ArePlacesIn (cached_functions v.functions)) × AreRead u.lines

-- the lines of a unit with this first answer are cached where a lookup of the probe asks for them
abbrev pub HasAskedLines : Scope → UnitRecord → Option (Option Sections) → ℕ → LazyLines → Type 0
HasAskedLines scope u answer probe lines =
    asks_lines_in scope u answer probe ≡ true → is_uncached lines ≡ false

-- a lookup of the probe takes no memory in a unit with this first answer: what it asks for is known
-- by what is cached, or reading it takes none, and at most 16 inlined functions stand there
pub record AsksNoMemoryIn {R : Type 0} (shares : Bool) (scope : Scope) (dw_unit : UnitRecord)
    (answer : Option (Option Sections)) (probe : ℕ) (u : LinesCache) (v : EntriesCache R)
    : Type 0 where
  pub functions : functions_in_take_memory shares scope dw_unit answer ≡ true
      → has_entries probe v ≡ true
  pub lines : asks_lines_in scope dw_unit answer probe ≡ true
      → lines_take_memory shares dw_unit ≡ true → is_uncached u.lines ≡ false
  pub few : HasFewInlined scope dw_unit answer probe
