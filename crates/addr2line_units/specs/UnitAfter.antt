-- What calls leave of what is cached of one unit, as the private functions see it (DWARF 5,
-- sections 3.1.2, 3.3, 6.2 and 7.3.2).
-- Own: what is cached stays, until the unit is forgotten. OutOfMemory is never cached.
use Rattle.std.specs.Prelude.{◌≡◌, ◌+◌, ◌<◌, ◌≤◌, ℕ, Bool, true, false, List, Option, None, Some, Result, Ok, Err, IfOk, IfErr, IfSome, OnOk, is_some, if◌then◌else◌, ◌⊎◌}
use Rattle.addr2line_units.specs.Common.{Error, OutOfMemory, WasNotRefused, Sections, UnitRecord, Scope, functions_of, functions_take_memory, ExactlyUnlessOom}
use Rattle.addr2line_lines.specs.FunctionDetails.{AreUnread}
use Rattle.addr2line_lines.specs.declared.row.Row.{Row}
use Rattle.addr2line_units.specs.declared.entries.FunctionPlace.{FunctionPlace}
use Rattle.addr2line_units.specs.declared.entries.LazyFunctions.{LazyFunctions}
use Rattle.addr2line_units.specs.EntriesOwn.{CachedUnit, first_answer_of}
use Rattle.addr2line_units.specs.declared.entries.EntriesCache.{EntriesCache}
use Rattle.addr2line_units.specs.declared.entries.UnitFrames.{UnitFrames}
use Rattle.addr2line_units.specs.declared.unit.LinesCache.{LinesCache}
use Rattle.addr2line_units.specs.EntriesCached.{AreFramesIn, AsksNoMemoryIn, HasAskedLines, ReadsEntriesOf, StayEntries, frames_or, has_entries}
use Rattle.addr2line_units.specs.EntriesFrames.{HasFewInlined, asks_lines_in, function_in}
use Rattle.addr2line_units.specs.EntriesFunctions.{AreFunctionsOf, ArePlacesIn, cached_functions, were_read}
use Rattle.addr2line_units.specs.EntriesMemory.{functions_in_take_memory, lines_take_memory}
use Rattle.addr2line_units.specs.Locations.{is_found}
use Rattle.addr2line_units.specs.UnitLinesCached.{StayLines, cached_lines_result, cached_steps, is_uncached, lines_or, lines_result_or}
use Rattle.addr2line_units.specs.UnitView.{answered_view, verdict, SplitLoad, load_of_unit}
use Rattle.addr2line_units.specs.LoadsListed.{MarksUnit, is_marked}
use Rattle.addr2line_units.specs.LoadsMemory.{answer_takes_memory}
use Rattle.addr2line_units.specs.declared.unit.UnitView.{UnitView}
use Rattle.addr2line_units.specs.UnitViewCached.{answer_of_view, was_checked, verdict_in, waits}

-- the language of a unit stays, and its lines are cached, or their fault: those that were, or else
-- those that its bytes give
pub record CachesLines (d : Sections) (u : UnitRecord) (old new : LinesCache) : Type 0 where
  pub stay : StayLines old new
  pub lines : cached_lines_result new.lines ≡ lines_result_or d u old.lines

-- memory was refused that the lines of a unit take, which aren't cached: nothing is changed
pub record LacksLines {X : Type 0} (shares : Bool) (u : UnitRecord) (result : Result X Error)
    (old new : LinesCache) : Type 0 where
  pub same : new ≡ old
  pub unread : is_uncached old.lines ≡ true
  pub takes : lines_take_memory shares u ≡ true
  pub refused : result ≡ Err OutOfMemory

-- after the lines of a unit were asked for: they are cached, or their fault, which alone is a
-- refusal then; or memory was refused
abbrev pub AfterLinesOf : {X : Type 0} → Bool → Sections → UnitRecord → Result X Error → LinesCache
    → LinesCache → Type 0
AfterLinesOf shares d u result old new =
    (CachesLines d u old new × IfErr result (λ e. lines_or d u old.lines ≡ Err e))
    ⊎ LacksLines shares u result old new

-- the unit was looked at whose entries are cached
abbrev pub WasLookedAt : {R : Type 0} → Scope → UnitRecord → CachedUnit R → Type 0
WasLookedAt scope u c = c.unit ≡ Some (record { scope = scope; unit = u })

-- after a call on the entries of a unit: the unit was looked at, its lines are as they were, and of
-- its entries is left what the relation says
pub record AfterEntries {R : Type 0} (Leaves : EntriesCache R → EntriesCache R → Type 0)
    (scope : Scope) (u : UnitRecord) (old new : CachedUnit R) : Type 0 where
  pub unit : WasLookedAt scope u new
  pub lines : new.lines ≡ old.lines
  pub entries : Leaves old.entries new.entries

-- lines were looked at no less often than before, so often at most, and once at least where
-- something was found
pub record CountsSteps (most : ℕ) (found : Bool) (old new : ℕ) : Type 0 where
  pub raised : old ≤ new
  pub counted : found ≡ true → old < new
  pub cost : new ≤ old + most

-- after the row of an address was looked for in a unit: its lines are cached, or their fault, or
-- memory was refused; those that are cached were looked at no more often than a search in them
-- takes, and once at least where a row was found
pub record AfterRowIn (shares : Bool) (d : Sections) (u : UnitRecord)
    (result : Result (Option Row) Error) (old new : LinesCache) (old_steps new_steps : ℕ)
    : Type 0 where
  pub lines : AfterLinesOf shares d u result old new
  pub steps : CountsSteps (cached_steps new.lines) (is_found result) old_steps new_steps

-- functions that were just read are those of the view, or their fault, without any detail
pub record AreNewFunctionsOf {R : Type 0} (scope : Scope) (view : UnitRecord) (f : LazyFunctions R)
    : Type 0 where
  pub functions : AreFunctionsOf scope view f
  pub read : were_read f ≡ true
  pub empty : AreUnread (cached_functions f)

-- memory alone is refused for the functions of a view; where they take none it would have to be
-- their fault, which it never is
abbrev pub IsRefusalOf : Bool → Scope → UnitRecord → Error → Type 0
IsRefusalOf shares scope view e = (e ≡ OutOfMemory)
    × (functions_take_memory shares scope.file.sections view ≡ false
    → functions_of scope.file.sections view ≡ Err e)

-- after the functions of a view were cached: those that were read are the same, others have no
-- detail yet; where memory was refused nothing is changed
pub record AfterCachingFunctions {R : Type 0} (shares : Bool) (scope : Scope) (view : UnitRecord)
    (result : Result (Unit {0}) Error) (old new : LazyFunctions R) : Type 0 where
  pub functions : were_read old ≡ false → AreFunctionsOf scope view new
  pub read : OnOk result (were_read new ≡ true)
  pub empty : were_read old ≡ false → AreUnread (cached_functions new)
  pub kept : were_read old ≡ true → (new ≡ old) × (result ≡ Ok tt)
  pub refused : IfErr result (λ e. IsRefusalOf shares scope view e × (new ≡ old))

-- after the function at the probe was looked for in the view of a unit: what was found stands in
-- what is cached; what was cached stays, and no other detail is read; unless memory was refused the
-- function is known, and where it is, memory is refused for more than 16 inlined functions alone;
-- where the functions take no memory a refusal is the first fault
pub record AfterFunctionIn {R : Type 0} (shares : Bool) (scope : Scope) (u : UnitRecord)
    (probe : ℕ) (result : Result (Option FunctionPlace) Error) (old new : EntriesCache R)
    : Type 0 where
  pub places : IfOk result (λ found. IfSome found (ArePlacesIn (cached_functions new.functions)))
  pub stay : StayEntries old new
  pub within : ReadsEntriesOf probe old new
  pub ready : WasNotRefused result → has_entries probe new ≡ true
  pub memory : has_entries probe new ≡ true
      → HasFewInlined scope u (first_answer_of old) probe → WasNotRefused result
  pub no_memory : functions_in_take_memory shares scope u (first_answer_of old) ≡ false
      → IfErr result (λ e. function_in scope u (first_answer_of old) probe ≡ Err e)

-- after the view of a unit was looked at, unless that was done: it is known whether the unit waits,
-- and where it wasn't, by its bytes; its answer is as it was
pub record AfterViewCheck {R : Type 0} (d : Sections) (u : UnitRecord) (old new : UnitView R)
    : Type 0 where
  pub known : was_checked new.state ≡ true
  pub read : was_checked old.state ≡ false → verdict_in d u new.state ≡ Some (verdict d u None)
  pub answer : answer_of_view new ≡ answer_of_view old
  pub kept : was_checked old.state ≡ true → new ≡ old

-- after a unit was decided by an answer, or memory was refused in the place of given sections, and
-- nothing is changed; where the answer takes no memory a refusal would have to be its fault
pub record AfterViewAnswer {R : Type 0} (shares : Bool) (d : Sections) (u : UnitRecord)
    (given : Option Sections) (result : Result (Unit {0}) Error) (old new : UnitView R)
    : Type 0 where
  pub answer : OnOk result (answer_of_view new ≡ Some given)
  pub read : OnOk result (verdict_in d u new.state ≡ Some (Some (answered_view d u given)))
  pub refused : IfErr result (λ e. (e ≡ OutOfMemory) × (new ≡ old) × (is_some given ≡ true))
  pub no_memory : answer_takes_memory shares given ≡ false
      → IfErr result (λ e. answered_view d u given ≡ Err e)

-- after the answer of a unit was forgotten, if it had one: then it waits for one again
pub record AfterViewForgetting {R : Type 0} (old new : UnitView R) : Type 0 where
  pub answer : answer_of_view new ≡ None
  pub opens : is_some (answer_of_view old) ≡ true → waits new.state ≡ true
  pub kept : answer_of_view old ≡ None → new ≡ old

-- after a unit was looked at, unless that was done: no functions are read
pub record AfterCheck {R : Type 0} (d : Sections) (u : UnitRecord) (old new : EntriesCache R)
    : Type 0 where
  pub view : AfterViewCheck d u old.view new.view
  pub functions : new.functions ≡ old.functions

-- after the frames at the probe were looked for: the unit was looked at; its lines are as they
-- were, or were read of it now; what was found stands in what is cached, and what was cached stays;
-- no other detail is read, and lines only where they are asked for; unless memory was refused all
-- that is asked for is known, and where it is, and the lines' fault isn't OutOfMemory, memory is
-- refused for more than 16 inlined functions alone; where nothing of it takes memory either, a
-- refusal is the first fault; lines were looked at no less often than before
pub record AfterFramesIn {R : Type 0} (shares : Bool) (scope : Scope) (u : UnitRecord) (probe : ℕ)
    (result : Result UnitFrames Error) (old new : CachedUnit R) (old_steps new_steps : ℕ)
    : Type 0 where
  pub unit : WasLookedAt scope u new
  pub lines : (new.lines ≡ old.lines) ⊎ CachesLines scope.file.sections u old.lines new.lines
  pub frames : IfOk result (AreFramesIn new.lines new.entries)
  pub stay : StayEntries old.entries new.entries
  pub within : ReadsEntriesOf probe old.entries new.entries
  pub kept : asks_lines_in scope u (first_answer_of old.entries) probe ≡ false
      → new.lines ≡ old.lines
  pub ready : WasNotRefused result → has_entries probe new.entries ≡ true
  pub known : WasNotRefused result
      → HasAskedLines scope u (first_answer_of old.entries) probe new.lines.lines
  pub memory : has_entries probe new.entries ≡ true
      → HasAskedLines scope u (first_answer_of old.entries) probe new.lines.lines
      → HasFewInlined scope u (first_answer_of old.entries) probe
      → WasNotRefused (cached_lines_result new.lines.lines) → WasNotRefused result
  pub no_memory : AsksNoMemoryIn shares scope u (first_answer_of old.entries) probe new.lines
      new.entries → WasNotRefused (cached_lines_result new.lines.lines)
      → IfErr result (λ e. frames_or scope u probe old ≡ Err e)
  pub raised : old_steps ≤ new_steps

-- after an answer to the load of a unit: it was looked at first, and where it waits then, it is
-- decided by the answer; no functions are read
pub record AfterAnswerIn {R : Type 0} (shares : Bool) (d : Sections) (u : UnitRecord)
    (given : Option Sections) (result : Result (Unit {0}) Error) (old new : EntriesCache R)
    : Type 0 where
  pub between : UnitView R
  pub check : AfterViewCheck d u old.view between
  pub answer : waits between.state ≡ true
      → AfterViewAnswer shares d u given result between new.view
  pub none : waits between.state ≡ false → (new.view ≡ between) × (result ≡ Ok tt)
  pub functions : new.functions ≡ old.functions

-- the load of the unit of a number, none where it is marked
abbrev pub load_unless_marked : Sections → ℕ → UnitRecord → List ℕ
    → Result (Option SplitLoad) Error
load_unless_marked d number u marks =
    if is_marked marks number then Ok None else load_of_unit d number u

-- after a unit was looked at for its load: where it waits, the load is given unless the unit was
-- marked, which it is then; else nothing is marked, and there is none
pub record AfterNewLoadIn {R : Type 0} (d : Sections) (number : ℕ) (u : UnitRecord)
    (marks marked : List ℕ) (result : Result (Option SplitLoad) Error)
    (old new : EntriesCache R) : Type 0 where
  pub check : AfterCheck d u old new
  pub load : waits new.view.state ≡ true
      → ExactlyUnlessOom (λ l. l) result (load_unless_marked d number u marks)
  pub marks_unit : waits new.view.state ≡ true → OnOk result (MarksUnit number marks marked)
  pub none : waits new.view.state ≡ false → (result ≡ Ok None) × (marked ≡ marks)

-- after a unit was forgotten: its lines stay; where it had an answer, it waits again, and none of
-- its functions are read any more; where it had none nothing is changed
pub record AfterForgettingIn {R : Type 0} (old new : CachedUnit R) : Type 0 where
  pub unit : new.unit ≡ old.unit
  pub lines : new.lines ≡ old.lines
  pub view : AfterViewForgetting old.entries.view new.entries.view
  pub empty : is_some (first_answer_of old.entries) ≡ true
      → were_read new.entries.functions ≡ false
  pub kept : first_answer_of old.entries ≡ None → new.entries ≡ old.entries
