-- What calls leave of what is cached of the entries of a unit, where that was right before (on
-- specs/UnitAfter.antt).
use Rattle.addr2line_units.proofs.Common.{◌≡◌, ℕ, Bool, true, false, List, Option, None, Result, Ok, Err, IfErr, OnOk, Error, OutOfMemory, Sections, UnitRecord, Scope, LazyFunctions, ReadingDepth, EntriesCache, AreEntriesOf, StayEntries, first_answer_of, were_read, is_decided, was_checked, awaited_load, decided_answer, is_open, verdict, view_fault, AreFunctionsOf, ArePlacesIn, IsReadyFor, ReadsNoDetail, ReadsNoOther, StayFunctions, WasNotRefused, cached_functions, cached_has_function, exceeds_inline_room, function_at, functions_take_memory, inlined_of_found, known_functions, read_of_functions}
use Rattle.std.specs.Prelude.{IfOk, IfSome, is_some}
use Rattle.addr2line_units.specs.declared.entries.FunctionPlace.{FunctionPlace}
use Rattle.addr2line_units.specs.declared.parses.ReadingDepth.TheVariants as depths
use Rattle.addr2line_units.specs.ParsesAfter.{AfterReadingOf}
use Rattle.addr2line_units.specs.LoadsListed.{MarksLoad, if_new}
use Rattle.addr2line_units.specs.LoadsMemory.{answer_takes_memory}
use Rattle.addr2line_units.specs.UnitView.{SplitLoad}

-- after a unit was looked at: what is cached is right, and stays, and no functions are read
pub record KeepsChecked {R : Type 0} (scope : Scope) (u : UnitRecord) (old new : EntriesCache R) : Type 0 where
  pub entries : AreEntriesOf scope u new
  pub known : was_checked new.view.state ≡ true
  pub stay : StayEntries old new
  pub functions : new.functions ≡ old.functions
  pub kept : was_checked old.view.state ≡ true → new ≡ old

-- after an answer to its load: it is decided by it if it was open, and else by what it had; where
-- memory was refused only that it was looked at may be new
pub record KeepsAnswered {R : Type 0} (shares : Bool) (scope : Scope) (u : UnitRecord) (given : Option Sections) (result : Result (Unit {0}) Error) (old new : EntriesCache R) : Type 0 where
  pub entries : AreEntriesOf scope u new
  pub answer : OnOk result (first_answer_of new ≡ decided_answer scope.file.sections u (first_answer_of old) given)
  pub known : OnOk result (is_decided new.view.state ≡ true)
  pub refused : IfErr result (λ e. (e ≡ OutOfMemory) × StayEntries old new × (is_some given ≡ true))
  pub functions : new.functions ≡ old.functions
  pub kept : is_decided old.view.state ≡ true → (new ≡ old) × (result ≡ Ok tt)
  pub none : is_open scope.file.sections u (first_answer_of old) ≡ false → result ≡ Ok tt
  pub no_memory : answer_takes_memory shares given ≡ false → IfErr result (λ e. view_fault (verdict scope.file.sections u (decided_answer scope.file.sections u (first_answer_of old) given)) ≡ Err e)

-- after its load was looked for: the load is given if the unit waits for one and isn't marked,
-- which it is then
pub record KeepsListed {R : Type 0} (scope : Scope) (number : ℕ) (u : UnitRecord) (marks marked : List ℕ) (result : Result (Option SplitLoad) Error) (old new : EntriesCache R) : Type 0 where
  pub checked : KeepsChecked scope u old new
  pub gives : IfOk result (λ load. load ≡ if_new marks (awaited_load scope.file.sections number u (first_answer_of old)))
  pub marks_load : OnOk result (MarksLoad (awaited_load scope.file.sections number u (first_answer_of old)) marks marked)
  pub none : is_open scope.file.sections u (first_answer_of old) ≡ false → result ≡ Ok None
  pub refused : IfErr result (λ e. e ≡ OutOfMemory)

-- after its answer was forgotten
pub record KeepsForgotten {R : Type 0} (scope : Scope) (u : UnitRecord) (old new : EntriesCache R) : Type 0 where
  pub entries : AreEntriesOf scope u new
  pub answer : first_answer_of new ≡ None
  pub kept : first_answer_of old ≡ None → new ≡ old
  pub empty : is_some (first_answer_of old) ≡ true → were_read new.functions ≡ false

-- after the function at the probe was looked for among the functions of a view: what is cached is
-- right, and stays, and no other detail is read; unless memory was refused the function is known, and
-- where it is, memory is refused for more than 16 inlined functions alone; where it was, nothing is
-- read
pub record KeepsFunction {R : Type 0} (scope : Scope) (view : UnitRecord) (probe : ℕ) (result : Result (Option FunctionPlace) Error) (old new : LazyFunctions R) : Type 0 where
  pub functions : AreFunctionsOf scope view new
  pub places : IfOk result (λ found. IfSome found (ArePlacesIn (cached_functions new)))
  pub stay : StayFunctions old new
  pub within : ReadsNoOther probe (cached_functions old) (cached_functions new)
  pub kept : cached_has_function probe old ≡ true → new ≡ old
  pub known : WasNotRefused result → cached_has_function probe new ≡ true
  pub memory : cached_has_function probe new ≡ true → exceeds_inline_room (inlined_of_found (function_at scope view probe)) ≡ false → WasNotRefused result

-- after the functions of a view were read, over readers that share their bytes or don't: what is
-- cached is right, and stays, and where all that is read was cached nothing is changed; no detail
-- is read where functions alone are; where functions take no memory, a refusal is their first fault
pub record KeepsReadFunctions {R : Type 0} (shares : Bool) (depth : ReadingDepth) (scope : Scope) (view : UnitRecord) (result : Result (Unit {0}) Error) (old new : LazyFunctions R) : Type 0 where
  pub functions : AreFunctionsOf scope view new
  pub stay : StayFunctions old new
  pub known : AfterReadingOf depth (read_of_functions depth scope view) result false (known_functions old) false (known_functions new)
  pub kept : IsReadyFor depth (known_functions old) → new ≡ old
  pub details : depth ≡ depths.Functions → ReadsNoDetail (cached_functions old) (cached_functions new)
  pub no_memory : functions_take_memory shares scope.file.sections view ≡ false → IfErr result (λ e. read_of_functions depth scope view ≡ Err e)
