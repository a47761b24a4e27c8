-- What a parse of functions leaves of a view, of a unit, and of the unit of a number, as the
-- private functions see it (DWARF 5, section 3.3: entries of subprograms and of inlined functions).
use Rattle.std.specs.Prelude.{◌≡◌, ◌≢◌, ◌⊎◌, ℕ, Bool, true, false, IfErr, IfSome, OnOk, slice_get, None, Result, Ok, Err}
use Rattle.addr2line_units.specs.Common.{Error, WasNotRefused, UnitRecord, Scope}
use Rattle.addr2line_units.specs.declared.parses.ReadingDepth.{ReadingDepth}
use Rattle.addr2line_units.specs.declared.parses.ReadingDepth.TheVariants as depths
use Rattle.addr2line_units.specs.declared.entries.EntriesCache.{EntriesCache}
use Rattle.addr2line_units.specs.UnitsAfter.{StayRead}
use Rattle.addr2line_units.specs.EntriesMemory.{functions_in_take_memory}
use Rattle.addr2line_units.specs.EntriesCached.{StayEntries}
use Rattle.addr2line_units.specs.EntriesOwn.{first_answer_of}
use Rattle.addr2line_units.specs.EntriesFunctions.{ReadsNoDetail, StayFunctions, cached_functions}
use Rattle.addr2line_units.specs.EntriesKnownCached.{known_by}
use Rattle.addr2line_units.specs.UnitViewCached.{is_decided}
use Rattle.addr2line_units.specs.FramesLookup.{with_answer}
use Rattle.addr2line_units.specs.Parses.{IsReadyFor, IsReadyOf, parse_of_takes_memory, parse_takes_memory, read_of_number, read_of_unit, read_of_view}
use Rattle.addr2line_units.specs.EntriesKnown.{KnownEntries, LearnsNoDetails, knows_detail}
use Rattle.addr2line_units.specs.Loads.{is_open_at}
use Rattle.addr2line_units.specs.EntriesStayKnown.{IsReadBy, StaysKnownOf}
use Rattle.addr2line_units.specs.UnitsState.{UnitsState}
use Rattle.addr2line_units.specs.UnitView.{decided_answer, is_open, verdict}

-- a unit isn't open, and all is known that a parse reads of it
abbrev pub IsDecidedAndReady : ReadingDepth → Bool → KnownEntries → Type 0
IsDecidedAndReady depth waits known = (waits ≡ false) × IsReadyFor depth known

-- after the entries of a unit, which may have waited for an answer, were read to a depth: where
-- that gave no fault all of them are read; unless memory was refused the unit isn't open and all is
-- known that is read of it, and where that is so, none was refused; where all was read before,
-- there is no fault, and where all was known that is read of it, the result is that of the reading,
-- and no more is known
pub record AfterReadingOf (depth : ReadingDepth) (reading result : Result (Unit {0}) Error)
    (waited : Bool) (old : KnownEntries) (waits : Bool) (new : KnownEntries) : Type 0 where
  pub read : OnOk result (IsReadBy depth new)
  pub whole : IsReadBy depth old → result ≡ Ok tt
  pub ready : WasNotRefused result → IsDecidedAndReady depth waits new
  pub memory : IsDecidedAndReady depth waits new → WasNotRefused result
  pub exact : IsDecidedAndReady depth waited old → result ≡ reading
  pub same : IsDecidedAndReady depth waited old → new ≡ old

-- after the functions in the view of a unit that is decided were read, over readers that share
-- their bytes or don't: what is cached stays, and where all was known that is read no more is; no
-- detail is read where functions alone are; where functions take no memory, a refusal is their
-- first fault
pub record AfterReadingView {R : Type 0} (shares : Bool) (depth : ReadingDepth) (scope : Scope)
    (u : UnitRecord) (result : Result (Unit {0}) Error) (old new : EntriesCache R) : Type 0 where
  pub view : new.view ≡ old.view
  pub stay : StayFunctions old.functions new.functions
  pub known : AfterReadingOf depth
      (read_of_view depth scope (verdict scope.file.sections u (first_answer_of old))) result
      false (known_by old.view.state old.functions) false (known_by new.view.state new.functions)
  pub details : depth ≡ depths.Functions
      → ReadsNoDetail (cached_functions old.functions) (cached_functions new.functions)
  pub no_memory : functions_in_take_memory shares scope u (first_answer_of old) ≡ false
      → IfErr result (λ e. read_of_view depth scope
      (verdict scope.file.sections u (first_answer_of old)) ≡ Err e)

-- the same of a unit, which is decided by none first where it is open; where memory was refused, it
-- may be; what is cached of a unit that was decided stays
pub record AfterReadingUnit {R : Type 0} (shares : Bool) (depth : ReadingDepth)
    (scope : Scope) (u : UnitRecord) (result : Result (Unit {0}) Error)
    (old new : EntriesCache R) : Type 0 where
  pub answer : WasNotRefused result → first_answer_of new
      ≡ decided_answer scope.file.sections u (first_answer_of old) None
  pub begun : (first_answer_of new ≡ first_answer_of old) ⊎ (first_answer_of new
      ≡ decided_answer scope.file.sections u (first_answer_of old) None)
  pub stay : is_decided old.view.state ≡ true → StayEntries old new
  pub known : AfterReadingOf depth (read_of_unit depth scope u (first_answer_of old)) result
      (is_open scope.file.sections u (first_answer_of old)) (known_by old.view.state old.functions)
      (is_open scope.file.sections u (first_answer_of new)) (known_by new.view.state new.functions)
  pub details : depth ≡ depths.Functions → (offset : ℕ)
      → knows_detail offset (known_by new.view.state new.functions) ≡ true
      → knows_detail offset (known_by old.view.state old.functions) ≡ true
  pub no_memory : parse_takes_memory shares scope u (first_answer_of new) ≡ false
      → IfErr result (λ e. read_of_unit depth scope u (first_answer_of old) ≡ Err e)

-- the same of the unit of a number, if there is one; of the others nothing is changed, and no
-- lookup is stored any more
pub record AfterReadingAt (shares : Bool) (depth : ReadingDepth) (number : ℕ)
    (result : Result (Unit {0}) Error) (old new : UnitsState) : Type 0 where
  pub stays : StayRead old new
  pub answers : WasNotRefused result → new.answers
      ≡ with_answer old.scope.file.sections old.scope.file.units old.answers number None
  pub begun : (new.answers ≡ old.answers) ⊎ (new.answers
      ≡ with_answer old.scope.file.sections old.scope.file.units old.answers number None)
  pub known : is_open_at old.scope.file.sections old.scope.file.units old.answers number ≡ false
      → StaysKnownOf number old.known new.known
  pub others : (n : ℕ) → n ≢ number → slice_get new.known n ≡ slice_get old.known n
  pub details : depth ≡ depths.Functions → LearnsNoDetails old.known new.known
  pub read : OnOk result (IfSome (slice_get new.known number) (IsReadBy depth))
  pub whole : IfSome (slice_get old.known number) (IsReadBy depth) → result ≡ Ok tt
  pub ready : WasNotRefused result
      → IsReadyOf depth old.scope old.scope.file.units new.answers new.known number
  pub memory : IsReadyOf depth old.scope old.scope.file.units new.answers new.known number
      → WasNotRefused result
  pub exact : IsReadyOf depth old.scope old.scope.file.units old.answers old.known number
      → result ≡ read_of_number depth old.scope old.scope.file.units old.answers number
  pub same : IsReadyOf depth old.scope old.scope.file.units old.answers old.known number
      → (new.answers ≡ old.answers) × (new.known ≡ old.known)
  pub no_memory : parse_of_takes_memory shares old.scope old.scope.file.units new.answers number
      ≡ false → IfErr result (λ e. read_of_number depth old.scope old.scope.file.units old.answers
      number ≡ Err e)
