-- What an answer to the load of a unit leaves of a context, and of a lookup that goes on with it
-- (DWARF 5, sections 3.1.2 and 7.3.2).
-- Own: the first answer to a unit's load counts until the unit is forgotten.
use Rattle.std.specs.Prelude.{◌≡◌, ◌≢◌, ◌⊎◌, ◌<◌, ℕ, length, Bool, true, false, slice_get, Option, is_some, IfErr, OnOk, Result, Ok, Err}
use Rattle.addr2line.specs.Common.{Error, OutOfMemory, OnFault, Sections, LearnsNoFunctions, StaysKnown, SplitLoad}
use Rattle.addr2line_units.specs.LoadsMemory.{answer_takes_memory}
use Rattle.addr2line.specs.Context.{ContextState}
use Rattle.addr2line.specs.Answers.{answered, load_reply}
use Rattle.addr2line.specs.AfterLookups.{AfterFramesOver, Suspends}
use Rattle.addr2line.specs.Lookups.{loads_at, lookup_stop, waits_for}

-- after an answer to the load of the unit of a number, or after OutOfMemory in the place of given
-- sections, nothing is changed but of that unit, and what is stored of the last lookup, and no
-- function becomes known; fewer loads are left for a lookup that waited for the unit; after
-- OutOfMemory all first answers are as before, and what was known stays known
pub record AfterAnswering (n : ℕ) (given : Option Sections)
    (result : Result (Unit {0}) Error) (old new : ContextState) : Type 0 where
  pub sections : new.sections ≡ old.sections
  pub parsed : new.parsed ≡ old.parsed
  pub steps : new.steps ≡ old.steps
  pub answers : OnOk result (new.answers ≡ answered old.sections old.answers n given)
  pub refused : IfErr result (λ e. (e ≡ OutOfMemory) × (new.answers ≡ old.answers)
      × StaysKnown old.known new.known × (is_some given ≡ true))
  pub others : (k : ℕ) → k ≢ n → slice_get new.known k ≡ slice_get old.known k
  pub functions : LearnsNoFunctions old.known new.known
  pub shorter : (faults : OnFault) (probe : ℕ)
      → waits_for n (lookup_stop faults old.sections old.answers probe) ≡ true
      → OnOk result (length (loads_at new.sections new.answers probe)
      < length (loads_at old.sections old.answers probe))

-- the same over readers that share their bytes or don't: where the answer takes no memory, a
-- refusal would have to be the fault of its view
pub record AfterAnsweringOver (shares : Bool) (n : ℕ) (given : Option Sections)
    (result : Result (Unit {0}) Error) (old new : ContextState) : Type 0 where
  pub after : AfterAnswering n given result old new
  pub no_memory : answer_takes_memory shares given ≡ false
      → IfErr result (λ e. load_reply old.sections old.answers n given ≡ Err e)

-- after an answer with which a lookup went on, or after OutOfMemory in the answer's place: where
-- the answer takes no memory, only if that is the fault of its view
abbrev pub AfterResume : {X : Type 0} → Bool → OnFault → ℕ → ℕ → Option Sections → Result X Error
    → ContextState → ContextState → Type 0
AfterResume shares faults probe n given result old new =
    ((mid : ContextState) × AfterAnswering n given (Ok tt) old mid
    × AfterFramesOver shares faults probe result mid new)
    ⊎ ((result ≡ Err OutOfMemory) × AfterAnswering n given (Err OutOfMemory) old new
    × (answer_takes_memory shares given ≡ false
    → load_reply old.sections old.answers n given ≡ Err OutOfMemory))

-- after an answer the lookup waits for the unit of another number with this load
abbrev pub SuspendsAgain : OnFault → ℕ → ℕ → Option Sections → ℕ → SplitLoad → ContextState
    → ContextState → Type 0
SuspendsAgain faults probe n given number load old new =
    (mid : ContextState) × AfterAnswering n given (Ok tt) old mid
    × Suspends faults probe number load mid new
