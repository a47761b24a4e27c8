-- Lookups that may wait, by the context that they are made in.
use Rattle.std.specs.Prelude.{◌≡◌, ℕ, length, Option, Some, IfErr, Result, Ok}
use Rattle.std.specs.Borrow.{MutBor}
use Rattle.addr2line.specs.Common.{Error, OutOfMemory, ExactlyUnlessOom, Sections, OnFault, Stop, Skip, LookupStop, Waits, IfLoad, IfOutput, IsOkOutput, SplitLoad, View, FramesResult, last_address}
use Rattle.addr2line_units.specs.declared.continuation.LookupResult.{LookupResult}
use Rattle.addr2line.specs.AfterAnswering.{SuspendsAgain}
use Rattle.addr2line.specs.Answers.{answered}
use Rattle.addr2line.specs.Context.{ContextState, IsUncovered}
use Rattle.addr2line.specs.AfterLookups.{Suspends}
use Rattle.addr2line.specs.Lookups.{IsLoadOf, found_at, frames_value, loads_at, with_none}
use Rattle.addr2line.specs.Skips.{skipped_answers}

-- a lookup of this context at this probe waits for the unit of a number, with this load
abbrev pub SuspendsIn : OnFault → MutBor ContextState → ℕ → MutBor ContextState → ℕ → ℕ → SplitLoad
    → Type 0
SuspendsIn faults context probe held at number load =
    (held.ghost_name ≡ context.ghost_name) × (at ≡ probe)
    × Suspends faults probe number load context.now held.now

-- the same once the unit of another number was answered
abbrev pub SuspendsAgainIn : OnFault → MutBor ContextState → ℕ → ℕ → Option Sections
    → MutBor ContextState → ℕ → ℕ → SplitLoad → Type 0
SuspendsAgainIn faults context probe n given held at number load =
    (held.ghost_name ≡ context.ghost_name) × (at ≡ probe)
    × SuspendsAgain faults probe n given number load context.now held.now

-- the context is held by the rest of a lookup that it has stored, which waits for the unit of a
-- number, with this load
abbrev pub HoldsIn : MutBor ContextState → ℕ → Result (Unit {0}) Error → MutBor ContextState → ℕ → ℕ
    → SplitLoad → Type 0
HoldsIn context probe walked held at number load =
    (held.ghost_name ≡ context.ghost_name) × (at ≡ probe) × (held.now ≡ context.now)
    × (walked ≡ Ok tt) × (context.now.stop ≡ Waits number)
    × IsLoadOf context.now.sections number load

-- how many loads a lookup of the probe may wait for
abbrev pub count_loads : ContextState → ℕ → ℕ
count_loads c probe = length (loads_at c.sections c.answers probe)

-- what a lookup of a kind gives, by what becomes of faults and what it makes of what it finds
module _ {V : Type 0} (faults : OnFault) (value_of : LookupStop → Option View → V) where
  -- at the probe in a context
  abbrev pub found_of_context : ContextState → ℕ → Result (Option V) Error
  found_of_context c probe = found_at faults value_of c.sections c.answers probe

  -- the same once the unit of a number was answered
  abbrev pub found_answered : ContextState → ℕ → Option Sections → ℕ → Result (Option V) Error
  found_answered c n given probe =
      found_at faults value_of c.sections (answered c.sections c.answers n given) probe

  -- the same where each load of the lookup is answered None
  abbrev pub found_skipped : ContextState → ℕ → Result (Option V) Error
  found_skipped c probe = found_at faults value_of c.sections
      (skipped_answers faults c.sections probe c.answers) probe

  -- the same where each unit that has no answer is answered None
  abbrev pub found_with_none : ContextState → ℕ → Result (Option V) Error
  found_with_none c probe = found_at faults value_of c.sections (with_none c.answers) probe

-- what a lookup of a kind comes to: it waits for a load, with such a rest of the lookup; or it has
-- ended, and gives what is given, or OutOfMemory in its place. One that passes over faults is
-- refused OutOfMemory alone
pub record WaitsOrGives {L X V D S : Type 0} (faults : OnFault) (see : X → V)
    (given : Result (Option V) Error) (result : LookupResult L (Result X Error) D S)
    (Rest : L → Type 0) : Type 0 where
  pub load : IfLoad result Rest
  pub output : IfOutput result (λ o. ExactlyUnlessOom (λ x. Some (see x)) o given)
  pub refused : faults ≡ Skip → IfOutput result (λ o. IfErr o (λ e. e ≡ OutOfMemory))

-- the same of a lookup that begins in a context: where no unit covers the probe, as at 2^64 - 1, it
-- waits for nothing and isn't refused
pub record BeginsLookup {L X V D S : Type 0} (faults : OnFault)
    (value_of : LookupStop → Option View → V) (see : X → V) (c : ContextState) (probe : ℕ)
    (result : LookupResult L (Result X Error) D S) (Rest : L → Type 0) : Type 0 where
  pub comes_to : WaitsOrGives faults see (found_of_context faults value_of c probe) result Rest
  pub none : IsUncovered c probe → IsOkOutput result
  pub last : probe ≡ last_address → IsUncovered c probe

-- the frames at the probe in a context
abbrev pub frames_of_context : ContextState → ℕ → FramesResult
frames_of_context c probe = found_of_context Stop frames_value c probe
