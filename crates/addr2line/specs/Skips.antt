-- Lookups where each load is answered None (DWARF 5, section 7.3.2).
-- Own: a unit that waits is decided by none then, and stays so until it is forgotten.
use Rattle.std.specs.Prelude.{◌≡◌, ℕ, ◌≤◌, Bool, length, replicate, List, None, IfErr, OnOk, Result}
use Rattle.addr2line.specs.Common.{Error, OutOfMemory, Sections, OnFault, Skip, WasNotRefused, StaysParsed, StaysKnownOf, FirstAnswers, waiting_unit}
use Rattle.addr2line.specs.Context.{ContextState}
use Rattle.addr2line.specs.Loads.{IsNotOpen}
use Rattle.addr2line.specs.History.{Given, Answered, answers_given}
use Rattle.addr2line.specs.Lookups.{IsFaultOfAsked, loads_at}
use Rattle.addr2line.specs.AfterLookups.{IsKnown, IsKnownFew, NeedsNoMemory, ReadsAsked}

-- none as the answer to each of so many loads
abbrev pub nones : ℕ → List Given
nones n = replicate n (Answered None)

-- the first answers after none to each load of a lookup
abbrev pub skipped_answers : OnFault → Sections → ℕ → FirstAnswers → FirstAnswers
skipped_answers faults d probe answers =
    answers_given faults d probe answers (nones (length (loads_at d answers probe)))

-- after a lookup where each load is answered None: the units that waited are decided by none; after
-- OutOfMemory some of the first ones. What was known of the others stays, and
-- nothing is read but what the lookup asks for by the first answers that are left. Memory is
-- refused only where something is left to read, or more than 16 inlined functions stand there;
-- where what is left takes none, a refusal is the fault of a unit
pub record AfterSkip {X : Type 0} (shares : Bool) (faults : OnFault) (probe : ℕ)
    (result : Result X Error) (old new : ContextState) : Type 0 where
  pub sections : new.sections ≡ old.sections
  pub answers : WasNotRefused result
      → new.answers ≡ skipped_answers faults old.sections probe old.answers
  pub begun : (n : ℕ)
      × (new.answers ≡ answers_given faults old.sections probe old.answers (nones n))
  pub parsed : StaysParsed old.parsed new.parsed
  pub known : (n : ℕ) → IsNotOpen old n → StaysKnownOf n old.known new.known
  pub only : ReadsAsked faults probe old new
  pub raised : old.steps ≤ new.steps
  pub ready : WasNotRefused result → IsKnown faults new probe
  pub memory : IsKnownFew faults new probe → WasNotRefused result
  pub no_memory : NeedsNoMemory shares faults new probe
      → IfErr result (IsFaultOfAsked faults new.sections new.answers probe)

-- the same of a lookup that lends nothing: one that passes over faults is refused for memory alone,
-- and what isn't refused waits for no unit
pub record AfterSkippingLoads {X : Type 0} (shares : Bool) (faults : OnFault) (probe : ℕ)
    (result : Result X Error) (old new : ContextState) : Type 0 where
  pub skip : AfterSkip shares faults probe result old new
  pub refused : faults ≡ Skip → IfErr result (λ e. e ≡ OutOfMemory)
  pub none : OnOk result (waiting_unit new.stop ≡ None)
