-- Runs: what is read part by part, up to the end or the first fault.
-- Own: a run keeps the parts before its fault, since they count where the fault is never met.
use Rattle.std.specs.Prelude.{ℕ, zero, suc, ◌+◌, length, List, [], ◌∷◌, Option, Some, None, Result, Ok, Err}
use Rattle.gimli_read.specs.declared.error.Error.{Error}
use Rattle.gimli_read.specs.declared.error.Error.TheVariants.{UnexpectedEof}
use Rattle.gimli_read.specs.Section.{Section}
use Rattle.gimli_read.specs.Reading.{Reading, ◌>>=◌}

-- the parts that can be read, and what stands after them, or the fault
pub record Run (X Z : Type 0) : Type 0 where
  pub items : List X
  pub end : Result Z Error

-- one step of a run: a part and where the next begins, or the fault after it; or the run's end
pub data Next (X S Z : Type 0) : Type 0 where
  More : X → Result S Error → Next X S Z
  Stop : Result Z Error → Next X S Z

-- the step of a reading that gives a part, or none at the end
abbrev pub next_of : {X S : Type 0} → Result (Option X × S) Error → Next X S S
next_of (Err e) = Stop (Err e)
next_of (Ok p) = elim p.0 [ None ↦ Stop (Ok p.1) | Some x ↦ More x (Ok p.1) ]

-- a part before a run
abbrev pub cons : {X Z : Type 0} → X → Run X Z → Run X Z
cons x r = record { items = x ∷ r.items; end = r.end }

-- a step, and the run after it
abbrev pub continued : {X S Z : Type 0} → (S → Run X Z) → Next X S Z → Run X Z
continued k (Stop z) = record { items = []; end = z }
continued k (More x (Err e)) = record { items = x ∷ []; end = Err e }
continued k (More x (Ok t)) = cons x (k t)

-- at most n steps
unfoldable pub run_within : {X S Z : Type 0} → (S → Next X S Z) → ℕ → S → Run X Z
run_within step zero s = record { items = []; end = Err UnexpectedEof }
run_within step (suc n) s = continued (run_within step n) (step s)

-- each part in turn, and then the end
unfoldable pub fold_run : {X Z A : Type 0} → (A → X → Result A Error) → A → List X → Result Z Error
    → Result (A × Z) Error
fold_run f a [] end = end >>= λ z. Ok (a, z)
fold_run f a (x ∷ xs) end = f a x >>= λ b. fold_run f b xs end

-- all parts and what stands after them, where no fault stands between
abbrev pub collected : {X Z : Type 0} → Run X Z → Result (List X × Z) Error
collected r = r.end >>= λ z. Ok (r.items, z)

-- the run of a reading of which each part takes a byte at least
abbrev pub run_of : {X : Type 0} → (Section → Reading (Option X)) → Section → Run X Section
run_of part s = run_within (λ t. next_of (part t)) (length s.bytes + 1) s

-- each part of a run in turn, and then what stands after it
abbrev pub fold_of : {X Z A : Type 0} → (A → X → Result A Error) → A → Run X Z
    → Result (A × Z) Error
fold_of f a r = fold_run f a r.items r.end

-- the parts as a list of answers, with the fault after them, if there is one
unfoldable pub listed_with : {X Z : Type 0} → List X → Result Z Error → List (Result X Error)
listed_with [] (Ok z) = []
listed_with [] (Err e) = Err e ∷ []
listed_with (x ∷ xs) end = Ok x ∷ listed_with xs end

-- those of a run
abbrev pub listed : {X Z : Type 0} → Run X Z → List (Result X Error)
listed r = listed_with r.items r.end
