-- The first item of a run as a list of answers (on specs/Run.antt and specs/Yields.antt).
use Rattle.gimli_read.proofs.Common.{◌≡◌, List, [], ◌∷◌, Option, Some, None, Result, Ok, Err, refl, ap, ◌∙◌, Error, Section, Reading, ◌>>=◌, next_of, continued, run_of, listed, listed_with}
use Rattle.gimli_read.specs.Yields.{next_given}
use Rattle.gimli_read.proofs.Shorter.{TakesBytes}
use Rattle.gimli_read.proofs.RunLemmas.{run_of-step}

-- what a reading of a part gives of a run, as a list of answers
abbrev given_by : {X : Type 0} → (Section → Reading (Option X)) → Reading (Option X) → Result (Option X × List (Result X Error)) Error
given_by part r = r >>= λ x. Ok (x.0, elim x.0 [ None ↦ [] | Some y ↦ listed (run_of part x.1) ])

pub next_listed : {X : Type 0} (part : Section → Reading (Option X)) → TakesBytes part → (s : Section) → next_given (listed (run_of part s)) ≡ given_by part (part s)
unfolding listed_with
next_listed {X} part takes s = ap (λ r. next_given (listed r)) (run_of-step part takes s) ∙ by_cases (part s)
  where
    by_cases : (r : Reading (Option X)) → next_given (listed (continued (run_of part) (next_of r))) ≡ given_by part r
    by_cases (Err e) = refl
    by_cases (Ok (None, t)) = refl
    by_cases (Ok (Some x, t)) = refl

pub listed_ends : {X : Type 0} (part : Section → Reading (Option X)) → TakesBytes part → (s t : Section) → part s ≡ Ok (None, t) → listed (run_of part s) ≡ []
unfolding listed_with
listed_ends part takes s t e = ap listed (run_of-step part takes s ∙ ap (λ r. continued (run_of part) (next_of r)) e)

pub listed_more : {X : Type 0} (part : Section → Reading (Option X)) → TakesBytes part → (s t : Section) (x : X) → part s ≡ Ok (Some x, t) → listed (run_of part s) ≡ Ok x ∷ listed (run_of part t)
unfolding listed_with
listed_more part takes s t x e = ap listed (run_of-step part takes s ∙ ap (λ r. continued (run_of part) (next_of r)) e)

pub listed_fault : {X : Type 0} (part : Section → Reading (Option X)) → TakesBytes part → (s : Section) (d : Error) → part s ≡ Err d → listed (run_of part s) ≡ Err d ∷ []
unfolding listed_with
listed_fault part takes s d e = ap listed (run_of-step part takes s ∙ ap (λ r. continued (run_of part) (next_of r)) e)
