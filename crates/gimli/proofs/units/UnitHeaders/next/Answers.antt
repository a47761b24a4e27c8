use Rattle.gimli.proofs.Common.{Err, ap, ◌∙◌, refl}
use Rattle.gimli.proofs.HeaderLemmas.{next_gives, next_refuses, given_alike, none_left}
use Rattle.gimli.proofs.UpToEnd.{skipped_all}
use Rattle.gimli.proofs.units.UnitHeaders.next.Goals as goal

pub returns-in-Ok-clause-gives : goal.returns-in-Ok-clause-gives
returns-in-Ok-clause-gives g c = rw (← c.self.view_is) (next_gives _ _ _ _ c.in-Ok.ensures.gives)

pub returns-in-Err-OutOfMemory-clause-gives : goal.returns-in-Err-OutOfMemory-clause-gives
returns-in-Err-OutOfMemory-clause-gives g c = rw (← c.self.view_is) (λ m. next_refuses _ _ _ (c.in-Err-OutOfMemory.ensures.gives (λ shares given _. m shares (given_alike _ _ ∙ given) refl)) ∙ ap Err c.in-Err-OutOfMemory.field-0-is)

pub returns-in_ok-skip-in-Err-clause-gives : goal.returns-in_ok-skip-in-Err-clause-gives
returns-in_ok-skip-in-Err-clause-gives g c = rw (← c.self.view_is) (λ m. next_refuses _ _ _ (c.in-Err.ensures.gives (λ shares given. m shares (given_alike _ _ ∙ given))))

pub returns-in_ok-skip-in-Err-clause-refused : goal.returns-in_ok-skip-in-Err-clause-refused
returns-in_ok-skip-in-Err-clause-refused g c = λ _. none_left _ _ (skipped_all _ _ _ _ c.len.ensures.gives c.in_ok-skip-in-Err.ensures.gives)
