use Rattle.gimli.proofs.ArangeLemmas.{set_gives, set_refuses, no_sets}
use Rattle.gimli.proofs.UpToEnd.{skipped_all}
use Rattle.gimli.proofs.aranges.ArangeHeaderIter.next.Goals as goal

pub returns-in-Ok-clause-gives : goal.returns-in-Ok-clause-gives
returns-in-Ok-clause-gives c = rw (← c.self.view_is) (set_gives _ _ _ c.in-Ok.ensures.gives)

pub returns-in_ok-skip-in-Err-clause-gives : goal.returns-in_ok-skip-in-Err-clause-gives
returns-in_ok-skip-in-Err-clause-gives c = rw (← c.self.view_is) (set_refuses _ _ c.in-Err.ensures.gives)

pub returns-in_ok-skip-in-Err-clause-refused : goal.returns-in_ok-skip-in-Err-clause-refused
returns-in_ok-skip-in-Err-clause-refused c = no_sets _ (skipped_all _ _ _ _ c.len.ensures.gives c.in_ok-skip-in-Err.ensures.gives)
