use Rattle.gimli.proofs.Common.{sym, ◌∙◌, refl, shorter_by, next_pair_at}
use Rattle.gimli.proofs.ArangeLemmas.{range_given, pair_passed, pairs_end, none_after, pair_never, pair_takes}
use Rattle.gimli.proofs.aranges.ArangeEntryIter.next.Goals as goal

pub returns-in-Some-clause-gives : goal.returns-in-Some-clause-gives
returns-in-Some-clause-gives c =
    let step = rw c.in-Ok-Some.field-0-is at c.in-Ok-Some.ensures.gives in
    rw (← c.self.view_is, ← c.loop-pair.invariant.2, range_given _ _ _ _ _ step (sym c.range_of_pair.ensures.gives ∙ c.in-Some.is)) refl

pub returns-in-Some-clause-left : goal.returns-in-Some-clause-left
returns-in-Some-clause-left c =
    let step = rw c.in-Ok-Some.field-0-is at c.in-Ok-Some.ensures.gives in
    rw (← c.self.view_is, ← c.loop-pair.invariant.2, range_given _ _ _ _ _ step (sym c.range_of_pair.ensures.gives ∙ c.in-Some.is)) refl

pub loop-pair-smaller : goal.loop-pair-smaller
loop-pair-smaller c =
    let step = rw c.in-Ok-Some.field-0-is at c.in-Ok-Some.ensures.gives in
    shorter_by (next_pair_at _) (pair_takes _) _ _ _ step

pub loop-pair-preserved : goal.loop-pair-preserved
loop-pair-preserved c =
    let step = rw c.in-Ok-Some.field-0-is at c.in-Ok-Some.ensures.gives in
    (c.loop-pair.invariant.0, c.loop-pair.invariant.1, sym (pair_passed _ _ _ _ step (sym c.range_of_pair.ensures.gives ∙ c.in_default.is)) ∙ c.loop-pair.invariant.2)

pub returns-in-Ok-None-clause-gives : goal.returns-in-Ok-None-clause-gives
returns-in-Ok-None-clause-gives c =
    let step = rw c.in-Ok-None.field-0-is at c.in-Ok-None.ensures.gives in
    rw (← c.self.view_is, ← c.loop-pair.invariant.2, pairs_end _ _ _ step) refl

pub returns-in-Ok-None-clause-left : goal.returns-in-Ok-None-clause-left
returns-in-Ok-None-clause-left c =
    let step = rw c.in-Ok-None.field-0-is at c.in-Ok-None.ensures.gives in
    rw (← c.self.view_is, ← c.loop-pair.invariant.2, pairs_end _ _ _ step) (none_after _ _ _ step)

pub returns-in-Err-clause-gives : goal.returns-in-Err-clause-gives
returns-in-Err-clause-gives c = absurd (pair_never _ _ _ c.loop-pair.invariant.0 c.in-Err.ensures.gives)

pub returns-in-Err-clause-left : goal.returns-in-Err-clause-left
returns-in-Err-clause-left c = absurd (pair_never _ _ _ c.loop-pair.invariant.0 c.in-Err.ensures.gives)
