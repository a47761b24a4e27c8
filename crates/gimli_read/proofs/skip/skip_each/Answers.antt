use Rattle.gimli_read.proofs.Common.{sym, ◌∙◌, err_from_is_err_and}
use Rattle.gimli_read.proofs.SizeLemmas.{rests_step, rests_fault, rests_end}
use Rattle.gimli_read.proofs.SkipLemmas.{skipped_exactly}
use Rattle.gimli_read.proofs.skip.skip_each.Goals as goal

pub returns-in_err-run : goal.returns-in_err-run
returns-in_err-run c =
    let p = err_from_is_err_and c.from_residual.result c.from_residual.ensures.1 in
    let fault = rw c.specification-item.is at c.in_err-run.ensures.gives in
    record { gives = rw (p.1, p.2) (sym c.loop-specification.invariant ∙ rests_fault _ _ _ _ _ _ _ c.loop-specification-test.true fault) }

pub loop-specification-preserved : goal.loop-specification-preserved
loop-specification-preserved c =
    let step = rw c.specification-item.is at c.in_ok-run.ensures.gives in
    sym (rests_step _ _ _ _ _ _ _ _ c.loop-specification-test.true step) ∙ c.loop-specification.invariant

pub returns : goal.returns
returns c = record { gives = skipped_exactly _ _ _ _ (sym c.loop-specification.invariant ∙ rests_end _ _ _ _ _ c.loop-specification-test.false) c.skip.ensures.gives }
