use Rattle.gimli_line.proofs.Common.{◌∙◌, sym, arith, err_from_is_err_and}
use Rattle.gimli_line.proofs.Numbers.{skipped_fault, skipped_more, skipped_none}
use Rattle.gimli_line.proofs.standard.skip_numbers.Goals as goal

pub returns-in_err-read_uleb128 : goal.returns-in_err-read_uleb128
returns-in_err-read_uleb128 g c = let p = err_from_is_err_and c.from_residual.result c.from_residual.ensures.1 in
    rw (p.1, p.2) (record { gives = sym c.loop.invariant ∙ skipped_fault _ _ _ (omega arith) c.in_err-read_uleb128.ensures.gives })

pub loop-preserved : goal.loop-preserved
loop-preserved g c = sym (skipped_more _ _ _ _ _ (omega arith) c.in_ok-read_uleb128.ensures.gives) ∙ c.loop.invariant

pub returns : goal.returns
returns g c = record { gives = sym c.loop.invariant ∙ skipped_none _ _ (omega arith) }
