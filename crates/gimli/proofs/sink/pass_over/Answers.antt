use Rattle.gimli.proofs.Common.{ap, sym, ◌∙◌, err_from_is_err_and}
use Rattle.gimli.proofs.SinkLemmas.{pass_next, rest-end}
use Rattle.gimli.proofs.sink.pass_over.Goals as goal

pub returns-in_err-skip_attribute-clause-gives : goal.returns-in_err-skip_attribute-clause-gives
returns-in_err-skip_attribute-clause-gives g c =
    let p = err_from_is_err_and c.from_residual.result c.from_residual.ensures.1 in
    let i = c.loop-specification.invariant in
    let same = ap (λ v. v.encoding) i.unit in
    let fault = rw (same, c.specification-item.is) at c.in_err-skip_attribute.ensures.gives in
    rw (p.1, p.2) (sym i.gives ∙ pass_next _ _ _ _ _ _ c.loop-specification-test.true fault)

pub loop-specification-preserved : goal.loop-specification-preserved
loop-specification-preserved g c =
    let i = c.loop-specification.invariant in
    let same = ap (λ v. v.encoding) i.unit in
    let passed = rw (same, c.specification-item.is) at c.in_ok-skip_attribute.ensures.gives in
    record {
      gives = sym (pass_next _ _ _ _ _ _ c.loop-specification-test.true passed) ∙ i.gives;
      unit = c.in_ok-skip_attribute.ensures.unit ∙ i.unit;
      depth = c.in_ok-skip_attribute.ensures.depth ∙ i.depth;
    }

pub returns-clause-gives : goal.returns-clause-gives
returns-clause-gives g c =
    let i = c.loop-specification.invariant in
    sym i.gives ∙ rest-end _ _ _ _ c.loop-specification-test.false
