use Rattle.gimli.proofs.Common.{refl, sym, ap, ◌∙◌, err_from_is_err_and, ◌>>=◌, or_fault}
use Rattle.gimli.proofs.SinkLemmas.{taken, taken_passes}
use Rattle.gimli.proofs.WantedLemmas.{rest_passes, wanted_end, wanted_next, wanted_passed}
use Rattle.gimli.proofs.sink.take_attributes.Goals as goal

pub returns-in_err-pass_between-clause-gives : goal.returns-in_err-pass_between-clause-gives
returns-in_err-pass_between-clause-gives g c =
    let p = err_from_is_err_and c.from_residual.result c.from_residual.ensures.1 in
    let i = c.loop-next.invariant in
    let fault = rw (ap (λ v. v.encoding) i.unit) at c.in_err-pass_between.ensures.gives in
    rw (p.1, p.2) (λ _. sym i.gives ∙ wanted_passed (taken_passes _ _ _ c.requires.others i.given) _ _ _ c.in-Some.ensures.gives fault)

pub returns-in_err-fault-clause-gives : goal.returns-in_err-fault-clause-gives
returns-in_err-fault-clause-gives g c =
    let p = err_from_is_err_and c.from_residual-in_err-fault.result c.from_residual-in_err-fault.ensures.1 in
    let i = c.loop-next.invariant in
    let passed = rw (ap (λ v. v.encoding) i.unit) at c.in_ok-pass_between.ensures.gives in
    let fault = rw (ap (λ v. v.encoding) (c.in_ok-pass_between.ensures.unit ∙ i.unit)) at c.in_err-fault.ensures.gives in
    rw (p.1, p.2) (λ ne. sym i.gives ∙ wanted_next (taken_passes _ _ _ c.requires.others i.given) _ _ _ c.in-Some.ensures.gives passed (fault ne))

pub loop-next-preserved : goal.loop-next-preserved
loop-next-preserved g c =
    let i = c.loop-next.invariant in
    let more = g.S.AttributeSink.with_attribute c.args.sink.now in
    let passed = rw (ap (λ v. v.encoding) i.unit) at c.in_ok-pass_between.ensures.gives in
    let next = rw (ap (λ v. v.encoding) (c.in_ok-pass_between.ensures.unit ∙ i.unit)) at c.in_ok-fault.ensures.gives in
    record {
      given = i.given >>= λ y. more y next.attribute;
      is = taken g.R.Reader.shares g.S.AttributeSink.said (λ y. more y next.attribute) (or_fault c.loop-next.found c.loop-next.fault) (or_fault c.read_next.new.found c.in_ok-fault.fault) i.given i.is next.taken;
      gives = sym (wanted_next (taken_passes _ _ _ c.requires.others i.given) _ _ _ c.in-Some.ensures.gives passed next.is) ∙ i.gives;
      left = sym (wanted_next (rest_passes _ g.S.Names.WantedNames.wanted) _ _ _ c.in-Some.ensures.gives passed next.is) ∙ i.left;
      unit = c.in_ok-fault.ensures.unit ∙ c.in_ok-pass_between.ensures.unit ∙ i.unit;
      depth = c.in_ok-fault.ensures.depth ∙ c.in_ok-pass_between.ensures.depth ∙ i.depth;
      after = c.requires.growth.on _ _ _ i.after c.in_ok-fault.ensures.after;
    }

pub returns-in_err-pass_between-2-clause-gives : goal.returns-in_err-pass_between-2-clause-gives
returns-in_err-pass_between-2-clause-gives g c =
    let p = err_from_is_err_and c.from_residual-in_err-pass_between-2.result c.from_residual-in_err-pass_between-2.ensures.1 in
    let i = c.loop-next.invariant in
    let fault = rw (ap (λ v. v.encoding) i.unit) at c.in_err-pass_between-2.ensures.gives in
    rw (p.1, p.2) (λ _. sym i.gives ∙ wanted_end (taken_passes _ _ _ c.requires.others i.given) (c.in_default.ensures.none refl) fault)

pub returns-in-Some-fault-clause-gives : goal.returns-in-Some-fault-clause-gives
returns-in-Some-fault-clause-gives g c =
    let i = c.loop-next.invariant in
    let passed = rw (ap (λ v. v.encoding) i.unit) at c.in_ok-pass_between-2.ensures.gives in
    let is = rw c.in-Some-fault.is at i.is in
    λ ne. sym i.gives ∙ wanted_end (taken_passes _ _ _ c.requires.others i.given) (c.in_default.ensures.none refl) passed ∙ is ne

pub returns-in-None-clause-gives : goal.returns-in-None-clause-gives
returns-in-None-clause-gives g c =
    let i = c.loop-next.invariant in
    let passed = rw (ap (λ v. v.encoding) i.unit) at c.in_ok-pass_between-2.ensures.gives in
    let is = rw c.in-None.is at i.is in
    sym i.gives ∙ wanted_end (taken_passes _ _ _ c.requires.others i.given) (c.in_default.ensures.none refl) passed ∙ is
