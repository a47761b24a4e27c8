use Rattle.addr2line.proofs.Common.{sym, ◌∙◌}
use Rattle.addr2line.proofs.AnsweredLemmas.{read_context}
use Rattle.addr2line.proofs.LoadLemmas.{after_forget, forget_is}
use Rattle.addr2line.proofs.context.Context.forget.Goals as goal

pub invariant_of-self : goal.invariant_of-self
invariant_of-self g c =
    let s = c.self.inside in
    read_context s.ranges s.units c.self.invariant c.forget.new.self c.forget.ensures.after.stays

pub returns-clause-gives : goal.returns-clause-gives
returns-clause-gives g c =
    let s = c.self.inside in
    rw (sym c.self.view_is) (c.forget.ensures.gives ∙ sym (forget_is s.ranges s.units c.self.invariant c.args.unit.number))

pub returns-clause-after : goal.returns-clause-after
returns-clause-after g c =
    let s = c.self.inside in
    rw (sym c.self.view_is) (after_forget s.ranges s.units c.self.invariant c.args.unit.number c.forget.new.self c.forget.ensures.after)
