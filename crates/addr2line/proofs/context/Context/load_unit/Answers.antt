use Rattle.addr2line.proofs.Common.{option_map, subst, sym, ◌∙◌, ExactlyUnlessOom}
use Rattle.addr2line.proofs.AnsweredLemmas.{read_context}
use Rattle.addr2line.proofs.LoadLemmas.{after_load, load_is, not_open_is}
use Rattle.addr2line.proofs.context.Context.load_unit.Goals as goal

pub invariant_of-self : goal.invariant_of-self
invariant_of-self g c =
    let s = c.self.inside in
    read_context s.ranges s.units c.self.invariant c.load_unit.new.self c.load_unit.ensures.after.stays

pub returns-clause-gives : goal.returns-clause-gives
returns-clause-gives g c =
    let s = c.self.inside in
    rw (sym c.self.view_is) (subst (ExactlyUnlessOom (λ x. x) c.load_unit.result) (sym (load_is s.ranges s.units c.self.invariant c.args.unit.number (option_map (λ x. x.value) c.args.sections))) c.load_unit.ensures.gives)

pub returns-clause-after : goal.returns-clause-after
returns-clause-after g c =
    let s = c.self.inside in
    let i = c.self.invariant in
    let n = c.args.unit.number in
    let given = option_map (λ x. x.value) c.args.sections in
    let a = c.load_unit.ensures.after in
    rw (sym c.self.view_is) (record {
      after = after_load s.ranges s.units i n given c.load_unit.result c.load_unit.new.self a;
      not_open = λ h. a.not_open (not_open_is s.ranges s.units i n h) ∙ sym (load_is s.ranges s.units i n given);
      exact = λ takes. a.exact takes ∙ sym (load_is s.ranges s.units i n given);
    })
