use Rattle.addr2line.proofs.Common.{subst, sym, ExactlyUnlessOom}
use Rattle.addr2line.proofs.AnsweredLemmas.{read_context}
use Rattle.addr2line.proofs.LoadLemmas.{after_parse, all_known, all_reached, parse_is, parsed_alone}
use Rattle.addr2line.proofs.context.Context.read_functions.Goals as goal

pub invariant_of-self : goal.invariant_of-self
invariant_of-self g c =
    let s = c.self.inside in
    read_context s.ranges s.units c.self.invariant c.read_functions.new.self c.read_functions.ensures.after.stays

pub returns-clause-gives : goal.returns-clause-gives
returns-clause-gives g c =
    let s = c.self.inside in
    rw (sym c.self.view_is) (subst (ExactlyUnlessOom (λ x. x) c.read_functions.result) (sym (parse_is s.ranges s.units c.self.invariant c.args.depth)) c.read_functions.ensures.gives)

pub returns-clause-after : goal.returns-clause-after
returns-clause-after g c =
    let s = c.self.inside in
    let i = c.self.invariant in
    let e = c.read_functions.ensures in
    let r = c.read_functions.result in
    let now = c.read_functions.new.self in
    rw (sym c.self.view_is) (record {
      after = after_parse s.ranges s.units i c.args.depth r now e.after;
      no_memory = parsed_alone s.ranges s.units i c.args.depth r now e.after;
      known = all_known s.ranges s.units i c.args.depth r now e.after;
      reached = all_reached s.ranges s.units i c.args.depth r now e.after;
    })
