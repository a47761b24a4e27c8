use Rattle.addr2line.proofs.Common.{option_map, sym}
use Rattle.addr2line.proofs.AnsweredLemmas.{after_answer, read_context, reply_alone}
use Rattle.addr2line.proofs.context.Context.answer.Goals as goal

pub invariant_of-self : goal.invariant_of-self
invariant_of-self g c =
    let s = c.self.inside in
    read_context s.ranges s.units c.self.invariant c.answer.new.self c.answer.ensures.after.stays

pub returns : goal.returns
returns g c =
    let s = c.self.inside in
    let i = c.self.invariant in
    let n = c.args.number in
    let given = option_map (λ d. d.value) c.args.sections in
    let a = c.answer.ensures.after in
    record {
      after = rw (sym c.self.view_is) (record {
        after = after_answer s.ranges s.units i n given c.answer.result c.answer.new.self a;
        no_memory = λ none. reply_alone s.ranges s.units i n given c.answer.result (a.no_memory none);
      });
    }
