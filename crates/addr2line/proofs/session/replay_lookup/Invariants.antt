use Rattle.addr2line.proofs.Common.{◌≡◌, map, Skip, Stop, as_given}
use Rattle.addr2line.proofs.ReplayLemmas.{HasAnswered}
use Rattle.addr2line.proofs.session.replay_lookup.Given as goal

-- the lookup that waits was given the answers so far
abbrev pub invariant-loop-answer : goal.invariant-loop-answer
invariant-loop-answer g l = record {
  name : l.next.ctx.ghost_name ≡ l.initial.next.ctx.ghost_name;
  probe : l.next.probe ≡ l.fn.probe;
  token : l.next.load.unit ≡ l.next.number;
  so : HasAnswered Stop l.fn.probe l.fn.context (map as_given l.answers) l.answer-index l.next.number l.next.ctx.now;
}

abbrev pub invariant-loop-answer-2 : goal.invariant-loop-answer-2
invariant-loop-answer-2 g l = record {
  name : l.next.ctx.ghost_name ≡ l.initial.next.ctx.ghost_name;
  probe : l.next.probe ≡ l.fn.probe;
  token : l.next.load.unit ≡ l.next.number;
  so : HasAnswered Skip l.fn.probe l.fn.context (map as_given l.answers) l.answer-index l.next.number l.next.ctx.now;
}
