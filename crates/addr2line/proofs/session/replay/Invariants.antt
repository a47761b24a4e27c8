use Rattle.addr2line.proofs.Common.{drop, map, as_call, as_reply}
use Rattle.addr2line.proofs.RunLemmas.{HasMade}
use Rattle.addr2line.proofs.session.replay.Given as goal

-- the calls so far were made
abbrev pub invariant-loop-call : goal.invariant-loop-call
invariant-loop-call g l = HasMade l.fn.context (map as_call l.calls) (drop l.call-index (map as_call l.calls)) (map as_reply l.replies.items) l.context
