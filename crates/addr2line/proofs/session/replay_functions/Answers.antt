use Rattle.addr2line.proofs.HistoryLemmas.{parse_leaves}
use Rattle.addr2line.proofs.session.replay_functions.Goals as goal

pub returns-clause-after : goal.returns-clause-after
returns-clause-after g c = parse_leaves _ c.parse_functions.result c.done_reply.result c.args.context.now c.parse_functions.new.self c.parse_functions.ensures.after.after c.done_reply.ensures.memory c.done_reply.ensures.refused
