use Rattle.addr2line.proofs.HistoryLemmas.{parse_leaves}
use Rattle.addr2line.proofs.session.replay_details.Goals as goal

pub returns-clause-after : goal.returns-clause-after
returns-clause-after g c = parse_leaves _ c.parse_inlined_functions.result c.done_reply.result c.args.context.now c.parse_inlined_functions.new.self c.parse_inlined_functions.ensures.after.after c.done_reply.ensures.memory c.done_reply.ensures.refused
