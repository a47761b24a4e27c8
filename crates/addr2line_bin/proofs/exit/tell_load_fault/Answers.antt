use Rattle.addr2line_bin.proofs.Common.{has_fault}
use Rattle.addr2line_bin.proofs.Parts.{sends_on}
use Rattle.addr2line_bin.proofs.exit.tell_load_fault.Goals as goal

pub returns-clause-after : goal.returns-clause-after
returns-clause-after g c =
    let s = g.E.Stream.state in
    sends_on (s c.args.err.now).contents _ _ (has_fault (s c.args.err.now)) (has_fault (s c.tell_both.new.err)) _ _ _ c.tell_both.ensures.gives (rw c.text.ensures.gives at c.tell_both-2.ensures.gives)
