use Rattle.addr2line.proofs.Common.{sym}
use Rattle.addr2line.proofs.LookupLemmas.{load_told}
use Rattle.addr2line.proofs.context.Context.load_of.Goals as goal

pub returns-clause-gives : goal.returns-clause-gives
returns-clause-gives g c =
    let s = c.self.inside in
    rw (sym c.self.view_is) (load_told s.ranges s.units c.self.invariant c.args.number c.load.result c.load.ensures.gives)
