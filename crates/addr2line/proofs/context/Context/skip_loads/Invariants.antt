use Rattle.addr2line.proofs.Common.{length, loads_at}
use Rattle.addr2line.proofs.SkippedLemmas.{HasSkipped}
use Rattle.addr2line.specs.AfterLookups.{HasPassed}
use Rattle.addr2line.proofs.context.Context.skip_loads.Given as goal

abbrev pub invariant-loop-place : goal.invariant-loop-place
invariant-loop-place g l = HasSkipped l.fn.faults l.fn.probe l.fn.self l.self × HasPassed l.fn.faults l.self l.fn.probe l.place

abbrev pub decreases-loop-place : goal.decreases-loop-place
decreases-loop-place g l = length (loads_at l.self.sections l.self.answers l.fn.probe)
