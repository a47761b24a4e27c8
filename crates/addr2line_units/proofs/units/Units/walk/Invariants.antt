use Rattle.addr2line_units.proofs.Common.{length, ranges_left}
use Rattle.addr2line_units.proofs.FramesWalkedLemmas.{Walked}
use Rattle.addr2line_units.proofs.units.Units.walk.Given as goal

abbrev pub invariant-loop-range : goal.invariant-loop-range
invariant-loop-range g l = Walked l.asks l.probe (ranges_left l.fn.ranges) (ranges_left l.ranges) l.fn.self l.self

abbrev pub decreases-loop-range : goal.decreases-loop-range
decreases-loop-range g l = length (ranges_left l.ranges)
