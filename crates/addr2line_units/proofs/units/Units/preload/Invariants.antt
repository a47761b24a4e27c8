use Rattle.addr2line_units.proofs.Common.{length, ranges_left}
use Rattle.addr2line_units.proofs.LoadsListingLemmas.{ListedSoFar}
use Rattle.addr2line_units.proofs.units.Units.preload.Given as goal

abbrev pub invariant-loop-range : goal.invariant-loop-range
invariant-loop-range g l = ListedSoFar (ranges_left l.fn.ranges) (ranges_left l.ranges) l.marks.keys l.loads.items l.fn.self l.self

abbrev pub decreases-loop-range : goal.decreases-loop-range
decreases-loop-range g l = length (ranges_left l.ranges)
