use Rattle.addr2line_units.proofs.Common.{◌≡◌, length, ranges_left}
use Rattle.addr2line_units.proofs.index.UnitRangeIterIterator.next.Given as goal

abbrev pub invariant-loop-first : goal.invariant-loop-first
invariant-loop-first l = ranges_left l.self ≡ ranges_left l.fn.self

abbrev pub decreases-loop-first : goal.decreases-loop-first
decreases-loop-first l = length l.self.ranges.now
