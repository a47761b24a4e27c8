use Rattle.addr2line_lines.proofs.Common.{◌≡◌, ◌-◌, length}
use Rattle.addr2line_lines.specs.RangesLeft.{located_rows_left}
use Rattle.addr2line_lines.proofs.range.LineLocationRangeIterIterator.next.Given as goal

abbrev pub invariant-loop-span : goal.invariant-loop-span
invariant-loop-span l = located_rows_left l.self ≡ located_rows_left l.fn.self

abbrev pub decreases-loop-span : goal.decreases-loop-span
decreases-loop-span l = length l.self.packed.now.sequences - l.self.next
