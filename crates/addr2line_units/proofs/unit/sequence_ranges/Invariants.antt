use Rattle.addr2line_units.proofs.Common.{◌≡◌, ◌++◌, length, cached_ranges}
use Rattle.addr2line_units.proofs.unit.sequence_ranges.Given as goal

abbrev pub invariant-loop-range : goal.invariant-loop-range
invariant-loop-range l = l.ranges.items ++ l.sequences ≡ cached_ranges l.fn.lines

abbrev pub decreases-loop-range : goal.decreases-loop-range
decreases-loop-range l = length l.sequences
