use Rattle.addr2line_units.proofs.Common.{length}
use Rattle.addr2line_units.proofs.IndexLeastBeginLemmas.{IsMade}
use Rattle.addr2line_units.proofs.index.add_least_begins.Given as goal

abbrev pub invariant-loop-unit_range : goal.invariant-loop-unit_range
invariant-loop-unit_range l = IsMade l.fn.ranges.items l.ranges.items l.indexed.items l.least_begin

abbrev pub decreases-loop-unit_range : goal.decreases-loop-unit_range
decreases-loop-unit_range l = length l.ranges.items
