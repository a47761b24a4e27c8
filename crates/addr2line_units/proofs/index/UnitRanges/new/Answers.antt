use Rattle.addr2line_units.proofs.IndexLeastBeginLemmas.{indexed_is}
use Rattle.addr2line_units.proofs.index.UnitRanges.new.Goals as goal

pub invariant_of-result : goal.invariant_of-result
invariant_of-result c = rw c.of-listed.ensures (indexed_is c.args.ranges.items _ _ c.sort_ranges.ensures.gives c.in_ok-ranges.ensures.gives c.in_ok-ranges.ensures.bound)
