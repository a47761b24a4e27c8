use Rattle.addr2line_units.proofs.Common.{◌≡◌, ◌++◌, drop, map, range_in}
use Rattle.addr2line_units.proofs.unit.copy_ranges.Given as goal

abbrev pub invariant-loop-arange : goal.invariant-loop-arange
invariant-loop-arange l = l.ranges.items ++ map range_in (drop l.arange-index l.listed) ≡ map range_in l.listed
