use Rattle.addr2line_units.proofs.Common.{◌≡◌, ◌++◌, drop, map, range_of_unit}
use Rattle.addr2line_units.proofs.units.push_ranges.Given as goal

abbrev pub invariant-loop-range : goal.invariant-loop-range
invariant-loop-range l = l.unit_ranges.items ++ map (range_of_unit l.unit) (drop l.range-index l.ranges) ≡ l.fn.unit_ranges.items ++ map (range_of_unit l.unit) l.ranges
