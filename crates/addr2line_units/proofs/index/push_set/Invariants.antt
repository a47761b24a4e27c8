use Rattle.addr2line_units.proofs.Common.{◌≡◌, ◌++◌, length, map, nat_lt, true, set_aranges, unit_arange}
use Rattle.addr2line_units.proofs.index.push_set.Given as goal

abbrev pub invariant-loop-range : goal.invariant-loop-range
invariant-loop-range l = record {
  gives : l.aranges.items ++ map (unit_arange l.unit_offset) l.ranges ≡ l.fn.aranges.items ++ set_aranges l.fn.set;
  some : nat_lt 0 (length l.ranges) ≡ true → nat_lt 0 (length (set_aranges l.fn.set)) ≡ true;
}

abbrev pub decreases-loop-range : goal.decreases-loop-range
decreases-loop-range l = length l.ranges
