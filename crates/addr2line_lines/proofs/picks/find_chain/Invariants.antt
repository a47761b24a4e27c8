use Rattle.addr2line_lines.proofs.Common.{◌≡◌, ◌++◌, length, map, ◌-◌, ◌≤◌, places_chain, places_within}
use Rattle.addr2line_lines.proofs.picks.find_chain.Given as goal

abbrev pub invariant-loop-depth : goal.invariant-loop-depth
invariant-loop-depth g l = record {
  upto : l.depth-end ≡ length l.ranges;
  count : length l.chain.items ≡ l.depth;
  room : 16 ≤ l.chain.capacity;
  found : l.chain.items ++ places_within (length (map (g.S.Stored.whole l.upper) l.ranges) - l.depth) l.probe l.depth (map (g.S.Stored.whole l.upper) l.ranges) ≡ places_chain l.probe (map (g.S.Stored.whole l.upper) l.ranges);
}
