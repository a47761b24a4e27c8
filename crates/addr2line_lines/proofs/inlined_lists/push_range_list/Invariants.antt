use Rattle.addr2line_lines.proofs.Common.{◌≡◌, ◌++◌, List, length, map, Ok, Range, ranges_at, inlined_address}
use Rattle.addr2line_lines.proofs.inlined_lists.push_range_list.Given as goal

abbrev pub invariant-loop-range : goal.invariant-loop-range
invariant-loop-range g l = record {
  read : List Range;
  list : ranges_at l.fn.unit.dwarf.now l.fn.unit.unit.now l.fn.offset ≡ Ok (map Ok read ++ l.list);
  added : l.ranges.elements ≡ l.fn.ranges.elements ++ map (inlined_address l.fn.depth l.fn.function) read;
}

abbrev pub decreases-loop-range : goal.decreases-loop-range
decreases-loop-range g l = length l.list
