use Rattle.addr2line_lines.proofs.Common.{◌≡◌, ◌++◌, length, map, Ok, ranges_at}
use Rattle.addr2line_lines.proofs.function.read_range_list.Given as goal

abbrev pub invariant-loop-ranges : goal.invariant-loop-ranges
invariant-loop-ranges g l = ranges_at l.fn.unit.dwarf.now l.fn.unit.unit.now l.fn.offset ≡ Ok (map Ok l.ranges.items ++ l.list)

abbrev pub decreases-loop-ranges : goal.decreases-loop-ranges
decreases-loop-ranges g l = length l.list
