use Rattle.addr2line_lines.proofs.Common.{◌+◌, ◌*◌, ◌≤◌, length, heap_items}
use Rattle.addr2line_lines.specs.Sweep.{IsSweptBy}
use Rattle.addr2line_lines.proofs.segments.cut.Given as goal

abbrev pub invariant-loop-address : goal.invariant-loop-address
invariant-loop-address l = record {
  swept : IsSweptBy l.addresses l.address-index l.sweep;
  few : length l.sweep.segments.items + length (heap_items l.sweep.running) ≤ 2 * l.address-index;
}
