use Rattle.addr2line_lines.proofs.Common.{◌≡◌, ◌+◌, ◌≤◌, ℕ, List, [], length, heap_items, FunctionAddress}
use Rattle.addr2line_lines.specs.Sweep.{IsBegunFrom, IsSweptBy}
use Rattle.addr2line_lines.proofs.segments.Sweep.close.Given as goal

abbrev pub invariant-loop-end : goal.invariant-loop-end
invariant-loop-end l = record {
  swept : (addresses : List FunctionAddress) (next : ℕ) → IsBegunFrom addresses next l.limit → IsSweptBy addresses next l.fn.self → IsSweptBy addresses next l.self;
  few : length l.self.segments.items + length (heap_items l.self.running) ≤ length l.fn.self.segments.items + length (heap_items l.fn.self.running);
  still : heap_items l.fn.self.running ≡ [] → heap_items l.self.running ≡ [];
}

abbrev pub decreases-loop-end : goal.decreases-loop-end
decreases-loop-end l = length (heap_items l.self.running)
