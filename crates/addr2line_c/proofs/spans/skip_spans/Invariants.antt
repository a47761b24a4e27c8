use Rattle.addr2line_c.proofs.Common.{◌≡◌, drop, locations_left}
use Rattle.addr2line_c.proofs.spans.skip_spans.Given as goal

-- what is to be passed over yet leaves the same
abbrev pub invariant-loop-left : goal.invariant-loop-left
invariant-loop-left g l =
    drop l.left (locations_left l.spans) ≡ drop l.fn.count (locations_left l.fn.spans)

abbrev pub decreases-loop-left : goal.decreases-loop-left
decreases-loop-left g l = l.left
