use Rattle.addr2line_lines.proofs.Common.{◌≡◌, ◌-◌}
use Rattle.addr2line_lines.specs.RangesLeft.{spans_of_sequence}
use Rattle.addr2line_lines.proofs.spans.SequenceSpans.next_span.Given as goal

abbrev pub invariant-loop-self : goal.invariant-loop-self
invariant-loop-self l = spans_of_sequence l.self ≡ spans_of_sequence l.fn.self

abbrev pub decreases-loop-self : goal.decreases-loop-self
decreases-loop-self l = l.self.until - l.self.place
