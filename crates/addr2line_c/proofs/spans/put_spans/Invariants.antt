use Rattle.addr2line_c.proofs.Common.{◌≡◌, ◌≤◌, ◌+◌, length, locations_left, texts_of_span, written_span}
use Rattle.addr2line_c.proofs.SequenceLemmas.{WroteSome}
use Rattle.addr2line_c.proofs.spans.put_spans.Given as goal

-- the rows so far are written, which had room, and the others are left
abbrev pub invariant-loop-count : goal.invariant-loop-count
invariant-loop-count g l = record {
  so : WroteSome texts_of_span written_span (locations_left l.fn.spans) (locations_left l.spans) l.count l.out l.needed l.buffer;
  room : length (locations_left l.fn.spans) ≤ length (locations_left l.spans) + length l.fn.out;
  out : length l.out ≡ length l.fn.out;
  buffer : length l.buffer ≡ length l.fn.buffer;
}

abbrev pub decreases-loop-count : goal.decreases-loop-count
decreases-loop-count g l = length (locations_left l.spans)
