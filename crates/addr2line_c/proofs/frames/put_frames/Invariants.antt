use Rattle.addr2line_c.proofs.Common.{◌≡◌, length, frames_left, frame_texts, written_frame}
use Rattle.addr2line_c.proofs.SequenceLemmas.{WroteSome}
use Rattle.addr2line_c.proofs.frames.put_frames.Given as goal

-- the frames so far are written, and the others are left
abbrev pub invariant-loop-frame : goal.invariant-loop-frame
invariant-loop-frame g l = record {
  so : WroteSome (frame_texts l.fn.names) (written_frame l.fn.names) (frames_left l.fn.frames) (frames_left l.frames) l.count l.out l.needed l.buffer;
  out : length l.out ≡ length l.fn.out;
  buffer : length l.buffer ≡ length l.fn.buffer;
}

abbrev pub decreases-loop-frame : goal.decreases-loop-frame
decreases-loop-frame g l = length (frames_left l.frames)
