use Rattle.std.proofs.Common.{length}
use Rattle.addr2line_units.specs.FramesLeft.{frames_left}
use Rattle.addr2line_uses.proofs.frames.print_each.Given as goal

abbrev pub decreases-loop-frame : goal.decreases-loop-frame
decreases-loop-frame g l = length (frames_left l.frames)
