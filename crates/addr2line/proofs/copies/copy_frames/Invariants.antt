use Rattle.addr2line.proofs.Common.{◌≡◌, ◌++◌, length, map, frames_left, copied_frame, as_owned_frame}
use Rattle.addr2line.proofs.copies.copy_frames.Given as goal

-- the copies, and the frames that are left, are all frames
abbrev pub invariant-loop-copies : goal.invariant-loop-copies
invariant-loop-copies g l =
    map as_owned_frame l.copies.items ++ map copied_frame (frames_left l.frames) ≡ map copied_frame (frames_left l.fn.frames)

abbrev pub decreases-loop-copies : goal.decreases-loop-copies
decreases-loop-copies g l = length (frames_left l.frames)
