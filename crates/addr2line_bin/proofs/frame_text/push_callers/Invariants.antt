use Rattle.addr2line_bin.proofs.Common.{◌≡◌, ◌++◌, option_map, string_bytes, length, option_copied, frames_left}
use Rattle.addr2line_units.specs.FramesLent.{as_frame}
use Rattle.addr2line_bin.specs.FrameTexts.{callers_text, next_and}
use Rattle.addr2line_bin.proofs.frame_text.push_callers.Given as goal

-- what is added, and the frames that are left
abbrev pub invariant-loop-next : goal.invariant-loop-next
invariant-loop-next g l =
    let symbol = option_copied l.fn.symbol in
    let see = option_map (as_frame g.R.Reader.section) in
    string_bytes l.text ++ callers_text l.fn.style symbol (next_and (see l.next) (frames_left l.frames))
    ≡ string_bytes l.fn.text ++ callers_text l.fn.style symbol (next_and (see l.fn.first) (frames_left l.fn.frames))

abbrev pub decreases-loop-next : goal.decreases-loop-next
decreases-loop-next g l = length (next_and (option_map (as_frame g.R.Reader.section) l.next) (frames_left l.frames))
