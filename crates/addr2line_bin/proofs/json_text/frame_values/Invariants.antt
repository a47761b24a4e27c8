use Rattle.addr2line_bin.proofs.Common.{◌≡◌, ◌++◌, map, option_map, length, option_copied, frames_left}
use Rattle.serde_json.specs.View.{view}
use Rattle.addr2line_units.specs.FramesLent.{as_frame}
use Rattle.addr2line_bin.specs.FrameTexts.{next_and}
use Rattle.addr2line_bin.specs.JsonTexts.{frames_data}
use Rattle.addr2line_bin.proofs.json_text.frame_values.Given as goal

-- the frames so far, and those that are left
abbrev pub invariant-loop-next : goal.invariant-loop-next
invariant-loop-next g l =
    let symbol = option_copied l.fn.symbol in
    let see = option_map (as_frame g.R.Reader.section) in
    map view l.values.items ++ frames_data l.fn.style symbol (next_and (see l.next) (frames_left l.frames))
    ≡ frames_data l.fn.style symbol (next_and (see l.fn.first) (frames_left l.fn.frames))

abbrev pub decreases-loop-next : goal.decreases-loop-next
decreases-loop-next g l = length (next_and (option_map (as_frame g.R.Reader.section) l.next) (frames_left l.frames))
