use Rattle.addr2line_bin.proofs.Common.{◌∙◌, map, option_map, refl, sym, append-nil, arith, option_copied, frames_left}
use Rattle.serde_json.specs.View.{view}
use Rattle.addr2line_units.specs.FramesLent.{as_frame}
use Rattle.addr2line_bin.specs.FrameTexts.{next_and}
use Rattle.addr2line_bin.proofs.JsonLemmas.{frames_more}
use Rattle.addr2line_bin.proofs.json_text.frame_values.Goals as goal

pub loop-next-smaller : goal.loop-next-smaller
loop-next-smaller g c = rw (c.in-Some.is, c.next_frame-next.ensures.gives) (omega arith)

pub loop-next-preserved : goal.loop-next-preserved
loop-next-preserved g c =
    let see = as_frame g.R.Reader.section in
    let inv = rw (c.in-Some.is, c.next_frame-next.ensures.gives) at c.loop-next.invariant in
    frames_more c.args.style (option_copied c.args.symbol) (option_copied c.symbol_before.result) (see c.in-Some.frame) (next_and (option_map see c.next_frame-next.result) (frames_left c.next_frame-next.new.frames))
    c.loop-next.values.items c.push.new.self.items c.in_ok-value.value _ inv (c.symbol_before.ensures.gives (frames_left c.next_frame-next.new.frames)) c.in_ok-value.ensures.gives c.in_ok-push.ensures.items

pub returns : goal.returns
returns g c =
    let inv = rw c.in_default.is at c.loop-next.invariant in
    record { gives = sym (append-nil (map view c.loop-next.values.items)) ∙ inv }
