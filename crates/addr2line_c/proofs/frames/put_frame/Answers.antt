use Rattle.addr2line_c.proofs.Common.{◌++◌, subst, append_assoc, IsFilled, optional_text, zero_ended, location_file, frame_name}
use Rattle.addr2line_units.specs.FramesLent.{as_frame}
use Rattle.addr2line_c.proofs.frames.put_frame.Goals as goal

pub returns-clause-gives : goal.returns-clause-gives
returns-clause-gives g c before filled =
    let f = as_frame g.R.Reader.section c.args.frame.now in
    let name = optional_text (frame_name c.args.names f) in
    let new = c.put_location-location.new in
    subst (λ t. IsFilled new.used new.buffer (zero_ended t)) (append_assoc before name (optional_text (location_file f.location)))
    (c.put_location-location.ensures.gives (before ++ name) (c.in_ok-function.ensures.gives before filled))
