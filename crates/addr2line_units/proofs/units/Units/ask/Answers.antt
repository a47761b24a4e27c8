use Rattle.addr2line_units.proofs.Common.{subst, sym, ExactlyUnlessOom, stop_at}
use Rattle.addr2line_units.proofs.units.Units.ask.Goals as goal

pub returns-in-Frames-clause-gives : goal.returns-in-Frames-clause-gives
returns-in-Frames-clause-gives g c =
    subst (λ asks. ExactlyUnlessOom (λ _. c.ask_frames.new.self.stop) c.ask_frames.result (stop_at asks c.args.probe c.args.self.now c.args.number)) (sym c.in-Frames.is) c.ask_frames.ensures.gives
