use Rattle.addr2line_bin.proofs.Common.{refl, as_loader, frames_left}
use Rattle.addr2line_bin.proofs.LoaderLemmas.{gives_frames, same_after_loads}
use Rattle.addr2line_bin.proofs.lookups.LoaderOverLookups.find_frames.Goals as goal

pub returns : goal.returns
returns g c =
    let files = g.F.FileSource.files in
    let loader = c.args.self.now in (
      (
        refl,
        (λ _. tt),
        same_after_loads frames_left c.args.probe c.find_frames.result (as_loader files loader) (as_loader files c.find_frames.follows.lender-at-none) c.find_frames.follows.holds-at-none,
      ),
      record { gives = gives_frames frames_left (as_loader files loader) c.args.probe c.find_frames.result c.find_frames.ensures.gives; ends = tt },
    )
