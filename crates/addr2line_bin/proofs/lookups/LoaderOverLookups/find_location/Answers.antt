use Rattle.addr2line_bin.proofs.Common.{refl, as_loader}
use Rattle.addr2line_lines.specs.LentLocation.{as_location}
use Rattle.addr2line_bin.proofs.LoaderLemmas.{finds, same_after_location}
use Rattle.addr2line_bin.proofs.lookups.LoaderOverLookups.find_location.Goals as goal

pub returns : goal.returns
returns g c =
    let files = g.F.FileSource.files in (
      (refl, (λ _. tt), same_after_location c.args.probe c.find_location.result (as_loader files c.args.self.now) (as_loader files c.find_location.follows.lender-at-none) c.find_location.follows.holds-at-none),
      record { gives = finds as_location c.args.self.now.context c.args.probe c.find_location.result c.find_location.ensures.gives; ends = tt },
    )
