use Rattle.addr2line_bin.proofs.Common.{refl, as_loader}
use Rattle.addr2line_bin.proofs.LoaderLemmas.{same_after_range}
use Rattle.addr2line_bin.proofs.lookups.LoaderOverLookups.find_location_range.Goals as goal

pub returns : goal.returns
returns g c =
    let files = g.F.FileSource.files in (
      (refl, (λ _. tt), same_after_range c.args.low c.args.high c.find_location_range.result (as_loader files c.args.self.now) (as_loader files c.find_location_range.follows.lender-at-none) c.find_location_range.follows.holds-at-none),
      record { gives = c.find_location_range.ensures.gives.found; refused = c.find_location_range.ensures.gives.refused; ends = tt },
    )
