use Rattle.package.proofs.IndexLemmas.{version_is}
use Rattle.package.proofs.unit_index.UnitIndex.version.Goals as goal

pub returns : goal.returns
returns g c = record { gives = version_is c.self.inside.header (g.R.Reader.section c.self.inside.section) c.args.self.now c.self.view_is }
