use Rattle.package.proofs.Common.{sym}
use Rattle.package.proofs.IndexLemmas.{columns_table, table-length}
use Rattle.package.proofs.unit_index.UnitIndex.section_count.Goals as goal

pub returns : goal.returns
returns g c = record { gives = sym (table-length (columns_table c.self.inside.header (g.R.Reader.section c.self.inside.section) c.args.self.now c.self.view_is)) }
