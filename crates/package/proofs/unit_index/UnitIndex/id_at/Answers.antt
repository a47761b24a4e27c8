use Rattle.package.proofs.Common.{arith}
use Rattle.package.proofs.IndexLemmas.{ids_table, table-length, table_read}
use Rattle.package.proofs.unit_index.UnitIndex.id_at.Goals as goal

pub long_at-requires : goal.long_at-requires
long_at-requires g c =
    let t = ids_table c.self.inside.header (g.R.Reader.section c.self.inside.section) c.args.self.now c.self.view_is in
    let n = table-length t in
    record { within = omega (arith, n, c.requires.within, c.self.invariant.0) }

pub returns : goal.returns
returns g c =
    let t = ids_table c.self.inside.header (g.R.Reader.section c.self.inside.section) c.args.self.now c.self.view_is in
    let n = table-length t in
    record { gives = table_read t c.args.slot _ c.long_at.result c.long_at.ensures.gives (omega arith) (omega (arith, n, c.requires.within)) }
