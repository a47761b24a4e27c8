use Rattle.package.proofs.Common.{arith}
use Rattle.package.proofs.IndexLemmas.{rows_table, table-length, table_read}
use Rattle.package.proofs.unit_index.UnitIndex.row_at.Goals as goal

pub word_at-requires : goal.word_at-requires
word_at-requires g c =
    let t = rows_table c.self.inside.header (g.R.Reader.section c.self.inside.section) c.args.self.now c.self.view_is in
    let n = table-length t in
    record { within = omega (arith, n, c.requires.within, c.self.invariant.0, c.rows_place.ensures.gives) }

pub returns : goal.returns
returns g c =
    let t = rows_table c.self.inside.header (g.R.Reader.section c.self.inside.section) c.args.self.now c.self.view_is in
    let n = table-length t in
    record { gives = table_read t c.args.slot _ c.word_at.result c.word_at.ensures.gives (omega (arith, c.rows_place.ensures.gives)) (omega (arith, n, c.requires.within)) }
