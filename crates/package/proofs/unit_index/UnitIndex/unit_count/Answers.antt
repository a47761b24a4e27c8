use Rattle.package.proofs.Common.{sym}
use Rattle.package.proofs.IndexLemmas.{offsets_table, sizes_table, rows_count}
use Rattle.package.proofs.unit_index.UnitIndex.unit_count.Goals as goal

pub returns : goal.returns
returns g c =
    let h = c.self.inside.header in
    let s = g.R.Reader.section c.self.inside.section in
    record {
      gives = sym (rows_count (offsets_table h s c.args.self.now c.self.view_is));
      rows = sym (rows_count (sizes_table h s c.args.self.now c.self.view_is));
    }
