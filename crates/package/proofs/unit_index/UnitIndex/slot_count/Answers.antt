use Rattle.package.proofs.Common.{sym}
use Rattle.package.proofs.IndexLemmas.{ids_table, rows_table, table-length}
use Rattle.package.proofs.unit_index.UnitIndex.slot_count.Goals as goal

pub returns : goal.returns
returns g c =
    let h = c.self.inside.header in
    let s = g.R.Reader.section c.self.inside.section in
    record {
      gives = sym (table-length (ids_table h s c.args.self.now c.self.view_is));
      rows = sym (table-length (rows_table h s c.args.self.now c.self.view_is));
    }
