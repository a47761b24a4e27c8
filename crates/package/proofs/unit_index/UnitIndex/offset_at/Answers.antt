use Rattle.package.proofs.Common.{arith}
use Rattle.package.proofs.IndexLemmas.{columns_table, offsets_table, cell_read, rows_count, table-length}
use Rattle.package.proofs.unit_index.UnitIndex.offset_at.Goals as goal

pub cell_place-requires : goal.cell_place-requires
cell_place-requires g c =
    let h = c.self.inside.header in
    let s = g.R.Reader.section c.self.inside.section in
    let r = rows_count (offsets_table h s c.args.self.now c.self.view_is) in
    let n = table-length (columns_table h s c.args.self.now c.self.view_is) in
    record {
      row = omega (arith, r, c.requires.row);
      column = omega (arith, n, c.requires.column);
      bound = omega (arith, c.offsets_place-table.ensures.gives, c.self.invariant.1);
    }

pub word_at-requires : goal.word_at-requires
word_at-requires g c = record { within = omega (arith, c.cell_place.ensures.within, c.offsets_place-table.ensures.gives, c.self.invariant.0) }

pub returns : goal.returns
returns g c =
    let h = c.self.inside.header in
    let s = g.R.Reader.section c.self.inside.section in
    let t = offsets_table h s c.args.self.now c.self.view_is in
    let r = rows_count t in
    let n = table-length (columns_table h s c.args.self.now c.self.view_is) in
    record {
      gives = cell_read t c.args.row c.args.column _ c.word_at.result c.word_at.ensures.gives
          (omega (arith, c.cell_place.ensures.gives, c.offsets_place-table.ensures.gives))
          (omega (arith, r, c.requires.row)) (omega (arith, n, c.requires.column));
    }
