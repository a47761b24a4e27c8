use Rattle.addr2line_lines.proofs.Common.{◌<◌, ◌^◌, arith, length, subst, IsTable, Packed}
use Rattle.addr2line_lines.proofs.TableLemmas.{table_of}
use Rattle.addr2line_lines.proofs.packed.PackedRows.known.Goals as goal

pub returns-clause-sequences : goal.returns-clause-sequences
returns-clause-sequences c =
    let i = c.self.invariant in
    let e = c.len-rows.ensures.gives in
    let few : length c.self.inside.rows.rows < 2 ^ 64 = omega arith in
    let P : Packed → Type 0 = λ p. IsTable p.sequences p.rows in
    subst P c.self.view_is (table_of _ _ _ i.sorted_is few i.among)
