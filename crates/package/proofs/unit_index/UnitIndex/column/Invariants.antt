use Rattle.package.proofs.ColumnLemmas.{NoneIs}
use Rattle.package.proofs.unit_index.UnitIndex.column.Given as goal

abbrev pub invariant-loop-column : goal.invariant-loop-column
invariant-loop-column g l = NoneIs l.self.columns l.section l.column
