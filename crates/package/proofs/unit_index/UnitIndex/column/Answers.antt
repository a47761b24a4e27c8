use Rattle.package.proofs.Common.{◌<◌, length, arith}
use Rattle.package.proofs.ColumnLemmas.{column_found, no_column, none_at_first, one_more}
use Rattle.package.proofs.unit_index.UnitIndex.column.Goals as goal

pub loop-column-init : goal.loop-column-init
loop-column-init g c = none_at_first c.args.self.now.columns c.args.section

pub loop-column-preserved : goal.loop-column-preserved
loop-column-preserved g c = one_more c.args.self.now.columns c.args.section c.loop-column.column c.column_at-number.result c.loop-column.invariant c.column_at-number.ensures.gives c.if-number-section.false

pub returns-then-number-section-clause-found : goal.returns-then-number-section-clause-found
returns-then-number-section-clause-found g c =
    let within : c.loop-column.column < length c.args.self.now.columns = (let l = c.loop-column-test.true in let n = c.section_count-count.ensures.gives in omega arith) in
    column_found c.args.self.now.columns c.args.section c.loop-column.column c.column_at-number.result within c.loop-column.invariant c.column_at-number.ensures.gives c.if-number-section.true

pub returns-clause-found : goal.returns-clause-found
returns-clause-found g c = no_column c.args.self.now.columns c.args.section c.loop-column.column (let l = c.loop-column-test.false in let n = c.section_count-count.ensures.gives in omega arith) c.loop-column.invariant
