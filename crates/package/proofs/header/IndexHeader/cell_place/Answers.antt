use Rattle.package.proofs.Common.{arith}
use Rattle.std.proofs.lemmas.Nat.{mul-add-lt}
use Rattle.package.proofs.NumberLemmas.{same_product}
use Rattle.package.proofs.header.IndexHeader.cell_place.Goals as goal

pub overflow_mul-cell : goal.overflow_mul-cell
overflow_mul-cell c =
    let h = c.args.self in
    omega (arith, c.requires.bound, mul-add-lt c.args.row h.section_count c.args.column h.unit_count c.requires.row c.requires.column, same_product _ _ _ _ c.from.ensures c.from-2.ensures)

pub overflow_add-cell : goal.overflow_add-cell
overflow_add-cell c =
    let h = c.args.self in
    omega (arith, c.requires.bound, mul-add-lt c.args.row h.section_count c.args.column h.unit_count c.requires.row c.requires.column, same_product _ _ _ _ c.from.ensures c.from-2.ensures)

pub overflow_mul-result : goal.overflow_mul-result
overflow_mul-result c =
    let h = c.args.self in
    omega (arith, c.requires.bound, mul-add-lt c.args.row h.section_count c.args.column h.unit_count c.requires.row c.requires.column, same_product _ _ _ _ c.from.ensures c.from-2.ensures)

pub overflow_add-result : goal.overflow_add-result
overflow_add-result c =
    let h = c.args.self in
    omega (arith, c.requires.bound, mul-add-lt c.args.row h.section_count c.args.column h.unit_count c.requires.row c.requires.column, same_product _ _ _ _ c.from.ensures c.from-2.ensures)

pub returns-clause-within : goal.returns-clause-within
returns-clause-within c =
    let h = c.args.self in
    omega (arith, c.requires.bound, mul-add-lt c.args.row h.section_count c.args.column h.unit_count c.requires.row c.requires.column, same_product _ _ _ _ c.from.ensures c.from-2.ensures)

pub returns-clause-gives : goal.returns-clause-gives
returns-clause-gives c = omega (arith, same_product _ _ _ _ c.from.ensures c.from-2.ensures)
