use Rattle.addr2line_units.proofs.Common.{rules, ℕ, answers_always, UnitRange}
use Rattle.addr2line_units.specs.IndexCover.{ends_sooner}
use Rattle.addr2line_lines.proofs.InlinedOrder.{permuted_is}
use Rattle.addr2line_units.proofs.IndexLemmas.{by_tuple, ends_order, one_range}
use Rattle.addr2line_units.proofs.index.sort_ranges.Goals as goal

pub returns-clause-gives : goal.returns-clause-gives
returns-clause-gives c =
    let key : UnitRange → ℕ × ℕ × ℕ = λ r. (r.range.end, r.unit, r.range.begin) in
    let up = c.sort_unstable_by_key.ensures.sorted key (answers_always _ _ _ (λ f a r g h. search rules)) in
    permuted_is ends_sooner ends_order one_range _ _ c.sort_unstable_by_key.ensures.permutation (by_tuple _ up)
