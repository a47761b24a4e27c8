use Rattle.addr2line_units.proofs.Common.{rules, ℕ, answers_always, on_ok_weaker, UnitArange, offset_sooner, sorted_is}
use Rattle.addr2line_units.proofs.IndexArangeLemmas.{offset_order}
use Rattle.addr2line_units.proofs.index.sort_by_unit.Goals as goal

pub returns-clause-gives : goal.returns-clause-gives
returns-clause-gives c =
    let key : UnitArange → ℕ = λ a. a.unit_offset.0 in
    on_ok_weaker _ (λ up. sorted_is offset_sooner offset_order _ _ (up key (answers_always _ _ _ (λ f a r g h. search rules))) (c.sort_by_key.ensures.stable key (answers_always _ _ _ (λ f a r g h. search rules)))) c.sort_by_key.ensures.sorted
