use Rattle.addr2line_lines.proofs.Common.{rules, ℕ, answers_always, on_ok_weaker, LineSequence, packed_start, packed_end, packed_sooner}
use Rattle.addr2line_lines.proofs.OrderLemmas.{sorted_is, begins_order}
use Rattle.addr2line_lines.proofs.packed.sort_sequences.Goals as goal

pub returns-clause-gives : goal.returns-clause-gives
returns-clause-gives c =
    let key : LineSequence → ℕ × ℕ = λ s. (s.start, s.end) in
    on_ok_weaker _ (λ up. sorted_is packed_sooner (begins_order packed_start packed_end) _ _ (up key (answers_always _ _ _ (λ f a r g h. search rules))) (c.sort_by_key.ensures.stable key (answers_always _ _ _ (λ f a r g h. search rules)))) c.sort_by_key.ensures.sorted
