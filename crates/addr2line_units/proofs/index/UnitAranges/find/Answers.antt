use Rattle.addr2line_units.proofs.Common.{rules, ◌≡◌, List, ap, false, drop, filter, sym, subst, ◌∙◌, AllByRecursion, IsNonDecreasingBy, IsPartitionPoint-from_clause, IsPartitionedBy-leb, IsPartitionedBy-ltb, in_order_ordered, IsInOrder, UnitArange, is_arange_of, offset_sooner}
use Rattle.addr2line_lines.proofs.SeekLemmas.{non_decreasing}
use Rattle.addr2line_units.proofs.IndexArangeLemmas.{dropped_up, from_point, is_below, is_up_to, none_below, offset_of, offset_order, offsets_up, same_of_unit, up_to_point}
use Rattle.addr2line_units.proofs.Facts.{rest_is}
use Rattle.addr2line_units.proofs.index.UnitAranges.find.Goals as goal

pub returns : goal.returns
returns c =
    let offset = c.args.unit_offset.0 in
    let items : List UnitArange = c.self.inside.aranges.items in
    let n = c.partition_point-first.result in
    let up = offsets_up items (subst (IsInOrder offset_sooner) (sym c.self.invariant) (in_order_ordered offset_sooner offset_order c.self.inside.listed.value.items)) in
    let rise = subst (IsNonDecreasingBy offset_of) (sym c.deref.ensures.value) (non_decreasing offset_of items up) in
    let first = IsPartitionPoint-from_clause (is_below offset) _ _ c.partition_point-first.ensures.partitioned (IsPartitionedBy-ltb offset_of _ offset rise) (λ a r q k. search rules) in
    let rest = rest_is n c.deref-2.result.now items c.deref-2.ensures.value in
    let rest_rise = subst (IsNonDecreasingBy offset_of) (sym rest) (non_decreasing offset_of (drop n items) (dropped_up n items up)) in
    let last = IsPartitionPoint-from_clause (is_up_to offset) _ _ c.partition_point-count.ensures.partitioned (IsPartitionedBy-leb offset_of _ offset rest_rise) (λ a r q k. search rules) in
    let none = none_below offset c.deref.result.now n c.partition_point-first.ensures.bound first in
    let same = ap (drop n) c.deref.ensures.value ∙ sym rest in
    let found = up_to_point offset _ _ c.partition_point-count.ensures.bound (subst (AllByRecursion (λ y. is_below offset y ≡ false)) same none) last in
    record { gives = found ∙ ap (filter (is_arange_of offset)) (sym same) ∙ from_point offset c.deref.result.now n c.partition_point-first.ensures.bound first ∙ ap (filter (is_arange_of offset)) (c.deref.ensures.value ∙ c.self.invariant) ∙ same_of_unit offset _ ∙ ap (filter (is_arange_of offset)) c.self.view_is }
