use Rattle.addr2line_units.proofs.Common.{rules, List, ap, sym, subst, ◌∙◌, filter, AllByRecursion, IsPartitionPoint-from_clause, IsPartitionedBy-leb, in_order}
use Rattle.addr2line_units.specs.declared.index.IndexedRange.{IndexedRange}
use Rattle.addr2line_units.specs.IndexLeastBegins.{AreLeastBegins, AreOrdered, EndFits, is_between}
use Rattle.addr2line_units.specs.IndexCover.{ends_sooner}
use Rattle.addr2line_units.proofs.IndexLeastBeginLemmas.{EndsRise, dropped_least, dropped_ordered, ends_by, ends_rise, found_from, none_past_greatest}
use Rattle.addr2line_units.proofs.Facts.{rest_is}
use Rattle.addr2line_units.proofs.index.UnitRanges.find_between.Goals as goal

pub invariant_of-result : goal.invariant_of-result
invariant_of-result c =
    let same = rest_is c.partition_point-first.result _ _ c.deref-2.ensures.value in
    record { least = subst AreLeastBegins (sym same) (dropped_least c.partition_point-first.result _ c.self.invariant.least); ordered = subst AreOrdered (sym same) (dropped_ordered c.partition_point-first.result _ c.self.invariant.ordered) }

pub returns : goal.returns
returns c =
    let low = c.args.low in
    let last = c.args.last in
    let items : List IndexedRange = c.self.inside.ranges.items in
    let ordered = subst EndsRise (sym c.deref.ensures.value) (ends_rise items c.self.invariant.ordered) in
    let parted = IsPartitionedBy-leb (λ (y : IndexedRange). y.unit_range.range.end) _ low ordered in
    let point = IsPartitionPoint-from_clause (ends_by low) _ _ c.partition_point-first.ensures.partitioned parted (λ a r q k. search rules) in
    let ranges = in_order ends_sooner c.args.self.now in
    let sorted = c.self.invariant.sorted ∙ ap (in_order ends_sooner) c.self.view_is in
    let between = found_from low last items _ _ _ c.deref.ensures.value c.deref-2.ensures.value c.partition_point-first.ensures.bound point ∙ ap (filter (is_between low last)) sorted in
    let fit = subst (AllByRecursion EndFits) sorted c.self.invariant.fit in
    record { gives = between; last = λ e. between ∙ none_past_greatest low last e ranges fit }
