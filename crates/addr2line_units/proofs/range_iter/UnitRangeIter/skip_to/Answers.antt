use Rattle.addr2line_units.proofs.Common.{rules, List, ap, refl, sym, subst, ◌∙◌, IsPartitionPoint-from_clause, ranges_left}
use Rattle.addr2line_units.specs.declared.index.IndexedRange.{IndexedRange}
use Rattle.addr2line_units.specs.IndexLeastBegins.{AreLeastBegins, AreOrdered}
use Rattle.addr2line_units.specs.IndexCover.{from_place}
use Rattle.addr2line_units.proofs.IndexLeastBeginLemmas.{dropped_least, dropped_ordered, of_ordered}
use Rattle.addr2line_units.proofs.IndexPlaceLemmas.{skipped, stands_before, table_parted}
use Rattle.addr2line_units.proofs.Facts.{rest_is}
use Rattle.addr2line_units.proofs.range_iter.UnitRangeIter.skip_to.Goals as goal

pub invariant_of-self : goal.invariant_of-self
invariant_of-self c =
    let old = c.args.self.now in
    let n = c.partition_point-passed.result in
    record {
      least = subst AreLeastBegins (sym (rest_is n old.ranges.now old.ranges.now refl)) (dropped_least n old.ranges.now old.least);
      ordered = subst AreOrdered (sym (rest_is n old.ranges.now old.ranges.now refl)) (dropped_ordered n old.ranges.now (of_ordered old.ranges.now old.ordered));
    }

pub returns : goal.returns
returns c =
    let old = c.args.self.now in
    let items : List IndexedRange = old.ranges.now in
    let place = c.in-Some.place in
    let parted = table_parted place items (of_ordered items old.ordered) in
    let point = IsPartitionPoint-from_clause (stands_before place) _ _ c.partition_point-passed.ensures.partitioned parted (λ a r q k. search rules) in
    record { left = skipped place old.last c.partition_point-passed.result items items refl c.partition_point-passed.ensures.bound point ∙ sym (ap (λ p. from_place p (ranges_left old)) c.in-Some.is) }
