use Rattle.addr2line_lines.proofs.Common.{◌≤◌, rules, length, map, Some, arith, ap, sym, inl, inr, ◌∙◌, length-map, IsPartitionPoint-from_clause, InlinedFunctionAddress}
use Rattle.addr2line_lines.proofs.InlinedPick.{IsPlacePast, begins_by, it_counts, it_ends, none_counts, other_depth, parted}
use Rattle.addr2line_lines.proofs.StoredRangeLemmas.{image_at, images_parted, images_point}
use Rattle.addr2line_lines.proofs.picks.find_inlined.Goals as goal

pub returns-then-past-eq0 : goal.returns-then-past-eq0
returns-then-past-eq0 g c =
    let whole = g.S.Stored.whole c.args.upper in
    let ys = map whole c.args.ranges.now in
    let none = c.if-past-eq0.true in
    let past = c.partition_point-past.result in
    let bound = c.partition_point-past.ensures.bound in
    let test = begins_by c.args.depth c.args.probe in
    let point : IsPlacePast c.args.depth c.args.probe ys past = images_point whole test _ past bound (IsPartitionPoint-from_clause (λ r. test (whole r)) _ _ c.partition_point-past.ensures.partitioned (images_parted whole test _ (parted c.args.depth c.args.probe ys c.requires.ordered)) (λ a r q k. search rules)) in
    record { found = sym (none_counts c.args.depth c.args.probe ys c.requires.ordered past point (omega arith) (λ d some. absurd (omega arith))) }

pub returns-then-probe-range : goal.returns-then-probe-range
returns-then-probe-range g c =
    let whole = g.S.Stored.whole c.args.upper in
    let ys = map whole c.args.ranges.now in
    let some = c.if-past-eq0.false in
    let past = c.partition_point-past.result in
    let bound = c.partition_point-past.ensures.bound in
    let long = length-map c.args.ranges.now whole in
    let test = begins_by c.args.depth c.args.probe in
    let point : IsPlacePast c.args.depth c.args.probe ys past = images_point whole test _ past bound (IsPartitionPoint-from_clause (λ r. test (whole r)) _ _ c.partition_point-past.ensures.partitioned (images_parted whole test _ (parted c.args.depth c.args.probe ys c.requires.ordered)) (λ a r q k. search rules)) in
    let e = image_at whole c.args.ranges.now _ _ _ c.whole-range.ensures.gives c.index-ranges-past.is in
    let depth = ap (λ (x : InlinedFunctionAddress). x.depth) (sym e) ∙ c.if-range-depth.true in
    record { found = ap (λ (x : InlinedFunctionAddress). Some x.function) e ∙ sym (it_counts c.args.depth c.args.probe ys c.requires.ordered past point _ (omega arith) (omega arith) depth (rw e at c.if-probe-range.true)) }

pub returns-else-range-depth : goal.returns-else-range-depth
returns-else-range-depth g c =
    let whole = g.S.Stored.whole c.args.upper in
    let ys = map whole c.args.ranges.now in
    let some = c.if-past-eq0.false in
    let past = c.partition_point-past.result in
    let bound = c.partition_point-past.ensures.bound in
    let long = length-map c.args.ranges.now whole in
    let within : past ≤ length ys = omega arith in
    let test = begins_by c.args.depth c.args.probe in
    let point : IsPlacePast c.args.depth c.args.probe ys past = images_point whole test _ past bound (IsPartitionPoint-from_clause (λ r. test (whole r)) _ _ c.partition_point-past.ensures.partitioned (images_parted whole test _ (parted c.args.depth c.args.probe ys c.requires.ordered)) (λ a r q k. search rules)) in
    let e = image_at whole c.args.ranges.now _ _ _ c.whole-range.ensures.gives c.index-ranges-past.is in
    let depth = ap (λ (x : InlinedFunctionAddress). x.depth) e in
    elim c.else-range-depth.either [
      | inl w ↦ record { found = sym (it_ends c.args.depth c.args.probe ys c.requires.ordered past point _ (omega arith) within (sym depth ∙ w.0) (rw e at w.1)) }
      | inr w ↦ record { found = sym (other_depth c.args.depth c.args.probe ys c.requires.ordered past point _ within (λ same. w (depth ∙ same))) }
    ]
