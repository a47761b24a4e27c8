use Rattle.addr2line_lines.proofs.Common.{rules, true, false, List, length, ◌≡◌, ◌∙◌, ◌-◌, arith, ap, sym, subst, IsNonDecreasingBy, IsPartitionPoint, IsPartitionPoint-from_clause, IsPartitionedBy-leb, FunctionAddress, address_begin, shortest_function_at}
use Rattle.addr2line_lines.proofs.SegmentSearch.{begins_by, last_begins, last_ends, none_found, out_of_all, segment_found, segments_rise}
use Rattle.addr2line_lines.proofs.segments.Segments.find.Goals as goal

pub returns-then-past-eq0 : goal.returns-then-past-eq0
returns-then-past-eq0 c =
    let probe = c.args.probe in
    let segments : List FunctionAddress = c.self.inside.segments.items in
    let listed = c.self.inside.listed.value.items in
    let ordered = subst (IsNonDecreasingBy address_begin) (sym c.deref.ensures.value) (segments_rise listed segments c.self.invariant) in
    let parted = IsPartitionedBy-leb address_begin _ probe ordered in
    let point = IsPartitionPoint-from_clause (begins_by probe) _ _ c.partition_point-past.ensures.partitioned parted (λ a r q k. search rules) in
    let here = subst (λ xs. IsPartitionPoint (λ s. begins_by probe s ≡ true) (λ s. begins_by probe s ≡ false) xs c.partition_point-past.result) c.deref.ensures.value point in
    let none = c.if-past-eq0.true in
    let bound = c.partition_point-past.ensures.bound in
    let out = out_of_all listed segments probe c.partition_point-past.result c.self.invariant (omega arith) here (λ d some. absurd (omega arith)) in
    record { found = sym (none_found listed segments probe c.self.invariant out) ∙ ap (shortest_function_at probe) c.self.view_is }

pub returns-then-probe-segment : goal.returns-then-probe-segment
returns-then-probe-segment c =
    let probe = c.args.probe in
    let segments : List FunctionAddress = c.self.inside.segments.items in
    let listed = c.self.inside.listed.value.items in
    let past = c.partition_point-past.result in
    let s = c.index-segment.result.now in
    let ordered = subst (IsNonDecreasingBy address_begin) (sym c.deref.ensures.value) (segments_rise listed segments c.self.invariant) in
    let parted = IsPartitionedBy-leb address_begin _ probe ordered in
    let point = IsPartitionPoint-from_clause (begins_by probe) _ _ c.partition_point-past.ensures.partitioned parted (λ a r q k. search rules) in
    let here = subst (λ xs. IsPartitionPoint (λ s. begins_by probe s ≡ true) (λ s. begins_by probe s ≡ false) xs past) c.deref.ensures.value point in
    let some = c.if-past-eq0.false in
    let bound = c.partition_point-past.ensures.bound in
    let count = ap length c.deref.ensures.value in
    let low = last_begins segments probe past s (omega arith) (omega arith) here (sym c.index-segment.ensures) in
    record { found = sym (segment_found listed segments probe (past - 1) s c.self.invariant (omega arith) (sym c.index-segment.ensures) low c.if-probe-segment.true) ∙ ap (shortest_function_at probe) c.self.view_is }

pub returns-else-probe-segment : goal.returns-else-probe-segment
returns-else-probe-segment c =
    let probe = c.args.probe in
    let segments : List FunctionAddress = c.self.inside.segments.items in
    let listed = c.self.inside.listed.value.items in
    let past = c.partition_point-past.result in
    let s = c.index-segment.result.now in
    let ordered = subst (IsNonDecreasingBy address_begin) (sym c.deref.ensures.value) (segments_rise listed segments c.self.invariant) in
    let parted = IsPartitionedBy-leb address_begin _ probe ordered in
    let point = IsPartitionPoint-from_clause (begins_by probe) _ _ c.partition_point-past.ensures.partitioned parted (λ a r q k. search rules) in
    let here = subst (λ xs. IsPartitionPoint (λ s. begins_by probe s ≡ true) (λ s. begins_by probe s ≡ false) xs past) c.deref.ensures.value point in
    let bound = c.partition_point-past.ensures.bound in
    let count = ap length c.deref.ensures.value in
    let some = c.if-past-eq0.false in
    let ends = c.if-probe-segment.false in
    let out = out_of_all listed segments probe past c.self.invariant (omega arith) here (λ d l. last_ends segments probe past s d (omega arith) (omega arith) (sym c.index-segment.ensures) (omega arith)) in
    record { found = sym (none_found listed segments probe c.self.invariant out) ∙ ap (shortest_function_at probe) c.self.view_is }
