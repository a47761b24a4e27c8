use Rattle.addr2line_lines.proofs.Common.{List, map, ◌++◌, Result, Ok, ap, refl, sym, ◌∙◌, append-nil, err_from_is_err_and, Range, result_map, read_all, all_ranges, begins_well}
use Rattle.gimli_read.specs.declared.error.Error.{Error as Fault}
use Rattle.addr2line_lines.proofs.RangeLemmas.{begins_with_one, fault_left, none_left, one_left, read_after}
use Rattle.addr2line_lines.proofs.function.read_range_list.Goals as goal
use Rattle.addr2line_lines.proofs.Facts.{one_read}

abbrev with_front : List Range → Result (List Range) Fault → Result (List Range) Fault
with_front items = result_map (λ rest. items ++ rest)

abbrev after : List Range → List (Result Range Fault) → Result (List (Result Range Fault)) Fault
after items left = Ok (map Ok items ++ left)

pub returns-in_err-range : goal.returns-in_err-range
returns-in_err-range g c =
    let p = err_from_is_err_and c.from_residual-in_err-range.result c.from_residual-in_err-range.ensures.1 in
    let items = c.loop-ranges.ranges.items in
    let read = ap all_ranges c.loop-ranges.invariant ∙ read_after items c.loop-ranges.list in
    record { gives = rw (p.1, p.2) (λ _. read ∙ ap (with_front items) (fault_left _ _ _ c.in_err-range.ensures.gives)) }

pub returns-in_err-push : goal.returns-in_err-push
returns-in_err-push g c =
    let p = err_from_is_err_and c.from_residual-in_err-push.result c.from_residual-in_err-push.ensures.1 in
    let items = c.loop-ranges.ranges.items in
    let one = rw c.in-Some.is at c.in_ok-range.ensures.gives in
    let list = c.loop-ranges.invariant ∙ ap (after items) (one_left _ _ _ one) in
    record { gives = rw (p.1, p.2) (λ wanted. absurd (wanted (ap begins_well list ∙ begins_with_one items _ _) refl)) }

pub returns : goal.returns
returns g c =
    let items = c.loop-ranges.ranges.items in
    let none = rw c.in_default.is at c.in_ok-range.ensures.gives in
    let read = ap all_ranges c.loop-ranges.invariant ∙ read_after items c.loop-ranges.list in
    let end = ap (λ rest. with_front items (read_all rest)) (none_left _ _ none) in
    record { gives = read ∙ end ∙ ap Ok (append-nil items) }

pub returns-in_err-list : goal.returns-in_err-list
returns-in_err-list g c =
    let p = err_from_is_err_and c.from_residual.result c.from_residual.ensures.1 in
    record { gives = rw (p.1, p.2) (λ _. ap all_ranges c.in_err-list.ensures.gives) }

pub loop-ranges-preserved : goal.loop-ranges-preserved
loop-ranges-preserved g c =
    let items = c.loop-ranges.ranges.items in
    let left = c.next.new.self in
    let one = rw c.in-Some.is at c.in_ok-range.ensures.gives in
    c.loop-ranges.invariant ∙ ap (after items) (one_left _ _ _ one) ∙ ap Ok (one_read Ok items c.in-Some.range left) ∙ ap (λ xs. after xs left) (sym c.in_ok-push.ensures.items)
