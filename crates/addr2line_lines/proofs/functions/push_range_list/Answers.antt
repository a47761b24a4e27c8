use Rattle.addr2line_lines.proofs.Common.{ℕ, List, [], ◌∷◌, map, ◌++◌, Result, Ok, ap, sym, ◌∙◌, append-nil, refl, err_from_is_err_and, ◌>>=◌, result_map, Range, FunctionAddress, function_address, read_all, all_ranges, begins_well}
use Rattle.gimli_read.specs.declared.error.Error.{Error as Fault}
use Rattle.addr2line_lines.proofs.RangeLemmas.{begins_with_one, fault_left, none_left, one_left, read_after}
use Rattle.addr2line_lines.proofs.functions.push_range_list.Goals as goal
use Rattle.addr2line_lines.proofs.Facts.{one_added, one_read}

abbrev with_front : List Range → Result (List Range) Fault → Result (List Range) Fault
with_front items = result_map (λ rest. items ++ rest)

abbrev after : List Range → List (Result Range Fault) → Result (List (Result Range Fault)) Fault
after items left = Ok (map Ok items ++ left)

abbrev added : (List FunctionAddress) → ℕ → Result (List Range) Fault → Result (List FunctionAddress) Fault
added old function read = read >>= λ ranges. Ok (old ++ map (function_address function) ranges)

pub returns-in_err-range : goal.returns-in_err-range
returns-in_err-range g c =
    let p = err_from_is_err_and c.from_residual-in_err-range.result c.from_residual-in_err-range.ensures.1 in
    let i = c.loop-range.invariant in
    let read = ap all_ranges i.list ∙ read_after i.read c.loop-range.list in
    record { gives = rw (p.1, p.2) (λ _. ap (added c.args.addresses.now.items c.args.function) (read ∙ ap (with_front i.read) (fault_left _ _ _ c.in_err-range.ensures.gives))) }

pub returns-in_err-push : goal.returns-in_err-push
returns-in_err-push g c =
    let p = err_from_is_err_and c.from_residual-in_err-push.result c.from_residual-in_err-push.ensures.1 in
    let i = c.loop-range.invariant in
    let one = rw c.in-Some.is at c.in_ok-range.ensures.gives in
    let list = i.list ∙ ap (after i.read) (one_left _ _ _ one) in
    record { gives = rw (p.1, p.2) (λ wanted. absurd (wanted (ap begins_well list ∙ begins_with_one i.read _ _) refl)) }

pub loop-range-preserved : goal.loop-range-preserved
loop-range-preserved g c =
    let i = c.loop-range.invariant in
    let range = c.in-Some.range in
    let one = rw c.in-Some.is at c.in_ok-range.ensures.gives in
    record {
      read = i.read ++ range ∷ [];
      list = i.list ∙ ap (after i.read) (one_left _ _ _ one) ∙ ap Ok (one_read Ok i.read range c.next.new.self);
      added = c.in_ok-push.ensures.items ∙ ap (λ xs. xs ++ function_address c.args.function range ∷ []) i.added ∙ one_added (function_address c.args.function) c.args.addresses.now.items i.read range;
    }

pub returns : goal.returns
returns g c =
    let i = c.loop-range.invariant in
    let none = rw c.in_default.is at c.in_ok-range.ensures.gives in
    let read = ap all_ranges i.list ∙ read_after i.read c.loop-range.list in
    let end = ap (λ rest. with_front i.read (read_all rest)) (none_left _ _ none) in
    record { gives = ap (added c.args.addresses.now.items c.args.function) (read ∙ end ∙ ap Ok (append-nil i.read)) ∙ ap Ok (sym i.added) }
