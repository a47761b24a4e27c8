use Rattle.addr2line_lines.proofs.Common.{◌+◌, ◌-◌, arith, sym, ◌∙◌, err_from_is_err_and, as_place}
use Rattle.addr2line_lines.proofs.NameLemmas.{visit_ends, visit_goes_on, visit_named, within_fault, within_none, within_place, within_zero}
use Rattle.addr2line_lines.proofs.ReferenceLemmas.{referred_in_order}
use Rattle.addr2line_lines.proofs.name.referred_name.Goals as goal

pub returns-in_err-place : goal.returns-in_err-place
returns-in_err-place g c =
    let p = err_from_is_err_and c.from_residual.result c.from_residual.ensures.1 in
    let i = c.loop.invariant in
    let l = c.loop-test.true in
    let n = c.loop.counter in
    record { gives = rw (p.1, p.2) (λ _. sym i.gives ∙ within_fault (16 - n) (16 - (n + 1)) _ _ _ _ (omega arith) c.in_err-place.ensures.gives) }

pub returns-in_default : goal.returns-in_default
returns-in_default g c =
    let i = c.loop.invariant in
    let l = c.loop-test.true in
    let n = c.loop.counter in
    let none = rw c.in_default.is at c.in_ok-place.ensures.gives in
    record { gives = sym i.gives ∙ within_none (16 - n) (16 - (n + 1)) _ _ _ (omega arith) none }

pub returns-in_err-name : goal.returns-in_err-name
returns-in_err-name g c =
    let p = err_from_is_err_and c.from_residual-in_err-name.result c.from_residual-in_err-name.ensures.1 in
    let i = c.loop.invariant in
    let l = c.loop-test.true in
    let n = c.loop.counter in
    let some = rw c.in-Some.is at c.in_ok-place.ensures.gives in
    record { gives = rw (p.1, p.2) (λ ne. sym i.gives ∙ within_place (16 - n) (16 - (n + 1)) _ _ _ (as_place c.in-Some.place) _ (omega arith) some (c.in_err-name.ensures.gives ne)) }

pub returns-then-is_some : goal.returns-then-is_some
returns-then-is_some g c =
    let i = c.loop.invariant in
    let l = c.loop-test.true in
    let n = c.loop.counter in
    let place = as_place c.in-Some.place in
    let some = rw c.in-Some.is at c.in_ok-place.ensures.gives in
    let chain = within_place (16 - n) (16 - (n + 1)) _ _ _ place _ (omega arith) some c.in_ok-name.ensures.gives in
    record { gives = sym i.gives ∙ chain ∙ visit_named g.R.Reader.section _ place c.in_ok-name.field-0 c.if-is_some.ensures }

pub returns-in_default-origin : goal.returns-in_default-origin
returns-in_default-origin g c =
    let i = c.loop.invariant in
    let l = c.loop-test.true in
    let n = c.loop.counter in
    let place = as_place c.in-Some.place in
    let some = rw c.in-Some.is at c.in_ok-place.ensures.gives in
    let chain = within_place (16 - n) (16 - (n + 1)) _ _ _ place _ (omega arith) some c.in_ok-name.ensures.gives in
    record { gives = sym i.gives ∙ chain ∙ visit_ends g.R.Reader.section _ place c.in_ok-name.field-0 c.if-is_some.ensures c.in_default-origin.is }

pub loop-preserved : goal.loop-preserved
loop-preserved g c =
    let i = c.loop.invariant in
    let l = c.loop-test.true in
    let n = c.loop.counter in
    let place = as_place c.in-Some.place in
    let some = rw c.in-Some.is at c.in_ok-place.ensures.gives in
    let chain = within_place (16 - n) (16 - (n + 1)) _ _ _ place _ (omega arith) some c.in_ok-name.ensures.gives in
    record {
      gives = sym (sym i.gives ∙ chain ∙ visit_goes_on g.R.Reader.section _ place c.in_ok-name.field-0 _ c.if-is_some.ensures c.in-Some-origin.is);
      in_order = referred_in_order _ _ _ place i.in_order some;
    }

pub returns : goal.returns
returns g c =
    let i = c.loop.invariant in
    let l = c.loop-test.false in
    record { gives = sym i.gives ∙ within_zero _ _ _ _ (omega arith) }
