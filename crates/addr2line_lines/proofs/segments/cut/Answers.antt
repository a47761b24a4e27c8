use Rattle.addr2line_lines.proofs.Common.{length, heap_items, arith, ap, refl, FunctionAddress, err_from_is_err_and}
use Rattle.addr2line_lines.proofs.SweepLemmas.{all_cut, begun_from}
use Rattle.addr2line_lines.proofs.segments.cut.Goals as goal

pub loop-address-init : goal.loop-address-init
loop-address-init c =
    let a = ap length c.new-sweep.ensures.empty.2 in
    let b = ap length c.new-sweep.ensures.empty.1 in
    record { swept = c.new-sweep.ensures.none c.args.addresses.now; few = omega arith }

pub returns-clause-gives : goal.returns-clause-gives
returns-clause-gives c =
    let all = c.args.addresses.now in
    let i = c.loop-address.invariant in
    let next = c.loop-address.address-index in
    let past = c.loop-address-test.false in
    let now = c.close-2.new.self in
    let a = i.few in let b = c.in_ok-close-2.ensures.bound in
    all_cut all next now.at (heap_items now.running) now.segments.items (omega arith) (c.in_ok-close-2.ensures.empty (omega arith))
    (c.in_ok-close-2.ensures.after all next (λ j d low m. absurd (omega arith)) i.swept) (omega arith)

pub loop-address-preserved : goal.loop-address-preserved
loop-address-preserved c =
    let all = c.args.addresses.now in
    let i = c.loop-address.invariant in
    let next = c.loop-address.address-index in
    let here = c.loop-address-test.true in
    let d : FunctionAddress = record { range = record { begin = 0; end = 0 }; function = 0 } in
    let begun = begun_from all next d c.requires.sorted here in
    let a = i.few in let b = c.in_ok-close.ensures.bound in let e = c.in_ok-enter.ensures.bound in
    record {
      swept = c.in_ok-enter.ensures.after all next d begun here refl (c.in_ok-close.ensures.after all next begun i.swept);
      few = omega arith;
    }

pub returns-in_err-close-clause-refused : goal.returns-in_err-close-clause-refused
returns-in_err-close-clause-refused c =
    let p = err_from_is_err_and c.from_residual.result c.from_residual.ensures.1 in
    let here = c.loop-address-test.true in
    rw (p.1, p.2) (c.in_err-close.ensures.refused, omega arith)

pub returns-in_err-enter-clause-refused : goal.returns-in_err-enter-clause-refused
returns-in_err-enter-clause-refused c =
    let p = err_from_is_err_and c.from_residual-in_err-enter.result c.from_residual-in_err-enter.ensures.1 in
    let here = c.loop-address-test.true in
    rw (p.1, p.2) (c.in_err-enter.ensures.refused, omega arith)
