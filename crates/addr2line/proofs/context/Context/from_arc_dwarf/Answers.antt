use Rattle.addr2line.proofs.Common.{err_from_is_err_and}
use Rattle.addr2line.proofs.ContextLemmas.{context_fault, context_made}
use Rattle.addr2line.proofs.context.Context.from_arc_dwarf.Goals as goal

pub returns-in_err-units : goal.returns-in_err-units
returns-in_err-units g c =
    let p = err_from_is_err_and c.from_residual.result c.from_residual.ensures.1 in
    record { gives = rw (p.1, p.2) (λ may. context_fault c.args.dwarf.value _ (c.in_err-units.ensures.gives may)) }

pub invariant_of-result : goal.invariant_of-result
invariant_of-result g c = (context_made c.args.dwarf.value _ _ c.in_ok-units.ensures.gives).0

pub returns : goal.returns
returns g c = record { gives = (context_made c.args.dwarf.value _ _ c.in_ok-units.ensures.gives).1 }
