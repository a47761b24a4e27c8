use Rattle.addr2line_units.proofs.Common.{refl, err_from_is_err_and, or_left}
use Rattle.addr2line_units.proofs.UnitsIndexLemmas.{where_found}
use Rattle.addr2line_units.proofs.sup.push_sup_unit.Goals as goal

pub returns-in_err-push-clause-gives : goal.returns-in_err-push-clause-gives
returns-in_err-push-clause-gives g c =
    let p = err_from_is_err_and c.from_residual-in_err-push.result c.from_residual-in_err-push.ensures.1 in
    let read = rw c.in-Some.is at c.in_ok-unit.ensures.gives in
    rw (p.1, p.2) (λ may. absurd (may (or_left _ _ (where_found c.args.abbreviations.now.dwarf c.args.header _ read)) refl))
