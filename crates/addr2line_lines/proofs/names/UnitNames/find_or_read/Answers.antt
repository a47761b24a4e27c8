use Rattle.addr2line_lines.proofs.Common.{err_from_is_err_and, as_names, as_scope}
use Rattle.addr2line_lines.specs.Scopes.{snapshot_unit}
use Rattle.addr2line_lines.proofs.CachedNameLemmas.{known_in, own_unit}
use Rattle.addr2line_lines.proofs.names.UnitNames.find_or_read.Goals as goal

pub returns-in_err-name-clause-gives : goal.returns-in_err-name-clause-gives
returns-in_err-name-clause-gives g c =
    let p = err_from_is_err_and c.from_residual.result c.from_residual.ensures.1 in
    let x = snapshot_unit c.self.inside.unit.value in
    let old = as_names g.R.Reader.section c.self.inside.cached in
    let own = own_unit (as_scope c.args.scope) c.args.unit.now x old c.args.self.now c.self.view_is c.requires.unit in
    rw (p.1, p.2) (λ _. known_in (as_scope c.args.scope) c.args.unit.now x old c.args.offset _ own c.self.invariant (rw c.in_err-name.was at c.in-Some.ensures.found))

pub returns-in-Some-clause-gives : goal.returns-in-Some-clause-gives
returns-in-Some-clause-gives g c =
    let x = snapshot_unit c.self.inside.unit.value in
    let old = as_names g.R.Reader.section c.self.inside.cached in
    let own = own_unit (as_scope c.args.scope) c.args.unit.now x old c.args.self.now c.self.view_is c.requires.unit in
    known_in (as_scope c.args.scope) c.args.unit.now x old c.args.offset _ own c.self.invariant (rw c.in_ok-name.was at c.in-Some.ensures.found)
