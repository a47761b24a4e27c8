use Rattle.addr2line_units.proofs.Common.{◌≡◌, ◌≢◌, true, Err, ap, subst, sym, ◌∙◌, err_from_is_err_and, OutOfMemory, Sections, or_left}
use Rattle.addr2line_units.specs.UnitsMemory.{sup_units_at_cost}
use Rattle.addr2line_units.specs.UnitsIndexed.{IndexState}
use Rattle.addr2line_units.proofs.UnitsMemoryLemmas.{then_takes}
use Rattle.addr2line_units.proofs.UnitsNewLemmas.{are_units, index_is, index_sections, scope_in_order, sup_fault, units_fault, units_made}
use Rattle.addr2line_units.proofs.units.Units.parse.Goals as goal

pub returns-in_err-indexed : goal.returns-in_err-indexed
returns-in_err-indexed g c =
    let p = err_from_is_err_and c.from_residual.result c.from_residual.ensures.1 in
    let d = c.args.dwarf.value in
    record { gives = rw (p.1, p.2) (λ may. units_fault d _ (sym (index_is d) ∙ c.in_err-indexed.ensures.gives (λ takes. may (or_left _ _ takes)))) }

pub returns-in_err-sup : goal.returns-in_err-sup
returns-in_err-sup g c =
    let p = err_from_is_err_and c.from_residual-in_err-sup.result c.from_residual-in_err-sup.ensures.1 in
    let d = c.args.dwarf.value in
    let e = c.in_err-sup.field-0.0 in
    let units = c.in_ok-indexed.ensures.gives in
    let of = ap (λ (m : IndexState). m.sections) c.indexed.view_is ∙ index_sections d _ units in
    let sup = subst (λ (x : Sections). ((sup_units_at_cost x.sup).takes_memory g.R.Reader.shares ≡ true → e ≢ OutOfMemory) → (sup_units_at_cost x.sup).given ≡ Err e) (c.deref.ensures ∙ of) c.in_err-sup.ensures.gives in
    record { gives = rw (p.1, p.2) (λ may. sup_fault d _ _ (sym (index_is d) ∙ units) (sup (λ takes. may (then_takes _ _ _ _ units takes)))) }

pub invariant_of-sources : goal.invariant_of-sources
invariant_of-sources g c =
    let s = c.indexed.inside in
    scope_in_order c.args.dwarf.value s.dwarf.value s.dw_units.items s.caches.items s.ranges c.in_ok-sup.sup c.in_ok-indexed.ensures.gives c.indexed.view_is c.deref.ensures c.in_ok-sup.ensures.gives c.in_ok-sup.ensures.dwarf c.indexed.invariant

pub invariant_of-units : goal.invariant_of-units
invariant_of-units g c =
    let s = c.indexed.inside in
    are_units c.args.dwarf.value s.dwarf.value s.dw_units.items s.caches.items s.ranges c.in_ok-sup.sup c.in_ok-indexed.ensures.gives c.indexed.view_is c.deref.ensures c.in_ok-sup.ensures.gives c.in_ok-sup.ensures.dwarf c.indexed.invariant

pub returns : goal.returns
returns g c =
    let s = c.indexed.inside in
    record { gives = rw c.new.ensures.gives (units_made c.args.dwarf.value s.dwarf.value s.dw_units.items s.caches.items s.ranges c.in_ok-sup.sup c.in_ok-indexed.ensures.gives c.indexed.view_is c.deref.ensures c.in_ok-sup.ensures.gives c.in_ok-sup.ensures.dwarf c.indexed.invariant) }
