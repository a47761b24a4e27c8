use Rattle.gimli.proofs.Common.{ap, sym, ◌∙◌, err_from_is_err_and, UnitHeaderFields, Sections, CachedTables}
use Rattle.gimli.proofs.CachedTableLemmas.{unit_cached, unit_read, unit_oom, unit_outside}
use Rattle.gimli.proofs.abbreviations_cache.AbbreviationsCache.unit.Goals as goal

pub returns-in-Some-clause-gives : goal.returns-in-Some-clause-gives
returns-in-Some-clause-gives g c =
    let offset = ap (λ (h : UnitHeaderFields). h.debug_abbrev_offset) c.header.view_is in
    let dwarf = ap (λ (x : CachedTables). x.dwarf) c.self.view_is in
    unit_cached g.R.Reader.shares c.args.self.now c.args.header _ c.read_unit.result
    (sym (rw offset at c.in-Some.ensures.found)) (rw offset at c.in-Some.ensures.gives) (rw dwarf at c.read_unit.ensures.gives)

pub returns-in_err-rest-clause-gives : goal.returns-in_err-rest-clause-gives
returns-in_err-rest-clause-gives g c =
    let offset = ap (λ (h : UnitHeaderFields). h.debug_abbrev_offset) c.header.view_is in
    let dwarf = ap (λ (x : CachedTables). x.dwarf) c.self.view_is in
    let section = ap (λ (d : Sections). d.debug_abbrev) c.dwarf.view_is ∙ ap (λ (d : Sections). d.debug_abbrev) dwarf in
    let p = err_from_is_err_and c.from_residual.result c.from_residual.ensures.1 in
    rw (p.1, p.2) (unit_outside g.R.Reader.shares c.args.self.now c.args.header c.in_err-rest.field-0.0
    (sym (rw offset at c.in_default.ensures.found)) (rw (offset, section) at c.in_err-rest.ensures.gives))

pub returns-in_err-insert-clause-gives : goal.returns-in_err-insert-clause-gives
returns-in_err-insert-clause-gives g c =
    let offset = ap (λ (h : UnitHeaderFields). h.debug_abbrev_offset) c.header.view_is in
    let dwarf = ap (λ (x : CachedTables). x.dwarf) c.self.view_is in
    let section = ap (λ (d : Sections). d.debug_abbrev) c.dwarf.view_is ∙ ap (λ (d : Sections). d.debug_abbrev) dwarf in
    let p = err_from_is_err_and c.from_residual-in_err-insert.result c.from_residual-in_err-insert.ensures.1 in
    rw (p.1, p.2, c.in_err-insert.ensures.refused) (unit_oom g.R.Reader.shares c.args.self.now c.args.header _
    (sym (rw offset at c.in_default.ensures.found)) (rw (offset, section) at c.in_ok-rest.ensures.gives))

pub returns-clause-gives : goal.returns-clause-gives
returns-clause-gives g c =
    let offset = ap (λ (h : UnitHeaderFields). h.debug_abbrev_offset) c.header.view_is in
    let dwarf = ap (λ (x : CachedTables). x.dwarf) c.self.view_is in
    let section = ap (λ (d : Sections). d.debug_abbrev) c.dwarf.view_is ∙ ap (λ (d : Sections). d.debug_abbrev) dwarf in
    unit_read g.R.Reader.shares c.args.self.now c.args.header _ _ c.read_unit-unit.result
    (sym (rw offset at c.in_default.ensures.found)) (rw (offset, section) at c.in_ok-rest.ensures.gives)
    c.in_ok-table.ensures.gives (rw dwarf at c.read_unit-unit.ensures.gives)
