use Rattle.addr2line_units.proofs.Common.{◌∙◌, err_from_is_err_and}
use Rattle.addr2line_units.proofs.UnitsNewLemmas.{caches_of_first, index_fault, index_given, index_takes}
use Rattle.addr2line_units.proofs.units.IndexedUnits.parse.Goals as goal
use Rattle.addr2line_lines.proofs.Facts.{ok_is}

pub returns-in_err-dw_units : goal.returns-in_err-dw_units
returns-in_err-dw_units g c =
    let p = err_from_is_err_and c.from_residual-in_err-dw_units.result c.from_residual-in_err-dw_units.ensures.1 in
    record { gives = rw (p.1, p.2) (index_fault g.R.Reader.shares c.args.dwarf.value _ _ (c.behind-dwarf.view_is ∙ c.deref.ensures) c.in_ok-aranges.ensures.gives c.deref-2.ensures c.in_err-dw_units.ensures.gives) }

pub returns-in_err-ranges : goal.returns-in_err-ranges
returns-in_err-ranges g c =
    let p = err_from_is_err_and c.from_residual-in_err-ranges.result c.from_residual-in_err-ranges.ensures.1 in
    let s = c.dw_units.inside in
    let takes = index_takes c.args.dwarf.value s.dwarf.now s.dw_units.items s.caches.items s.ranges.items _ c.deref-2.ensures c.in_ok-dw_units.ensures.gives c.dw_units.view_is (c.behind-dwarf.view_is ∙ c.deref.ensures) c.in_ok-aranges.ensures.gives g.R.Reader.shares in
    record { gives = rw (p.1, p.2) (λ may. absurd (let no = c.in_err-ranges.ensures.gives (λ some. may (takes some)) in cc)) }

pub invariant_of-result : goal.invariant_of-result
invariant_of-result g c =
    let s = c.dw_units.inside in
    caches_of_first c.args.dwarf.value s.dwarf.now s.dw_units.items s.caches.items s.ranges.items _ c.deref-2.ensures c.in_ok-dw_units.ensures.gives c.dw_units.view_is c.dw_units.invariant

pub returns : goal.returns
returns g c =
    let s = c.dw_units.inside in
    let ranges = ok_is _ _ c.in_ok-ranges.ensures.gives in
    record {
      gives = index_given c.args.dwarf.value s.dwarf.now s.dw_units.items s.caches.items s.ranges.items _ c.deref-2.ensures c.in_ok-dw_units.ensures.gives c.dw_units.view_is (c.behind-dwarf.view_is ∙ c.deref.ensures) c.in_ok-aranges.ensures.gives ranges;
    }
