use Rattle.addr2line_units.proofs.Common.{Err, Ok, Result, Some, ap, option_map, sym, ◌∙◌, ◌≡◌, err_from_is_err_and, Error, Sections, all_headers, sup_sections, units_of_at_cost}
use Rattle.addr2line_units.specs.UnitsMemory.{sup_unit_of_header_at_cost, sup_units_at_cost}
use Rattle.addr2line_units.proofs.UnitsMemoryLemmas.{shared_take}
use Rattle.addr2line_units.proofs.sup.SupUnits.parse.Goals as goal
use Rattle.addr2line_lines.proofs.Facts.{ok_is}

ok_err : (a : Sections) (f : Error) → ◌≡◌ {A = Result Sections Error} (Ok a) (Err f) → ⊥
ok_err a f e = cc

pub returns-in_err-dwarf : goal.returns-in_err-dwarf
returns-in_err-dwarf g c =
    let p = err_from_is_err_and c.from_residual.result c.from_residual.ensures.1 in
    let d = sup_sections c.in-Some.sup.value in
    let there : c.args.dwarf.now.sup ≡ Some c.in-Some.sup.value = sym (rw c.in-Some.is at (ap (λ (s : Sections). s.sup) c.dwarf.view_is)) in
    record {
      gives = rw (p.1, p.2) (λ may. absurd (ok_err _ _ (c.in_err-dwarf.ensures.gives (λ shares. may (ap (λ s. (sup_units_at_cost s).takes_memory g.R.Reader.shares) there ∙ shared_take g.R.Reader.shares (sup_unit_of_header_at_cost d) (all_headers d.debug_info) shares)))));
      dwarf = rw p.1 tt;
    }

pub returns-in_err-units : goal.returns-in_err-units
returns-in_err-units g c =
    let p = err_from_is_err_and c.from_residual-in_err-units.result c.from_residual-in_err-units.ensures.1 in
    let there : c.args.dwarf.now.sup ≡ Some c.in-Some.sup.value = sym (rw c.in-Some.is at (ap (λ (s : Sections). s.sup) c.dwarf.view_is)) in
    let same = ap sup_sections (sym c.deref.ensures) ∙ ok_is _ _ c.in_ok-dwarf.ensures.gives in
    record {
      gives = rw (p.1, p.2) (λ may. ap (λ s. (sup_units_at_cost s).given) there ∙ ap (λ (d : Sections). (units_of_at_cost (sup_unit_of_header_at_cost d) (all_headers d.debug_info)).given) same ∙ c.in_err-units.ensures.gives (λ takes. may (ap (λ s. (sup_units_at_cost s).takes_memory g.R.Reader.shares) there ∙ ap (λ (d : Sections). (units_of_at_cost (sup_unit_of_header_at_cost d) (all_headers d.debug_info)).takes_memory g.R.Reader.shares) same ∙ takes)));
      dwarf = rw p.1 tt;
    }

pub returns : goal.returns
returns g c =
    let there : c.args.dwarf.now.sup ≡ Some c.in-Some.sup.value = sym (rw c.in-Some.is at (ap (λ (s : Sections). s.sup) c.dwarf.view_is)) in
    let same = ap sup_sections (sym c.deref.ensures) ∙ ok_is _ _ c.in_ok-dwarf.ensures.gives in
    record {
      gives = ap (λ s. (sup_units_at_cost s).given) there ∙ ap (λ (d : Sections). (units_of_at_cost (sup_unit_of_header_at_cost d) (all_headers d.debug_info)).given) same ∙ c.in_ok-units.ensures.gives;
      dwarf = sym (ap (option_map sup_sections) there ∙ ap Some same);
    }
