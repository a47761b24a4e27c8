use Rattle.addr2line_units.proofs.Common.{◌≡◌, false, refl, true, err_from_is_err_and}
use Rattle.addr2line_units.proofs.UnitsMemoryLemmas.{then_takes}
use Rattle.addr2line_units.proofs.Facts.{some_there}
use Rattle.addr2line_units.proofs.index.UnitAranges.parse.Goals as goal

false_true : false ≡ true → ⊥
false_true e = cc

pub returns-in_err-sort_by_unit : goal.returns-in_err-sort_by_unit
returns-in_err-sort_by_unit g c =
    let p = err_from_is_err_and c.from_residual-in_err-sort_by_unit.result c.from_residual-in_err-sort_by_unit.ensures.1 in
    record {
      gives = rw (p.1, p.2) (λ may. absurd (may (then_takes _ _ _ _ c.in_ok-aranges.ensures.gives (some_there _ (λ none. false_true (c.in_err-sort_by_unit.ensures.memory none)))) refl));
    }
