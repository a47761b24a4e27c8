use Rattle.addr2line_units.proofs.Common.{rules, ◌≡◌, ◌∙◌, ap, refl, option_map, err_from_is_err_and, first_unit}
use Rattle.addr2line_units.specs.LoadsMemory.{answer_takes_memory}
use Rattle.addr2line_units.proofs.UnitViewLemmas.{first_read}
use Rattle.addr2line_units.proofs.unit.read_split_unit.Goals as goal

pub returns-in_err-new : goal.returns-in_err-new
returns-in_err-new g c =
    let p = err_from_is_err_and c.from_residual-in_err-new.result c.from_residual-in_err-new.ensures.1 in
    let same : c.in-Some.dwarf.value ≡ c.deref.result.now = search rules in
    let first = rw c.in-Some-2.is at c.in_ok-unit.ensures.gives in
    let taken = first_read g.R.Reader.shares _ _ (ap first_unit same ∙ first) in
    record { gives = rw (p.1, p.2) (λ may. absurd (may (ap (λ s. answer_takes_memory g.R.Reader.shares (option_map (λ d. d.value) s)) c.in-Some.is ∙ taken) refl)) }
