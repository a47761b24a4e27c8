use Rattle.addr2line_units.proofs.Common.{◌≡◌, false, refl, rules, subst, true, err_from_is_err_and, has_abbreviations, is_type_unit}
use Rattle.addr2line_units.proofs.UnitsIndexLemmas.{kept_fault, takes_unit, where_read, where_taken}
use Rattle.addr2line_units.proofs.units.read_unit.Goals as goal

pub returns-in_err-lang-in-Ok-clause-gives : goal.returns-in_err-lang-in-Ok-clause-gives
returns-in_err-lang-in-Ok-clause-gives g c =
    let d = c.args.dwarf.now in
    let h = c.args.header in
    let p = err_from_is_err_and c.from_residual.result c.from_residual.ensures.1 in
    let no_types : is_type_unit h.unit_type ≡ false = search rules in
    let record_is = rw c.requires.same at c.in-Ok.ensures.gives in
    let gives = rw (c.new-unit.ensures.dwarf, c.new-unit.ensures.unit) at c.in_err-lang-in-Ok.ensures.gives in
    rw (p.1, p.2) (λ may. kept_fault d h c.args.aranges.now _ _ no_types record_is (gives (λ _. may (takes_unit d h g.R.Reader.shares c.args.aranges.now no_types (where_read d h _ record_is)))))

pub returns-in-Err-OutOfMemory-clause-gives : goal.returns-in-Err-OutOfMemory-clause-gives
returns-in-Err-OutOfMemory-clause-gives g c =
    let d = c.args.dwarf.now in
    let h = c.args.header in
    let no_types : is_type_unit h.unit_type ≡ false = search rules in
    let gives = rw c.in-Err-OutOfMemory.field-0-is at c.in-Err-OutOfMemory.ensures.gives in
    let has = subst (λ s. has_abbreviations s h ≡ true) c.requires.same (where_taken c.args.abbreviations.now.dwarf h g.R.Reader.shares c.args.abbreviations.now refl gives) in
    λ may. absurd (may (takes_unit d h g.R.Reader.shares c.args.aranges.now no_types has) refl)
