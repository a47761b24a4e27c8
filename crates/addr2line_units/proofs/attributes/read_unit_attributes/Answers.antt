use Rattle.addr2line_units.proofs.Common.{ap, ◌∙◌, err_from_is_err_and}
use Rattle.addr2line_units.proofs.AttributesLemmas.{attributes-by, encoding-of, unit_others}
use Rattle.addr2line_units.proofs.attributes.read_unit_attributes.Goals as goal

pub returns-in_err-abbreviation : goal.returns-in_err-abbreviation
returns-in_err-abbreviation g c =
    let p = err_from_is_err_and c.from_residual-in_err-abbreviation.result c.from_residual-in_err-abbreviation.ensures.1 in
    record { gives = rw (p.1, p.2) (λ ne. attributes-by _ _ _ _ c.in_ok-entries.ensures.gives c.in_err-abbreviation.ensures.gives) }

pub returns-in_err-take_attributes-in-Some : goal.returns-in_err-take_attributes-in-Some
returns-in_err-take_attributes-in-Some g c =
    let p = err_from_is_err_and c.from_residual-in_err-take_attributes-in-Some.result c.from_residual-in_err-take_attributes-in-Some.ensures.1 in
    let code = rw c.in-Some.is at c.in_ok-abbreviation.ensures.gives in
    let encoding = ap (λ v. v.encoding) c.in_ok-abbreviation.ensures.unit ∙ encoding-of c.args.unit.dwarf.now c.args.unit.unit.now _ c.in_ok-entries.ensures.gives in
    let fault = rw (encoding, c.new-found.ensures.gives, c.attributes-specifications.ensures.gives) at c.in_err-take_attributes-in-Some.ensures.gives in
    record { gives = rw (p.1, p.2) (λ ne. attributes-by _ _ _ _ c.in_ok-entries.ensures.gives code ∙ fault ne) }

pub returns-in-Some : goal.returns-in-Some
returns-in-Some g c =
    let code = rw c.in-Some.is at c.in_ok-abbreviation.ensures.gives in
    let encoding = ap (λ v. v.encoding) c.in_ok-abbreviation.ensures.unit ∙ encoding-of c.args.unit.dwarf.now c.args.unit.unit.now _ c.in_ok-entries.ensures.gives in
    let given = rw (encoding, c.new-found.ensures.gives, c.attributes-specifications.ensures.gives) at c.in_ok-take_attributes-in-Some.ensures.gives in
    record { gives = attributes-by _ _ _ _ c.in_ok-entries.ensures.gives code ∙ given }

pub returns : goal.returns
returns g c =
    let code = rw c.in-None.is at c.in_ok-abbreviation.ensures.gives in
    record { gives = λ ne. attributes-by _ _ _ _ c.in_ok-entries.ensures.gives code }

pub take_attributes-requires-clause-others : goal.take_attributes-requires-clause-others
take_attributes-requires-clause-others g c = unit_others c.args.unit.dwarf.now c.args.unit.unit.now
