use Rattle.gimli.proofs.Common.{◌≡◌, Ok, ap, ◌∙◌, err_from_is_err_and}
use Rattle.gimli.proofs.RecordLemmas.{root_values_by, still_root}
use Rattle.gimli.proofs.record.read_root.Goals as goal

pub returns-in_err-abbreviation : goal.returns-in_err-abbreviation
returns-in_err-abbreviation g c =
    let p = err_from_is_err_and c.from_residual-in_err-abbreviation.result c.from_residual-in_err-abbreviation.ensures.1 in
    let same : g.R.Reader.section c.in_ok-duplicate.field-0 ≡ c.args.header.now.entries = (let d = c.in_ok-duplicate.ensures.gives in let e = ap (λ h. h.entries) c.header.view_is in cc) in
    let fault = rw (c.new-entries.ensures.gives, same) at c.in_err-abbreviation.ensures.gives in
    record { gives = rw (p.1, p.2) (λ ne. root_values_by _ _ _ _ fault) }

pub returns-in_err-take_attributes-in-Some : goal.returns-in_err-take_attributes-in-Some
returns-in_err-take_attributes-in-Some g c =
    let p = err_from_is_err_and c.from_residual-in_err-take_attributes-in-Some.result c.from_residual-in_err-take_attributes-in-Some.ensures.1 in
    let same : g.R.Reader.section c.in_ok-duplicate.field-0 ≡ c.args.header.now.entries = (let d = c.in_ok-duplicate.ensures.gives in let e = ap (λ h. h.entries) c.header.view_is in cc) in
    let code = rw (c.new-entries.ensures.gives, same, c.in-Some.is) at c.in_ok-abbreviation.ensures.gives in
    let sizes : c.header.inside.encoding ≡ c.args.header.now.encoding = ap (λ h. h.encoding) c.header.view_is in
    let encoding = ap (λ u. u.encoding) (c.in_ok-abbreviation.ensures.unit ∙ ap (λ e. e.unit) c.new-entries.ensures.gives) in
    let fault = rw (encoding, c.new-root.ensures.gives, c.attributes-specifications.ensures.gives, sizes) at c.in_err-take_attributes-in-Some.ensures.gives in
    record { gives = rw (p.1, p.2) (λ ne. root_values_by _ _ _ _ code ∙ fault ne) }

pub returns-in-Some : goal.returns-in-Some
returns-in-Some g c =
    let same : g.R.Reader.section c.in_ok-duplicate.field-0 ≡ c.args.header.now.entries = (let d = c.in_ok-duplicate.ensures.gives in let e = ap (λ h. h.entries) c.header.view_is in cc) in
    let code = rw (c.new-entries.ensures.gives, same, c.in-Some.is) at c.in_ok-abbreviation.ensures.gives in
    let sizes : c.header.inside.encoding ≡ c.args.header.now.encoding = ap (λ h. h.encoding) c.header.view_is in
    let encoding = ap (λ u. u.encoding) (c.in_ok-abbreviation.ensures.unit ∙ ap (λ e. e.unit) c.new-entries.ensures.gives) in
    let given = rw (encoding, c.new-root.ensures.gives, c.attributes-specifications.ensures.gives, sizes) at c.in_ok-take_attributes-in-Some.ensures.gives in
    record { gives = root_values_by _ _ _ _ code ∙ given }

pub returns : goal.returns
returns g c =
    let same : g.R.Reader.section c.in_ok-duplicate.field-0 ≡ c.args.header.now.entries = (let d = c.in_ok-duplicate.ensures.gives in let e = ap (λ h. h.entries) c.header.view_is in cc) in
    let code = rw (c.new-entries.ensures.gives, same, c.in-None.is) at c.in_ok-abbreviation.ensures.gives in
    record { gives = λ ne. root_values_by _ _ _ _ code }

pub take_attributes-requires-clause-others : goal.take_attributes-requires-clause-others
take_attributes-requires-clause-others g c = λ root a h. ap Ok (still_root c.header.inside.encoding root a h)
