use Rattle.addr2line_lines.proofs.Common.{ap, sym, subst, ◌∙◌, err_from_is_err_and, ExactlyUnlessOomIf, as_name_or_origin, as_place}
use Rattle.addr2line_lines.proofs.NameLemmas.{visited_by, visited_fault}
use Rattle.addr2line_lines.proofs.NestingLemmas.{detail-encoding}
use Rattle.addr2line_lines.proofs.name.visit.Goals as goal

pub returns-in_err-entries : goal.returns-in_err-entries
returns-in_err-entries g c =
    let p = err_from_is_err_and c.from_residual.result c.from_residual.ensures.1 in
    let fault = rw c.new-unit.ensures.unit at c.in_err-entries.ensures.gives in
    record { gives = rw (p.1, p.2) (λ ne. visited_fault (as_place c.args.place) _ (fault (λ shares _. ne shares))) }

pub returns-in_err-abbreviation : goal.returns-in_err-abbreviation
returns-in_err-abbreviation g c =
    let p = err_from_is_err_and c.from_residual-in_err-abbreviation.result c.from_residual-in_err-abbreviation.ensures.1 in
    let opened = rw c.new-unit.ensures.unit at c.in_ok-entries.ensures.gives in
    record { gives = rw (p.1, p.2) (λ ne. visited_by (as_place c.args.place) _ _ opened c.in_err-abbreviation.ensures.gives) }

pub returns-in-Some : goal.returns-in-Some
returns-in-Some g c =
    let opened = rw c.new-unit.ensures.unit at c.in_ok-entries.ensures.gives in
    let code = rw c.in-Some.is at c.in_ok-abbreviation.ensures.gives in
    let given = rw c.attributes.ensures.gives at c.read_names.ensures.gives in
    record { gives = subst (ExactlyUnlessOomIf g.R.Reader.shares (as_name_or_origin g.R.Reader.section) c.read_names.result) (sym (visited_by (as_place c.args.place) _ _ opened code)) given }

pub returns : goal.returns
returns g c =
    let opened = rw c.new-unit.ensures.unit at c.in_ok-entries.ensures.gives in
    let code = rw c.in-None.is at c.in_ok-abbreviation.ensures.gives in
    record { gives = λ ne. visited_by (as_place c.args.place) _ _ opened code }

pub read_names-requires : goal.read_names-requires
read_names-requires g c =
    let opened = rw c.new-unit.ensures.unit at c.in_ok-entries.ensures.gives in
    record { encoding = ap (λ v. v.encoding) c.in_ok-abbreviation.ensures.unit ∙ detail-encoding c.args.place.unit.now c.args.place.offset.0 _ opened }
