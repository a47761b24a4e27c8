use Rattle.addr2line_lines.proofs.Common.{ap, subst, sym, ◌∙◌, err_from_is_err_and, ExactlyAtCost, EntryUnit, named_lists, as_lists, as_scope, or_left}
use Rattle.addr2line_lines.specs.CostedSteps.{on_parts}
use Rattle.addr2line_lines.specs.FoundDetails.{function_found_at}
use Rattle.addr2line_lines.proofs.CachedNameLemmas.{names_same}
use Rattle.addr2line_lines.proofs.NestingLemmas.{detail-encoding, detail-opened, detail-read, found_same}
use Rattle.addr2line_lines.proofs.detail.read_detail.Goals as goal

pub returns-in_err-entries : goal.returns-in_err-entries
returns-in_err-entries g c =
    let p = err_from_is_err_and c.from_residual.result c.from_residual.ensures.1 in
    let fault = rw c.new.ensures.unit at c.in_err-entries.ensures.gives in
    record { gives = rw (p.1, p.2) (λ ne. ap (λ x. x.given) (detail-read (as_scope c.args.scope) c.args.unit.now c.args.offset.0 (as_lists c.args.found.now) _ (fault (λ s _. ne (or_left g.R.Reader.shares _ s))))); kept = found_same _; names = names_same _ }

pub returns-in_err-abbreviation-clause-gives : goal.returns-in_err-abbreviation-clause-gives
returns-in_err-abbreviation-clause-gives g c =
    let p = err_from_is_err_and c.from_residual-in_err-abbreviation.result c.from_residual-in_err-abbreviation.ensures.1 in
    let opened = rw c.new.ensures.unit at c.in_ok-entries.ensures.gives in
    rw (p.1, p.2) (λ _. ap (λ x. x.given) (detail-opened (as_scope c.args.scope) c.args.unit.now c.args.offset.0 (as_lists c.args.found.now) _ _ opened c.in_err-abbreviation.ensures.gives))

pub returns-in_err-abbreviation-clause-kept : goal.returns-in_err-abbreviation-clause-kept
returns-in_err-abbreviation-clause-kept g c = found_same _

-- what is given of a function is given of its detail
pub returns-in-Some-clause-gives : goal.returns-in-Some-clause-gives
returns-in-Some-clause-gives g c =
    let scope = as_scope c.args.scope in
    let u = c.args.unit.now in
    let old = as_lists c.args.found.now in
    let opened = rw c.new.ensures.unit at c.in_ok-entries.ensures.gives in
    let coded = rw c.in-Some.is at c.in_ok-abbreviation.ensures.gives in
    subst (λ x. ExactlyAtCost g.R.Reader.shares (named_lists g.R.Reader.section c.read_function.new.found) c.read_function.result (on_parts x)) (sym (detail-opened scope u c.args.offset.0 old _ _ opened coded))
    (subst (λ (v : EntryUnit). ExactlyAtCost g.R.Reader.shares (named_lists g.R.Reader.section c.read_function.new.found) c.read_function.result (on_parts (function_found_at scope u v c.read_abbreviation.new.self.cursor old c.in-Some.abbreviation.now))) c.in_ok-abbreviation.ensures.unit
    c.read_function.ensures.gives)

pub returns-in-Some-clause-kept : goal.returns-in-Some-clause-kept
returns-in-Some-clause-kept g c = c.read_function.ensures.kept

pub returns-clause-gives : goal.returns-clause-gives
returns-clause-gives g c =
    let opened = rw c.new.ensures.unit at c.in_ok-entries.ensures.gives in
    let coded = rw c.in-None.is at c.in_ok-abbreviation.ensures.gives in
    λ _. ap (λ x. x.given) (detail-opened (as_scope c.args.scope) c.args.unit.now c.args.offset.0 (as_lists c.args.found.now) _ _ opened coded)

pub returns-clause-kept : goal.returns-clause-kept
returns-clause-kept g c = found_same _

pub read_function-requires-clause-encoding : goal.read_function-requires-clause-encoding
read_function-requires-clause-encoding g c =
    let opened = rw c.new.ensures.unit at c.in_ok-entries.ensures.gives in
    ap (λ v. v.encoding) c.in_ok-abbreviation.ensures.unit ∙ detail-encoding c.args.unit.now c.args.offset.0 _ opened

pub returns-in_err-abbreviation-clause-names : goal.returns-in_err-abbreviation-clause-names
returns-in_err-abbreviation-clause-names g c = names_same _

pub returns-in-Some-clause-names : goal.returns-in-Some-clause-names
returns-in-Some-clause-names g c = c.read_function.ensures.names

pub returns-clause-names : goal.returns-clause-names
returns-clause-names g c = names_same _
