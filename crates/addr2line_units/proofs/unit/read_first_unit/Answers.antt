use Rattle.addr2line_units.proofs.Common.{rules, sym, ◌≡◌, ◌∙◌, err_from_is_err_and, all_headers}
use Rattle.addr2line_units.proofs.UnitsIndexLemmas.{given_fault, given_some}
use Rattle.addr2line_units.proofs.UnitViewLemmas.{first_faulty, first_refused, first_shared, first_taken}
use Rattle.addr2line_units.proofs.unit.read_first_unit.Goals as goal

pub returns-in_err-headers : goal.returns-in_err-headers
returns-in_err-headers g c =
    let p = err_from_is_err_and c.from_residual.result c.from_residual.ensures.1 in
    record { gives = rw (p.1, p.2) (λ may. absurd (let no = c.in_err-headers.ensures.gives (λ shares _. may (first_shared g.R.Reader.shares c.args.dwarf.now shares)) in cc)) }

pub returns-in_err-header : goal.returns-in_err-header
returns-in_err-header g c =
    let p = err_from_is_err_and c.from_residual-in_err-header.result c.from_residual-in_err-header.ensures.1 in
    let d = c.args.dwarf.now in
    let all : c.in_ok-headers.headers ≡ all_headers d.debug_info = search rules in
    record {
      gives = rw (p.1, p.2) (λ may.
          let left = given_fault _ _ (c.in_err-header.ensures.gives (λ shares _. may (first_shared g.R.Reader.shares d shares))) in
          first_refused g.R.Reader.shares d _ _ (sym all ∙ left));
    }

pub returns-in_err-unit-in-Some : goal.returns-in_err-unit-in-Some
returns-in_err-unit-in-Some g c =
    let p = err_from_is_err_and c.from_residual-in_err-unit-in-Some.result c.from_residual-in_err-unit-in-Some.ensures.1 in
    let d = c.args.dwarf.now in
    let all : c.in_ok-headers.headers ≡ all_headers d.debug_info = search rules in
    let left = sym all ∙ given_some _ _ _ (rw c.in-Some.is at c.in_ok-header.ensures.gives) in
    record {
      gives = rw (p.1, p.2) (λ may. first_faulty g.R.Reader.shares d _ _ _ left (c.in_err-unit-in-Some.ensures.gives (λ takes. may (first_taken g.R.Reader.shares d _ _ left takes))));
    }
