use Rattle.addr2line_units.proofs.Common.{Ok, ap, rules, sym, ◌++◌, ◌∙◌, ◌≡◌, err_from_is_err_and, free, all_headers, stored_units_of}
use Rattle.std.proofs.lemmas.List.{append_assoc}
use Rattle.gimli_read.specs.Costed.{◌>>=◌}
use Rattle.addr2line_units.specs.UnitsMemory.{sup_unit_of_header_at_cost}
use Rattle.addr2line_units.proofs.UnitsMemoryLemmas.{fault_of_rest, put_to_nothing, rest_of_plain, rest_of_rest, shared_take, unit_fault, unit_step, units_given}
use Rattle.addr2line_units.proofs.UnitsIndexLemmas.{given_fault, given_some, shorter}
use Rattle.addr2line_units.proofs.sup.read_sup_units.Goals as goal

pub returns-in_err-headers : goal.returns-in_err-headers
returns-in_err-headers g c =
    let p = err_from_is_err_and c.from_residual.result c.from_residual.ensures.1 in
    let d = c.args.dwarf.now in
    record { gives = rw (p.1, p.2) (λ may. absurd (let no = c.in_err-headers.ensures.gives (λ e _. may (shared_take g.R.Reader.shares (sup_unit_of_header_at_cost d) (all_headers d.debug_info) e)) in cc)) }

pub loop-units-init : goal.loop-units-init
loop-units-init g c =
    let all : c.in_ok-headers.headers ≡ all_headers c.args.dwarf.now.debug_info = search rules in
    record {
      left = rw (all, c.new-units.ensures.items) (rest_of_rest (put_to_nothing g.R.Reader.shares _) (rest_of_plain g.R.Reader.shares _ _ (units_given (sup_unit_of_header_at_cost c.args.dwarf.now) (all_headers c.args.dwarf.now.debug_info))));
      same = search rules;
    }

pub loop-units-preserved : goal.loop-units-preserved
loop-units-preserved g c =
    let i = c.loop-units.invariant in
    let before = c.loop-units.units.items in
    let left = given_some _ _ _ (rw c.in-Some.is at c.in_ok-header.ensures.gives) in
    record {
      left = rest_of_rest (unit_step g.R.Reader.shares (sup_unit_of_header_at_cost c.args.dwarf.now) (◌++◌) before _ _ _ left _ (λ us vs. sym (append_assoc before us vs)) (rw i.same at c.in_ok-push_sup_unit.ensures.gives)) i.left;
      same = c.in_ok-push_sup_unit.ensures.dwarf ∙ i.same;
    }

pub returns-in_err-push_sup_unit : goal.returns-in_err-push_sup_unit
returns-in_err-push_sup_unit g c =
    let p = err_from_is_err_and c.from_residual-in_err-push_sup_unit.result c.from_residual-in_err-push_sup_unit.ensures.1 in
    let i = c.loop-units.invariant in
    let left = given_some _ _ _ (rw c.in-Some.is at c.in_ok-header.ensures.gives) in
    record { gives = rw (p.1, p.2) (fault_of_rest g.R.Reader.shares _ _ _ i.left (unit_fault g.R.Reader.shares (sup_unit_of_header_at_cost c.args.dwarf.now) (◌++◌) c.loop-units.units.items _ _ _ left _ (rw i.same at c.in_err-push_sup_unit.ensures.gives))) }

pub loop-units-smaller : goal.loop-units-smaller
loop-units-smaller g c = shorter _ _ _ (given_some _ _ _ (rw c.in-Some.is at c.in_ok-header.ensures.gives))

pub returns-in_err-header : goal.returns-in_err-header
returns-in_err-header g c =
    let p = err_from_is_err_and c.from_residual-in_err-header.result c.from_residual-in_err-header.ensures.1 in
    let d = c.args.dwarf.now in
    let read = sup_unit_of_header_at_cost d in
    record {
      gives = rw (p.1, p.2) (λ may.
          let left = given_fault _ _ (c.in_err-header.ensures.gives (λ e _. may (shared_take g.R.Reader.shares read (all_headers d.debug_info) e))) in
          sym c.loop-units.invariant.left.gives ∙ ap (λ headers. (stored_units_of read headers >>= λ units. free (Ok (c.loop-units.units.items ++ units))).given) left);
    }
