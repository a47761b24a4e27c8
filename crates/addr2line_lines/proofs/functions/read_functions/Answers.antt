use Rattle.addr2line_lines.proofs.Common.{sym, ap, subst, ◌∙◌, err_from_is_err_and, as_functions}
use Rattle.addr2line_lines.proofs.CostLemmas.{IsRestOf, part_on, refused_part, rest_on, rest_part}
use Rattle.addr2line_lines.proofs.FunctionMemory.{found_end, found_from, found_part, found_step}
use Rattle.addr2line_lines.proofs.FunctionOrder.{functions_agree}
use Rattle.addr2line_lines.proofs.functions.read_functions.Goals as goal

pub loop-unit-preserved : goal.loop-unit-preserved
loop-unit-preserved g c =
    let d = c.args.unit.dwarf.now in
    let u = c.args.unit.unit.now in
    let i = c.loop-unit.invariant in
    let old = c.loop-unit in
    let now = c.read_item.new in
    let step = found_step d u _ _ _ _ _ (sym c.loop-unit-test.ensures.gives) c.in_ok-read_item.ensures.gives in
    record {
      rest = rest_on (subst (λ v. IsRestOf (found_from d u v now.entries.cursor (as_functions now.found)) (found_from d u old.entries.unit old.entries.cursor (as_functions old.found))) (sym c.in_ok-read_item.ensures.unit) step) i.rest;
      unit = ap (λ v. v.encoding) c.in_ok-read_item.ensures.unit ∙ i.unit;
      unread = c.in_ok-read_item.ensures.empty i.unread;
    }

pub returns-in_err-read_item : goal.returns-in_err-read_item
returns-in_err-read_item g c =
    let p = err_from_is_err_and c.from_residual-in_err-read_item.result c.from_residual-in_err-read_item.ensures.1 in
    let d = c.args.unit.dwarf.now in
    let u = c.args.unit.unit.now in
    let i = c.loop-unit.invariant in
    let part = part_on (found_part d u _ _ _ (sym c.loop-unit-test.ensures.gives)) (rest_part i.rest) in
    record {
      gives = rw (p.1, p.2) (λ ne. refused_part g.R.Reader.shares _ part c.in_err-read_item.ensures.gives (λ takes. ne ((functions_agree d u).takes g.R.Reader.shares takes)));
      empty = rw p.1 tt;
    }

pub returns : goal.returns
returns g c =
    let i = c.loop-unit.invariant in
    record {
      gives = i.rest.given ∙ found_end c.args.unit.dwarf.now c.args.unit.unit.now _ _ _ (sym c.loop-unit-test.ensures.gives);
      empty = i.unread;
    }
