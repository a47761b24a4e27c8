use Rattle.addr2line_lines.proofs.Common.{[], List, subst, sym, ap, ◌∙◌, err_from_is_err_and, Kind, as_scope}
use Rattle.addr2line_lines.specs.FoundItems.{inside_found, as_around}
use Rattle.addr2line_lines.proofs.CachedNameLemmas.{names_on, names_same}
use Rattle.addr2line_lines.proofs.CostLemmas.{IsRestOf, part_on, refused_part, rest_on, rest_part, rest_same}
use Rattle.addr2line_lines.proofs.NestingLemmas.{found_on, found_same, inside-end, inside-part, inside-step}
use Rattle.addr2line_lines.proofs.detail.read_inside.Goals as goal

pub loop-scope-init : goal.loop-scope-init
loop-scope-init g c =
    let whole = inside_found (as_scope c.args.scope) c.args.unit.now c.args.entries.now.unit c.args.entries.now.cursor (as_around c.args.found.now []) in
    record {
      rest = subst (λ (k : List Kind). IsRestOf (inside_found (as_scope c.args.scope) c.args.unit.now c.args.entries.now.unit c.args.entries.now.cursor (as_around c.args.found.now k)) whole) (sym c.clear.ensures.gives) (rest_same whole);
      kept = found_same _;
      unit = c.requires.encoding;
      names = names_same _;
    }

pub loop-scope-preserved : goal.loop-scope-preserved
loop-scope-preserved g c =
    let scope = as_scope c.args.scope in
    let u = c.args.unit.now in
    let i = c.loop-scope.invariant in
    let now = c.read_item.new in
    let step = inside-step scope u _ _ _ _ _ (sym c.loop-scope-test.ensures.gives) c.in_ok-read_item.ensures.gives in
    record {
      rest = rest_on (subst (λ v. IsRestOf (inside_found scope u v now.entries.cursor (as_around now.found now.nesting)) (inside_found scope u c.loop-scope.entries.unit c.loop-scope.entries.cursor (as_around c.loop-scope.found c.loop-scope.nesting))) (sym c.in_ok-read_item.ensures.unit) step) i.rest;
      kept = found_on _ _ _ i.kept c.in_ok-read_item.ensures.kept;
      unit = ap (λ v. v.encoding) c.in_ok-read_item.ensures.unit ∙ i.unit;
      names = names_on _ _ _ i.names c.in_ok-read_item.ensures.names;
    }

pub returns-in_err-read_item : goal.returns-in_err-read_item
returns-in_err-read_item g c =
    let p = err_from_is_err_and c.from_residual.result c.from_residual.ensures.1 in
    let i = c.loop-scope.invariant in
    let part = part_on (inside-part (as_scope c.args.scope) c.args.unit.now _ _ _ (sym c.loop-scope-test.ensures.gives)) (rest_part i.rest) in
    record { gives = rw (p.1, p.2) (refused_part g.R.Reader.shares _ part c.in_err-read_item.ensures.gives); kept = found_on _ _ _ i.kept c.in_err-read_item.ensures.kept; names = names_on _ _ _ i.names c.in_err-read_item.ensures.names }

pub returns : goal.returns
returns g c =
    let i = c.loop-scope.invariant in
    record { gives = i.rest.given ∙ inside-end (as_scope c.args.scope) c.args.unit.now _ _ _ (sym c.loop-scope-test.ensures.gives); kept = i.kept; names = i.names }

pub read_item-requires-clause-unit : goal.read_item-requires-clause-unit
read_item-requires-clause-unit g c = c.loop-scope.invariant.names.unit ∙ c.requires.unit
