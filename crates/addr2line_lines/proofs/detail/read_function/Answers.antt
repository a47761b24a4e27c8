use Rattle.addr2line_lines.proofs.Common.{[], Ok, ap, option_map, subst, sym, ◌∙◌, err_from_is_err_and, ◌>>=◌, as_lists, as_scope, or_left}
use Rattle.addr2line_lines.specs.FoundItems.{inside_found, as_around}
use Rattle.addr2line_lines.proofs.CachedNameLemmas.{names_on}
use Rattle.addr2line_lines.proofs.CostLemmas.{IsPartOf, map_part, refused_part}
use Rattle.addr2line_lines.proofs.NestingLemmas.{found_same, function-found, name-part}
use Rattle.addr2line_lines.proofs.detail.read_function.Goals as goal

pub returns-in_err-name : goal.returns-in_err-name
returns-in_err-name g c =
    let p = err_from_is_err_and c.from_residual.result c.from_residual.ensures.1 in
    let fault = rw c.attributes.ensures.gives at c.in_err-name.ensures.gives in
    record { gives = rw (p.1, p.2) (λ ne. (name-part (as_scope c.args.scope) c.args.unit.now c.args.entries.now.unit c.args.entries.now.cursor (as_lists c.args.found.now) c.args.abbreviation.now).fault _ (fault (λ s. ne (or_left g.R.Reader.shares _ s)))); kept = found_same _; names = c.in_err-name.ensures.names }

pub returns-in_err-read_inside : goal.returns-in_err-read_inside
returns-in_err-read_inside g c =
    let p = err_from_is_err_and c.from_residual-in_err-read_inside.result c.from_residual-in_err-read_inside.ensures.1 in
    let scope = as_scope c.args.scope in
    let u = c.args.unit.now in
    let name = rw c.attributes.ensures.gives at c.in_ok-name.ensures.gives in
    let rest = rw c.attributes.ensures.gives at c.in_ok-name.ensures.left in
    let found = function-found scope u c.args.entries.now.unit c.args.entries.now.cursor _ _ (as_lists c.args.found.now) c.args.abbreviation.now _ name rest c.in_ok-name.ensures.depth c.in_ok-name.ensures.unit in
    let inside = inside_found scope u c.read_name.new.entries.unit c.read_name.new.entries.cursor (as_around c.args.found.now []) in
    let part = subst (IsPartOf inside) (sym found) (map_part (λ more. (option_map g.R.Reader.section c.in_ok-name.name, more)) inside) in
    record { gives = rw (p.1, p.2) (refused_part g.R.Reader.shares _ part c.in_err-read_inside.ensures.gives); kept = c.in_err-read_inside.ensures.kept; names = names_on _ _ _ c.in_ok-name.ensures.names c.in_err-read_inside.ensures.names }

pub returns : goal.returns
returns g c =
    let scope = as_scope c.args.scope in
    let u = c.args.unit.now in
    let unit = c.args.entries.now.unit in
    let name = rw c.attributes.ensures.gives at c.in_ok-name.ensures.gives in
    let rest = rw c.attributes.ensures.gives at c.in_ok-name.ensures.left in
    let found = function-found scope u unit c.args.entries.now.cursor _ _ (as_lists c.args.found.now) c.args.abbreviation.now _ name rest c.in_ok-name.ensures.depth c.in_ok-name.ensures.unit in
    record { gives = ap (λ x. x.given) found ∙ ap (λ r. r >>= λ more. Ok (option_map g.R.Reader.section c.in_ok-name.name, more)) c.in_ok-read_inside.ensures.gives; kept = c.in_ok-read_inside.ensures.kept; names = names_on _ _ _ c.in_ok-name.ensures.names c.in_ok-read_inside.ensures.names }

pub read_inside-requires-clause-unit : goal.read_inside-requires-clause-unit
read_inside-requires-clause-unit g c = c.in_ok-name.ensures.names.unit ∙ c.requires.unit
