use Rattle.addr2line_lines.proofs.Common.{option_map, subst, sym, err_from_is_err_and, ExactlyUnlessOomIf, as_scope}
use Rattle.addr2line_lines.proofs.CachedNameLemmas.{names_growth, names_same}
use Rattle.addr2line_lines.proofs.DetailLemmas.{nameless}
use Rattle.addr2line_lines.proofs.RangeLemmas.{on_ok}
use Rattle.addr2line_lines.proofs.detail.read_name.Goals as goal

pub returns-in_err-take_attributes-clause-gives : goal.returns-in_err-take_attributes-clause-gives
returns-in_err-take_attributes-clause-gives g c =
    let p = err_from_is_err_and c.from_residual.result c.from_residual.ensures.1 in
    rw (p.1, p.2) (rw (c.requires.encoding, c.none-name.ensures.gives) at c.in_err-take_attributes.ensures.gives)

pub returns-clause-gives : goal.returns-clause-gives
returns-clause-gives g c =
    let given = rw (c.requires.encoding, c.none-name.ensures.gives) at c.in_ok-take_attributes.ensures.gives in
    subst (ExactlyUnlessOomIf g.R.Reader.shares (option_map g.R.Reader.section) c.own.result) (sym given) c.own.ensures.gives

pub returns-clause-left : goal.returns-clause-left
returns-clause-left g c = on_ok _ c.own.result (rw c.requires.encoding at c.in_ok-take_attributes.ensures.left)

pub take_attributes-requires-clause-others : goal.take_attributes-requires-clause-others
take_attributes-requires-clause-others g c = nameless (as_scope c.args.scope) c.args.unit.now

pub take_attributes-requires-clause-growth : goal.take_attributes-requires-clause-growth
take_attributes-requires-clause-growth g c = names_growth (as_scope c.args.scope) c.args.unit.now

pub take_attributes-requires-clause-cache : goal.take_attributes-requires-clause-cache
take_attributes-requires-clause-cache g c = record { in_order = c.requires.in_order; unit = c.requires.unit; more = names_same _ }
