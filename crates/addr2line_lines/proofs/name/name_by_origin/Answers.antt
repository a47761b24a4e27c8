use Rattle.addr2line_lines.proofs.Common.{subst, sym, ExactlyUnlessOomIf, found_name, as_scope}
use Rattle.gimli_read.specs.declared.value.AttributeValue.TheVariants as values
use Rattle.addr2line_lines.proofs.CachedNameLemmas.{names_same}
use Rattle.addr2line_lines.proofs.NameLemmas.{referred_else, referred_stays}
use Rattle.addr2line_lines.proofs.name.name_by_origin.Goals as goal

pub returns-then-is_some : goal.returns-then-is_some
returns-then-is_some g c =
    record { gives = referred_stays (as_scope c.args.scope) c.args.unit.now (found_name g.R.Reader.section c.args.name) (values.UnitRef c.args.offset) c.if-is_some.ensures.gives; names = names_same _ }

pub returns : goal.returns
returns g c =
    let by = referred_else (as_scope c.args.scope) c.args.unit.now (found_name g.R.Reader.section c.args.name) (values.UnitRef c.args.offset) c.if-is_some.ensures.gives in
    record { gives = subst (ExactlyUnlessOomIf g.R.Reader.shares (found_name g.R.Reader.section) c.find_or_read.result) (sym by) c.find_or_read.ensures.gives; names = c.find_or_read.ensures.names }
