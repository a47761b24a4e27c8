use Rattle.addr2line_lines.proofs.Common.{take, ap, subst, sym, ◌∙◌, AreNamesOf, KnownNames, as_names}
use Rattle.addr2line_lines.specs.Scopes.{snapshot_unit}
use Rattle.addr2line_lines.proofs.CachedNameLemmas.{first_right}
use Rattle.addr2line_lines.proofs.names.UnitNames.truncate.Goals as goal

pub invariant_of-self : goal.invariant_of-self
invariant_of-self g c =
    let x = snapshot_unit c.self.inside.unit.value in
    subst (AreNamesOf x) (sym c.truncate.ensures.gives) (first_right x c.args.names (as_names g.R.Reader.section c.self.inside.cached) c.self.invariant)

pub returns-clause-names : goal.returns-clause-names
returns-clause-names g c = c.truncate.ensures.gives ∙ ap (λ (k : KnownNames). take c.args.names k.names) c.self.view_is
