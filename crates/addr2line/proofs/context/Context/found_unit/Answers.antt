use Rattle.addr2line.proofs.Common.{option_map, sym, ◌≡◌, ◌∙◌, unit_found}
use Rattle.addr2line_units.specs.SupScope.{as_unit}
use Rattle.addr2line.proofs.AfterLemmas.{unit_found_is}
use Rattle.addr2line.proofs.ContextLemmas.{of_made}
use Rattle.addr2line.proofs.context.Context.found_unit.Goals as goal

pub returns : goal.returns
returns g c =
    let s = c.self.inside in
    let i = c.self.invariant in
    let found = of_made s.ranges s.units i (λ x xs rs. option_map as_unit c.unit.result ≡ unit_found x.file.sections x.file.units s.units.answers s.units.stop) c.unit.ensures.gives i.made i.indexed in
    record { gives = rw (sym c.self.view_is) (found ∙ unit_found_is s.units.scope.file.sections s.units.answers s.units.stop i.made i.indexed) }
