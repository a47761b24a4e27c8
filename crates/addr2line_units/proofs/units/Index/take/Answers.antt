use Rattle.addr2line_units.proofs.Common.{◌≡◌, Ok, Some, ap, subst, unit_of_header_at_cost}
use Rattle.addr2line_units.specs.UnitsIndexed.{IndexState, as_ranged_unit}
use Rattle.addr2line_units.proofs.UnitsIndexLemmas.{header_gives}
use Rattle.addr2line_units.proofs.units.Index.take.Goals as goal

pub returns-in-Some-clause-gives : goal.returns-in-Some-clause-gives
returns-in-Some-clause-gives g c =
    let unit = as_ranged_unit c.in-Some.dw_unit c.in-Some.lang c.in-Some.listed.items in
    let read = rw c.in-Some.is at c.in_ok-dw_unit.ensures.gives in
    header_gives c.args.self g.R.Reader.shares c.args.aranges.now c.args.header unit (λ i. i) c.push.result
    (subst (λ d. (unit_of_header_at_cost d c.args.aranges.now c.args.header).given ≡ Ok (Some unit)) (ap (λ (m : IndexState). m.sections) c.self.view_is) read) c.push.ensures.gives
