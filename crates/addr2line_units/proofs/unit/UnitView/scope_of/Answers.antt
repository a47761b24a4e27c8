use Rattle.addr2line_units.proofs.UnitViewLemmas.{scope_of_split}
use Rattle.addr2line_units.proofs.unit.UnitView.scope_of.Goals as goal

pub returns-in-Some-clause-gives : goal.returns-in-Some-clause-gives
returns-in-Some-clause-gives g c = scope_of_split _ _ c.args.self.now c.in-Some.ensures.gives

pub returns-in-None-clause-gives : goal.returns-in-None-clause-gives
returns-in-None-clause-gives g c = scope_of_split _ _ c.args.self.now c.in-None.ensures.gives
