use Rattle.package.proofs.SearchLemmas.{NoneEnds}
use Rattle.package.proofs.unit_index.UnitIndex.find.Given as goal

abbrev pub invariant-loop-others : goal.invariant-loop-others
invariant-loop-others g l = NoneEnds l.self l.id l.slots l.others
