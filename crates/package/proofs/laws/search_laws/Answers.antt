use Rattle.package.proofs.ProbeLemmas.{looks_once}
use Rattle.package.proofs.laws.search_laws.Goals as goal

pub returns : goal.returns
returns c = record { law = λ id unit_count slot_count may. looks_once id unit_count slot_count may }
