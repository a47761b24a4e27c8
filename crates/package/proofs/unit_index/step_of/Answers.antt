use Rattle.package.proofs.Common.{arith}
use Rattle.package.proofs.NumberLemmas.{odd_fits}
use Rattle.package.proofs.unit_index.step_of.Goals as goal

pub returns-clause-bound : goal.returns-clause-bound
returns-clause-bound c = odd_fits _ (omega arith)
