use Rattle.itanium.proofs.WorkedProofs.{worked_names}
use Rattle.itanium.proofs.laws.worked_names.Goals as goal

pub returns : goal.returns
returns c = record { law = worked_names }
