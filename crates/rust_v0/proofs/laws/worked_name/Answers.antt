use Rattle.rust_v0.proofs.WorkedProofs.{worked_function}
use Rattle.rust_v0.proofs.laws.worked_name.Goals as goal

pub returns : goal.returns
returns c = record { law = worked_function }
