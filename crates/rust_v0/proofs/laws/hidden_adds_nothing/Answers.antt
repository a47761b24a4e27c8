use Rattle.rust_v0.proofs.ReadLawProofs.{instance_not_shown, keeps_state}
use Rattle.rust_v0.proofs.laws.hidden_adds_nothing.Goals as goal

pub returns : goal.returns
returns c = record { law = record { production = keeps_state; instance = instance_not_shown } }
