use Rattle.rust_v0.proofs.TextLawProofs.{bounded_text}
use Rattle.rust_v0.proofs.laws.bounded_text.Goals as goal

pub returns : goal.returns
returns c = record { law = bounded_text }
