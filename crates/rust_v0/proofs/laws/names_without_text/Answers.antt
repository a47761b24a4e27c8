use Rattle.rust_v0.proofs.NameLawProofs.{needs_ascii, needs_prefix, needs_upper_case}
use Rattle.rust_v0.proofs.laws.names_without_text.Goals as goal

pub returns : goal.returns
returns c = record { law = record { prefix = needs_prefix; upper_case = needs_upper_case; ascii = needs_ascii } }
