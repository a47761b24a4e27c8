use Rattle.rust_v0.proofs.ReadLawProofs.{name_read_once, reads_on, reads_once}
use Rattle.rust_v0.proofs.laws.read_onward.Goals as goal

pub returns : goal.returns
returns c = record { law = record { onward = reads_on; once = reads_once; name = name_read_once } }
