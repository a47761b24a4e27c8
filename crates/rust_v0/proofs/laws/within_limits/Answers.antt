use Rattle.rust_v0.proofs.ReadLawProofs.{name_within_limits, reads_count, reads_stop, text_grows}
use Rattle.rust_v0.proofs.laws.within_limits.Goals as goal

pub returns : goal.returns
returns c = record { law = record { stop = reads_stop; count = reads_count; text = text_grows; name = name_within_limits } }
