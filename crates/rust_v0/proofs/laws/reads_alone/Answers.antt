use Rattle.rust_v0.proofs.AloneLemmas.{limits_only_refuse, text_not_read}
use Rattle.rust_v0.proofs.laws.reads_alone.Goals as goal

pub returns : goal.returns
returns c = record { law = record { text = text_not_read; limits = limits_only_refuse } }
