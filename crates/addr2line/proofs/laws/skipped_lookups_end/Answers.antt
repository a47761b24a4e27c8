use Rattle.addr2line.proofs.SkipLawLemmas.{skipped_gives_same, skipped_waits_for_none}
use Rattle.addr2line.proofs.laws.skipped_lookups_end.Goals as goal

pub returns : goal.returns
returns c = record { law = record { ends = skipped_waits_for_none; same = skipped_gives_same } }
