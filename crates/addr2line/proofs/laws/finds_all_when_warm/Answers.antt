use Rattle.addr2line.proofs.WarmUpLemmas.{finds_all, locates}
use Rattle.addr2line.proofs.laws.finds_all_when_warm.Goals as goal

pub returns : goal.returns
returns c = record { law = record { found = finds_all; located = locates } }
