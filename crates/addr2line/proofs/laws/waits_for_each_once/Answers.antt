use Rattle.addr2line.proofs.HistoryLawLemmas.{each_once}
use Rattle.addr2line.proofs.laws.waits_for_each_once.Goals as goal

pub returns : goal.returns
returns c = record { law = each_once }
