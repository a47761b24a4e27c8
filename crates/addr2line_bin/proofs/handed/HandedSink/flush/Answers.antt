use Rattle.addr2line_bin.specs.Gave.{gave}
use Rattle.addr2line_bin.proofs.handed.HandedSink.flush.Goals as goal

pub returns-in-Ok-clause-gives : goal.returns-in-Ok-clause-gives
returns-in-Ok-clause-gives g c = gave _ _ _

pub returns-in-Err-clause-gives : goal.returns-in-Err-clause-gives
returns-in-Err-clause-gives g c = gave _ _ _
