use Rattle.elf.proofs.Utf8Lemmas.{utf8_some, utf8_none}
use Rattle.elf.proofs.symbol.utf8_in.Goals as goal

pub returns-in-Ok : goal.returns-in-Ok
returns-in-Ok c = record { gives = utf8_some _ _ c.in-Ok.ensures.cases.0 c.in-Ok.ensures.cases.1 }

pub returns-in-Err : goal.returns-in-Err
returns-in-Err c = record { gives = utf8_none _ c.in-Err.ensures.cases.0 }
