use Rattle.addr2line.proofs.Common.{Some, None, Ok, Err, ap, refl, sym, PathNotUtf8}
use Rattle.elf.proofs.Utf8Lemmas.{utf8_some, utf8_none}
use Rattle.addr2line.proofs.split_files.text_of.Goals as goal

pub returns-in-Ok : goal.returns-in-Ok
returns-in-Ok c = record { gives = ap (λ o. elim o [ None ↦ Err PathNotUtf8 | Some text ↦ Ok text ]) (sym (utf8_some _ _ c.in-Ok.ensures.cases.0 c.in-Ok.ensures.cases.1)); kept = c.in-Ok.ensures.cases.0; refused = tt }

pub returns-in-Err : goal.returns-in-Err
returns-in-Err c = record { gives = ap (λ o. elim o [ None ↦ Err PathNotUtf8 | Some text ↦ Ok text ]) (sym (utf8_none _ c.in-Err.ensures.cases.0)); kept = tt; refused = refl }
