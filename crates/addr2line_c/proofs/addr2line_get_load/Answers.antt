use Rattle.addr2line_c.proofs.Common.{rules, subst, TellsLoad, OpenFile}
use Rattle.addr2line_c.proofs.CallLemmas.{calls_open}
use Rattle.addr2line_c.proofs.addr2line_get_load.Goals as goal

pub returns : goal.returns
returns c =
    let says = TellsLoad c.first_load-status.new.out c.first_load-status.new.buffer c.first_load-status.new.needed in
    record {
      gives = calls_open _ _ c.number-2.result _ says c.in-Some.file.value c.in-Some.file.value c.first_load-status.result
          (search rules) (search rules) (search rules)
          (subst (λ (f : OpenFile). says f f c.first_load-status.result) c.deref.ensures c.first_load-status.ensures.gives);
    }
