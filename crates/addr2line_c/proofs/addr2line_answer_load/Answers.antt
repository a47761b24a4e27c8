use Rattle.addr2line_c.proofs.Common.{rules, subst, AnswersToken, OpenFile}
use Rattle.addr2line_c.proofs.CallLemmas.{calls_open}
use Rattle.addr2line_c.proofs.addr2line_answer_load.Goals as goal

pub returns : goal.returns
returns c =
    let says = AnswersToken c.args.token c.args.bytes.now in
    record {
      gives = calls_open _ _ c.number-2.result _ says c.in-Some.file.value c.answer_load-status.new.self c.answer_load-status.result
          (search rules) (search rules) (search rules)
          (subst (λ (f : OpenFile). says f c.answer_load-status.new.self c.answer_load-status.result) c.deref_mut.ensures.value c.answer_load-status.ensures.gives);
    }
