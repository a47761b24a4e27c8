use Rattle.addr2line_c.proofs.Common.{rules, subst, ForgetsAnswer, OpenFile}
use Rattle.addr2line_c.proofs.CallLemmas.{calls_open}
use Rattle.addr2line_c.proofs.addr2line_forget.Goals as goal

pub returns : goal.returns
returns c =
    let says = ForgetsAnswer c.args.token in
    record {
      gives = calls_open _ _ c.number-2.result _ says c.in-Some.file.value c.forget-status.new.self c.forget-status.result
          (search rules) (search rules) (search rules)
          (subst (λ (f : OpenFile). says f c.forget-status.new.self c.forget-status.result) c.deref_mut.ensures.value c.forget-status.ensures.gives);
    }
