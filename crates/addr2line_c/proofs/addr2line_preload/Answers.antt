use Rattle.addr2line_c.proofs.Common.{rules, subst, PreloadsAt, OpenFile}
use Rattle.addr2line_c.proofs.CallLemmas.{calls_open}
use Rattle.addr2line_c.proofs.addr2line_preload.Goals as goal

pub returns : goal.returns
returns c =
    let says = PreloadsAt c.args.address in
    record {
      gives = calls_open _ _ c.number-2.result _ says c.in-Some.file.value c.preload-status.new.self c.preload-status.result
          (search rules) (search rules) (search rules)
          (subst (λ (f : OpenFile). says f c.preload-status.new.self c.preload-status.result) c.deref_mut.ensures.value c.preload-status.ensures.gives);
    }
