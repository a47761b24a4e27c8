use Rattle.addr2line_c.proofs.Common.{rules, subst, ParsesAll, OpenFile}
use Rattle.addr2line_c.proofs.CallLemmas.{calls_open}
use Rattle.addr2line_c.proofs.addr2line_parse_all.Goals as goal

pub returns : goal.returns
returns c =
    let says = ParsesAll in
    record {
      gives = calls_open _ _ c.number-2.result _ says c.in-Some.file.value c.parse_all-status.new.self c.parse_all-status.result
          (search rules) (search rules) (search rules)
          (subst (λ (f : OpenFile). says f c.parse_all-status.new.self c.parse_all-status.result) c.deref_mut.ensures.value c.parse_all-status.ensures.gives);
    }
