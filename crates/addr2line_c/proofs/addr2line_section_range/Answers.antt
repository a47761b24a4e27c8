use Rattle.addr2line_c.proofs.Common.{rules, subst, SectionNamed, OpenFile}
use Rattle.addr2line_c.proofs.CallLemmas.{calls_open}
use Rattle.addr2line_c.proofs.addr2line_section_range.Goals as goal

pub returns : goal.returns
returns c =
    let says = SectionNamed c.args.name.now c.section_range-status.new.begin c.section_range-status.new.end in
    record {
      gives = calls_open _ _ c.number-2.result _ says c.in-Some.file.value c.in-Some.file.value c.section_range-status.result
          (search rules) (search rules) (search rules)
          (subst (λ (f : OpenFile). says f f c.section_range-status.result) c.deref.ensures c.section_range-status.ensures.gives);
    }
