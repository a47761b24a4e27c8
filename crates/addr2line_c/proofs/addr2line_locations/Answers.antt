use Rattle.addr2line_c.proofs.Common.{rules, subst, length, SpansFrom, OpenFile}
use Rattle.addr2line_c.proofs.CallLemmas.{calls_open}
use Rattle.addr2line_c.proofs.addr2line_locations.Goals as goal

pub returns : goal.returns
returns c =
    let says = SpansFrom c.args.low c.args.high c.args.first (length c.args.spans.now) c.find_spans-status.new.out c.find_spans-status.new.count c.find_spans-status.new.buffer c.find_spans-status.new.needed in
    record {
      gives = calls_open _ _ c.number-2.result _ says c.in-Some.file.value c.find_spans-status.new.self c.find_spans-status.result
          (search rules) (search rules) (search rules)
          (subst (λ (f : OpenFile). says f c.find_spans-status.new.self c.find_spans-status.result) c.deref_mut.ensures.value c.find_spans-status.ensures.gives);
    }
