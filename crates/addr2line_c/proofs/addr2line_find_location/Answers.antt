use Rattle.addr2line_c.proofs.Common.{rules, subst, LocatesAt, OpenFile}
use Rattle.addr2line_c.proofs.CallLemmas.{calls_open}
use Rattle.addr2line_c.proofs.addr2line_find_location.Goals as goal

pub returns : goal.returns
returns c =
    let says = LocatesAt c.args.address c.find_location-status.new.out c.find_location-status.new.buffer c.find_location-status.new.needed in
    record {
      gives = calls_open _ _ c.number-2.result _ says c.in-Some.file.value c.find_location-status.new.self c.find_location-status.result
          (search rules) (search rules) (search rules)
          (subst (λ (f : OpenFile). says f c.find_location-status.new.self c.find_location-status.result) c.deref_mut.ensures.value c.find_location-status.ensures.gives);
    }
