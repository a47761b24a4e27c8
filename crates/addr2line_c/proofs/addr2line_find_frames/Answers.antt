use Rattle.addr2line_c.proofs.Common.{rules, subst, FramesBy, OpenFile}
use Rattle.addr2line_c.specs.Flags.{names_by}
use Rattle.addr2line_c.proofs.CallLemmas.{calls_open}
use Rattle.addr2line_c.proofs.addr2line_find_frames.Goals as goal

pub returns : goal.returns
returns c =
    let says = FramesBy c.args.address (names_by c.args.flags) c.find_frames-status.new.out c.find_frames-status.new.count c.find_frames-status.new.buffer c.find_frames-status.new.needed in
    record {
      gives = calls_open _ _ c.number-2.result _ says c.in-Some.file.value c.find_frames-status.new.self c.find_frames-status.result
          (search rules) (search rules) (search rules)
          (subst (λ (f : OpenFile). says f c.find_frames-status.new.self c.find_frames-status.result) c.deref_mut.ensures.value c.find_frames-status.ensures.gives);
    }
