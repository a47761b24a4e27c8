use Rattle.addr2line_c.proofs.Common.{rules, ◌≡◌, ◌<◌, ◌^◌, ◌&&◌, Ok, Some, ap, nat_le, length, arith, frames_left, of_file, IsWrittenFrames}
use Rattle.addr2line_c.specs.Answered.{done_if}
use Rattle.addr2line_c.proofs.AnswerLemmas.{frames_given, says_frames}
use Rattle.addr2line_c.proofs.TextLemmas.{frames_named}
use Rattle.addr2line_c.proofs.found.put_found_frames.Goals as goal

pub returns-after-found-out-clause-gives : goal.returns-after-found-out-clause-gives
returns-after-found-out-clause-gives g c = λ given told.
    let d = c.args.names in
    let frames = frames_left c.in-Ok.frames in
    let new = c.put_frames.new in
    let count = c.in-Ok-put_frames.found in
    let small : length new.buffer < 2 ^ 64 = omega (arith, c.put_frames.ensures.kept.1) in
    let is : given ≡ Ok (Some frames) = frames_given c.args.found c.in-Ok.frames given (search rules) told in
    let parts = c.in-Ok-put_frames.ensures.gives in
    let texts = c.in-Ok-put_frames.ensures.left in
    let fits : c.done_if.result ≡ done_if (nat_le count (length new.out) && nat_le new.needed (length new.buffer)) = search rules in
    says_frames (of_file given) (IsWrittenFrames d new.out count new.buffer new.needed) (nat_le count (length new.out) && nat_le new.needed (length new.buffer)) c.done_if.result fits (
      frames,
      ap of_file is,
      record {
        parts = parts;
        texts = texts;
        named = λ room enough. frames_named d new.out count new.buffer new.needed frames small parts texts room enough;
      },
    )
