use Rattle.addr2line_c.proofs.Common.{rules, ◌≡◌, ◌∷◌, ◌∙◌, [], subst, frames_left, texts_of_items, written_items, frame_texts, written_frame}
use Rattle.addr2line_units.specs.FramesLent.{as_frame}
use Rattle.addr2line_c.proofs.PlainNameLemmas.{ok_no_refusal, one_plain}
use Rattle.addr2line_c.proofs.SequenceLemmas.{WroteSome, wrote_one}
use Rattle.addr2line_c.proofs.frames.put_frames.Goals as goal

pub loop-frame-preserved : goal.loop-frame-preserved
loop-frame-preserved g c =
    let d = c.args.names in
    let f = as_frame g.R.Reader.section c.in-Some.frame in
    let all = frames_left c.args.frames in
    let left = frames_left c.next.new.self in
    let old = c.loop-frame in
    let yields : frames_left old.frames ≡ f ∷ left = search rules in
    let so = subst (λ l. WroteSome (frame_texts d) (written_frame d) all l old.count old.out old.needed old.buffer) yields old.invariant.so in
    let before = texts_of_items (frame_texts d) so.done in
    record {
      so = wrote_one (frame_texts d) (written_frame d) all left f old.count c.fill-count.result old.out c.fill-count.new.out old.needed c.put_frame.new.used old.buffer c.put_frame.new.buffer c.in_ok-written.written so
          (c.in_ok-written.ensures.made before so.texts_are) (c.in_ok-written.ensures.gives before so.texts_are)
          (c.fill-count.ensures.gives (written_items (frame_texts d) (written_frame d) [] so.done) so.items);
      out = c.fill-count.ensures.kept ∙ old.invariant.out;
      buffer = c.put_frame.ensures.kept ∙ old.invariant.buffer;
    }

-- where all names are plain, so is the one of the frame for which memory was refused
pub returns-in_err-written-clause-plain : goal.returns-in_err-written-clause-plain
returns-in_err-written-clause-plain g c = λ plain.
    let d = c.args.names in
    let f = as_frame g.R.Reader.section c.in-Some.frame in
    let all = frames_left c.args.frames in
    let left = frames_left c.next.new.self in
    let old = c.loop-frame in
    let yields : frames_left old.frames ≡ f ∷ left = search rules in
    let so = subst (λ l. WroteSome (frame_texts d) (written_frame d) all l old.count old.out old.needed old.buffer) yields old.invariant.so in
    absurd (ok_no_refusal c.put_frame.result _ c.in_err-written.was (c.put_frame.ensures.plain (one_plain all so.done left f so.whole plain)))
