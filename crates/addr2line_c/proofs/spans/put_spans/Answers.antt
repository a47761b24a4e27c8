use Rattle.addr2line_c.proofs.Common.{rules, ◌<◌, ◌^◌, ◌∙◌, [], ap, inl, inr, length, subst, arith, result_map, locations_left, texts_of_items, written_items, texts_of_span, written_span}
use Rattle.addr2line_lines.specs.RangesLeft.{as_located}
use Rattle.addr2line_c.proofs.SequenceLemmas.{WroteSome, first_items, first_texts, room_left, wrote_one}
use Rattle.addr2line_c.proofs.SpanLemmas.{yields_first, yields_none}
use Rattle.addr2line_c.proofs.spans.put_spans.Goals as goal

pub loop-count-preserved : goal.loop-count-preserved
loop-count-preserved g c =
    let f = result_map as_located c.in-Some.span in
    let all = locations_left c.args.spans.now in
    let left = locations_left c.next_loc.new.self in
    let old = c.loop-count in
    let room = length c.args.out.now in
    let small : room < 2 ^ 64 = omega arith in
    let yields = yields_first as_located (locations_left old.spans) c.next_loc.result left c.in-Some.span c.next_loc.ensures.gives (search rules) in
    let so = subst (λ l. WroteSome texts_of_span written_span all l old.count old.out old.needed old.buffer) yields old.invariant.so in
    let before = texts_of_items texts_of_span so.done in
    record {
      so = wrote_one texts_of_span written_span all left f old.count c.fill-count.result old.out c.fill-count.new.out old.needed c.put_span-written.new.used old.buffer c.put_span-written.new.buffer c.put_span-written.result so
          (c.put_span-written.ensures.made before so.texts_are) (c.put_span-written.ensures.gives before so.texts_are)
          (c.fill-count.ensures.gives (written_items texts_of_span written_span [] so.done) so.items);
      room = room_left texts_of_span written_span all left f old.count old.out old.needed old.buffer so room small (omega (arith, old.invariant.room, ap length yields)) (omega (arith, c.loop-count-test.true, old.invariant.out));
      out = c.fill-count.ensures.kept ∙ old.invariant.out;
      buffer = c.put_span-written.ensures.kept ∙ old.invariant.buffer;
    }

pub returns-clause-gives : goal.returns-clause-gives
returns-clause-gives g c =
    let old = c.loop-count in
    let room = length c.args.out.now in
    let small : room < 2 ^ 64 = omega arith in
    first_items texts_of_span written_span (locations_left c.args.spans.now) (locations_left old.spans) old.count old.out old.needed old.buffer old.invariant.so room small old.invariant.room (inl (omega (arith, c.loop-count-test.false, old.invariant.out)))

pub returns-clause-left : goal.returns-clause-left
returns-clause-left g c =
    let old = c.loop-count in
    let room = length c.args.out.now in
    let small : room < 2 ^ 64 = omega arith in
    first_texts texts_of_span written_span (locations_left c.args.spans.now) (locations_left old.spans) old.count old.out old.needed old.buffer old.invariant.so room small old.invariant.room (inl (omega (arith, c.loop-count-test.false, old.invariant.out)))

pub returns-in_default-clause-gives : goal.returns-in_default-clause-gives
returns-in_default-clause-gives g c =
    let old = c.loop-count in
    let room = length c.args.out.now in
    let small : room < 2 ^ 64 = omega arith in
    let none = yields_none as_located (locations_left old.spans) c.next_loc.result (locations_left c.next_loc.new.self) c.next_loc.ensures.gives (search rules) in
    first_items texts_of_span written_span (locations_left c.args.spans.now) (locations_left old.spans) old.count old.out old.needed old.buffer old.invariant.so room small old.invariant.room (inr none)

pub returns-in_default-clause-left : goal.returns-in_default-clause-left
returns-in_default-clause-left g c =
    let old = c.loop-count in
    let room = length c.args.out.now in
    let small : room < 2 ^ 64 = omega arith in
    let none = yields_none as_located (locations_left old.spans) c.next_loc.result (locations_left c.next_loc.new.self) c.next_loc.ensures.gives (search rules) in
    first_texts texts_of_span written_span (locations_left c.args.spans.now) (locations_left old.spans) old.count old.out old.needed old.buffer old.invariant.so room small old.invariant.room (inr none)
