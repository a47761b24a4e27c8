use Rattle.elf.proofs.Common.{◌≡◌, ◌+◌, ◌-◌, ◌≤◌, ◌<◌, suc, length, arith, nat_tests, piece_end}
use Rattle.std.specs.Prelude.{◌/◌}
use Rattle.elf.proofs.SearchLemmas.{before_to, after_from}
use Rattle.elf.proofs.image.count_before.Goals as goal

pub loop-low-preserved-then-ends_before : goal.loop-low-preserved-then-ends_before
loop-low-preserved-then-ends_before c =
    let i = c.loop-low.invariant in
    let o = c.requires.in_order in
    let m = c.loop-low.low + (c.loop-low.high - c.loop-low.low) / 2 in
    let p = c.index-pieces-middle.result in
    let inside : m < length c.args.pieces.now = omega (arith, i.order, i.within, c.loop-low-test.true) in
    let test = c.if-ends_before.true in
    let is = c.ends_before.ensures.gives in
    let ends : piece_end p < c.args.end = grind (arith, nat_tests) in
    let one : m + 1 ≡ suc m = omega arith in
    record {
      order = omega (arith, c.loop-low-test.true);
      within = i.within;
      before = rw one (before_to o.1.0 o.0 c.args.end m c.args.pieces.now p o.1.1 inside c.index-pieces-middle.is ends);
      after = i.after;
    }

pub loop-low-preserved : goal.loop-low-preserved
loop-low-preserved c =
    let i = c.loop-low.invariant in
    let o = c.requires.in_order in
    let m = c.loop-low.low + (c.loop-low.high - c.loop-low.low) / 2 in
    let p = c.index-pieces-middle.result in
    let inside : m < length c.args.pieces.now = omega (arith, i.order, i.within, c.loop-low-test.true) in
    let test = c.if-ends_before.false in
    let is = c.ends_before.ensures.gives in
    let ends : c.args.end ≤ piece_end p = grind (arith, nat_tests) in
    record {
      order = omega (arith, c.loop-low-test.true);
      within = omega (arith, inside);
      before = i.before;
      after = after_from o.1.0 o.0 c.args.end m c.args.pieces.now p o.1.1 inside c.index-pieces-middle.is ends;
    }
