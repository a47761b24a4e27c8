use Rattle.addr2line_lines.proofs.Common.{arith, common_steps, inlined_sooner, in_order}
use Rattle.addr2line_lines.proofs.StoredRangeLemmas.{images_from}
use Rattle.addr2line_lines.proofs.picks.sort_inlined_from.Goals as goal

pub returns : goal.returns
returns g c = record {
  gives = images_from (g.S.Stored.whole c.args.upper) (in_order inlined_sooner) c.args.start c.args.ranges.now.items _ c.sort_inlined.new.ranges (grind (arith, common_steps)) (rw c.deref_mut.ensures.value at c.sort_inlined.ensures.gives);
}
