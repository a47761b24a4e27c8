use Rattle.addr2line_lines.proofs.Common.{◌≡◌, ◌∙◌, length, heap_items, arith, ap, sym, Some, first_end}
use Rattle.addr2line_lines.proofs.SweepLemmas.{advanced_to, begun_before, first_ends, fits_first, no_more_than_one, none_first, popped, popped_few}
use Rattle.addr2line_lines.proofs.segments.Sweep.close.Goals as goal

pub loop-end-preserved : goal.loop-end-preserved
loop-end-preserved c =
    let i = c.loop-end.invariant in
    let was = c.loop-end.self in
    let now = c.advance.new.self in
    let end = c.in-Some.end in
    let a = c.in_ok-advance.ensures in
    let met = sym c.in-Some.ensures.gives in
    let first : first_end c.args.limit (heap_items now.running) ≡ Some end = ap (first_end c.args.limit) a.kept ∙ met in
    let few = popped_few (heap_items now.running) (heap_items c.pop.new.self) c.args.limit end _ c.pop.result now.running.data.ok.0 c.pop.ensures.variant first c.pop.ensures.permutation in
    let one = no_more_than_one end was.at (heap_items was.running) was.segments.items now.segments.items a.gives in
    let same : length (heap_items now.running) ≡ length (heap_items was.running) = ap length a.kept in
    let count = i.few in
    let at = a.after in
    let under = (first_ends c.args.limit end (heap_items was.running) met).4 in
    record {
      swept = λ addresses next begun h. popped addresses next now.at (heap_items now.running) (heap_items c.pop.new.self) now.segments.items c.args.limit end _ c.pop.result now.running.data.ok.0 c.pop.ensures.variant first (omega arith)
          c.pop.ensures.top c.pop.ensures.permutation c.pop.ensures.heap_order
          (advanced_to addresses next was.at end was.segments.items (heap_items was.running) now.at now.segments.items (heap_items now.running) a.after a.gives a.kept (i.swept addresses next begun h) (begun_before addresses next c.args.limit end under begun)
          (fits_first addresses next was.at end was.segments.items c.args.limit (heap_items was.running) met) a.known);
      few = omega arith;
      still = λ e. absurd (none_first c.args.limit end (heap_items was.running) (i.still e) met);
    }
