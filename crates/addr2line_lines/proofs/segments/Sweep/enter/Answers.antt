use Rattle.addr2line_lines.proofs.Common.{◌∷◌, ◌∙◌, heap_items, arith, ap, subst, sym, IsPermutation}
use Rattle.addr2line_lines.specs.Sweep.{is_outdone}
use Rattle.addr2line_lines.proofs.SweepLemmas.{advanced_to, entered, none_ends, passed_over}
use Rattle.addr2line_lines.proofs.segments.Sweep.enter.Goals as goal

pub returns-clause-after : goal.returns-clause-after
returns-clause-after c = λ addresses next d begun inside_it is h.
    let a = c.args.address in
    let was = c.args.self.now in
    let now = c.advance.new.self in
    let on = advanced_to addresses next was.at a.range.begin was.segments.items (heap_items was.running) now.at now.segments.items (heap_items now.running)
    c.in_ok-advance.ensures.after c.in_ok-advance.ensures.gives c.in_ok-advance.ensures.kept h begun (none_ends addresses next was.at a.range.begin was.segments.items (heap_items was.running) c.requires.closed) c.in_ok-advance.ensures.known in
    let at = c.in_ok-advance.ensures.after in
    entered addresses next now.at (heap_items now.running) (heap_items c.push.new.self) now.segments.items a d inside_it is on (omega arith)
    (subst (λ o. IsPermutation (o ∷ heap_items now.running) (heap_items c.push.new.self)) c.as_running-range.ensures.gives c.in_ok-push.ensures.permutation) (c.in_ok-push.ensures.heap_order on.heap)

pub returns-then-is_outdone-clause-after : goal.returns-then-is_outdone-clause-after
returns-then-is_outdone-clause-after c = λ addresses next d begun inside_it is h.
    let was = c.args.self.now in
    let outdone = ap (λ o. is_outdone o (heap_items was.running)) (sym c.as_running-range.ensures.gives) ∙ sym c.if-is_outdone.ensures.gives in
    passed_over addresses next was.at (heap_items was.running) was.segments.items c.args.address d inside_it is outdone h
