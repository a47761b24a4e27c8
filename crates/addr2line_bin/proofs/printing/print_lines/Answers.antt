use Rattle.addr2line_bin.proofs.Common.{◌≡◌, ◌∙◌, ◌+◌, inl, inr, [], ◌∷◌, ◌++◌, ap, arith, refl, subst, sym, err_from_is_err_and, length-append, address_in, line_probes, PrintsOf, IsText}
use Rattle.addr2line_bin.proofs.AnswerLemmas.{stays_itself, stays_on, text_before}
use Rattle.addr2line_bin.proofs.LineLemmas.{all_before_foreign, all_counted, all_without, are_first, counted_more, probes_more, read_more, read_nothing, to_fault}
use Rattle.addr2line_bin.proofs.Runs.{plus_nothing}
use Rattle.addr2line_bin.proofs.PrintingLemmas.{prints_next, prints_none, read_next}
use Rattle.addr2line_bin.proofs.printing.print_lines.Goals as goal

pub loop-init : goal.loop-init
loop-init g c =
    let first = g.L.Lookups.answers c.args.lookups.now in (
      stays_itself first,
      ([], refl, refl, plus_nothing (g.I.Input.state c.args.input.now).reads, read_nothing (g.I.Input.state c.args.input.now).bytes, prints_none (IsText first c.args.context.now) (g.W.Stream.state c.args.out.now) (g.E.Stream.state c.args.err.now)),
    )

pub returns-in_err-next_line : goal.returns-in_err-next_line
returns-in_err-next_line g c =
    let inv = c.loop.invariant.1 in
    let i = g.I.Input.state in
    let p = err_from_is_err_and c.from_residual.result c.from_residual.ensures.1 in
    record { gives = rw (p.1, p.2) (inv.0, inr (refl, (c.in_err-next_line.ensures.refused.0, to_fault (i c.args.input.now) (i c.loop.input) (i c.next_line.new.input) inv.0 inv.3 inv.4 c.next_line.ensures.after c.in_err-next_line.ensures.refused.1), inv.5)) }

pub returns-then-not-branch : goal.returns-then-not-branch
returns-then-not-branch g c =
    let inv = c.loop.invariant.1 in
    let i = g.I.Input.state in
    let read = rw c.if-not-branch.true at c.in_ok-next_line.ensures.gives in
    record { gives = (inv.0, (all_without (i c.args.input.now) (i c.loop.input) (i c.next_line.new.input) inv.0 c.next_line.new.line.items inv.2 inv.3 inv.4 c.next_line.ensures.after read, inv.5)) }

pub returns-in_default : goal.returns-in_default
returns-in_default g c =
    let inv = c.loop.invariant.1 in
    let i = g.I.Input.state in
    let line = c.next_line.new.line.items in
    let read = rw c.if-not-branch.false at c.in_ok-next_line.ensures.gives in
    let foreign = rw c.as_slice.ensures.value at c.in_default.ensures.cases.0 in
    record {
      gives = (inv.0, (all_before_foreign (i c.args.input.now) (i c.loop.input) (i c.next_line.new.input) inv.0 line inv.2 inv.3 inv.4 c.next_line.ensures.after read foreign, inv.5));
    }

pub returns-in_err-print_one : goal.returns-in_err-print_one
returns-in_err-print_one g c =
    let inv = c.loop.invariant.1 in
    let first = g.L.Lookups.answers c.args.lookups.now in
    let now = g.L.Lookups.answers c.loop.lookups in
    let context = c.args.context.now in
    let o = g.W.Stream.state in
    let e = g.E.Stream.state in
    let i = g.I.Input.state in
    let line = c.next_line.new.line.items in
    let lines = inv.0 ++ line ∷ [] in
    let read = rw c.if-not-branch.false at c.in_ok-next_line.ensures.gives in
    let utf8 = rw c.as_slice.ensures.value at c.in-Ok.ensures.cases.1 in
    let probe : c.address_of.result ≡ address_in line = c.address_of.ensures.gives ∙ ap address_in (c.in-Ok.ensures.cases.0 ∙ c.as_slice.ensures.value) in
    let so_far = read_more (i c.args.input.now).bytes (i c.loop.input).bytes (i c.next_line.new.input).bytes inv.0 line inv.4 read.1 utf8 in
    let more : line_probes lines ≡ line_probes inv.0 ++ c.address_of.result ∷ [] = probes_more inv.0 line ∙ ap (λ q. line_probes inv.0 ++ q ∷ []) (sym probe) in
    let asked = counted_more (i c.args.input.now).reads (i c.loop.input).reads (i c.next_line.new.input).reads inv.0 line inv.3 c.next_line.ensures.after in
    let p = err_from_is_err_and c.from_residual-in_err-print_one.result c.from_residual-in_err-print_one.ensures.1 in
    let b = read_next (IsText now context) (IsText first context) (o c.args.out.now) (o c.loop.out) (o c.print_one.new.out) (e c.args.err.now) (e c.loop.err) (e c.print_one.new.err)
    (line_probes inv.0) (line_probes lines) c.address_of.result _ (text_before first now c.loop.invariant.0 context) inv.5 c.in_err-print_one.ensures.gives more in
    record { gives = rw (p.1, p.2) (lines, inl (b.0, are_first (i c.args.input.now) (i c.next_line.new.input) lines (read.0 ∙ inv.2) asked so_far, b.1)) }

pub loop-preserved : goal.loop-preserved
loop-preserved g c =
    let inv = c.loop.invariant.1 in
    let first = g.L.Lookups.answers c.args.lookups.now in
    let now = g.L.Lookups.answers c.loop.lookups in
    let context = c.args.context.now in
    let o = g.W.Stream.state in
    let e = g.E.Stream.state in
    let i = g.I.Input.state in
    let line = c.next_line.new.line.items in
    let lines = inv.0 ++ line ∷ [] in
    let read = rw c.if-not-branch.false at c.in_ok-next_line.ensures.gives in
    let utf8 = rw c.as_slice.ensures.value at c.in-Ok.ensures.cases.1 in
    let probe : c.address_of.result ≡ address_in line = c.address_of.ensures.gives ∙ ap address_in (c.in-Ok.ensures.cases.0 ∙ c.as_slice.ensures.value) in
    let so_far = read_more (i c.args.input.now).bytes (i c.loop.input).bytes (i c.next_line.new.input).bytes inv.0 line inv.4 read.1 utf8 in
    let more : line_probes lines ≡ line_probes inv.0 ++ c.address_of.result ∷ [] = probes_more inv.0 line ∙ ap (λ q. line_probes inv.0 ++ q ∷ []) (sym probe) in
    let new = g.L.Lookups.answers c.print_one.new.lookups in (
      stays_on first now new c.loop.invariant.0 c.in_ok-print_one.ensures.kept,
      (
        lines,
        length-append inv.0 (line ∷ []) ∙ ap (λ n. n + 1) inv.1,
        read.0 ∙ inv.2,
        counted_more (i c.args.input.now).reads (i c.loop.input).reads (i c.next_line.new.input).reads inv.0 line inv.3 c.next_line.ensures.after,
        so_far,
        subst (λ ps. PrintsOf (IsText first context) (o c.args.out.now) (o c.print_one.new.out) (e c.args.err.now) (e c.print_one.new.err) ps) (sym more)
            (prints_next (IsText now context) (IsText first context) (o c.args.out.now) (o c.loop.out) (o c.print_one.new.out) (e c.args.err.now) (e c.loop.err) (e c.print_one.new.err)
            (line_probes inv.0) (c.address_of.result ∷ []) (text_before first now c.loop.invariant.0 context) inv.5 c.in_ok-print_one.ensures.gives),
      ),
    )

pub returns : goal.returns
returns g c =
    let inv = c.loop.invariant.1 in
    let i = g.I.Input.state in
    let full = inv.1 ∙ omega (arith, c.loop-test.false, c.loop.auto.counter-end) in
    record { gives = (inv.0, (all_counted (i c.args.input.now) (i c.loop.input) inv.0 inv.2 inv.3 inv.4 full, inv.5)) }
