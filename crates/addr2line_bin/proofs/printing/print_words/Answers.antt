use Rattle.addr2line_bin.proofs.Common.{◌≡◌, ◌∙◌, ◌+◌, ◌≤◌, [], ◌∷◌, ◌++◌, ap, append-nil, append_assoc, arith, drop, length, refl, subst, sym, err_from_is_err_and, drop_all, address_in, probes_in, PrintsOf, IsText}
use Rattle.addr2line_bin.proofs.Words.{probes_next}
use Rattle.addr2line_bin.proofs.AnswerLemmas.{stays_itself, stays_on, text_before}
use Rattle.addr2line_bin.proofs.PrintingLemmas.{ends_next, prints_next, prints_none}
use Rattle.addr2line_bin.proofs.printing.print_words.Goals as goal

pub loop-word-init : goal.loop-word-init
loop-word-init g c =
    let first = g.L.Lookups.answers c.args.lookups.now in
    (stays_itself first, ([], refl, prints_none (IsText first c.args.context.now) (g.W.Stream.state c.args.out.now) (g.E.Stream.state c.args.err.now)))

pub returns-in_err-print_one : goal.returns-in_err-print_one
returns-in_err-print_one g c =
    let inv = c.loop-word.invariant in
    let first = g.L.Lookups.answers c.args.lookups.now in
    let now = g.L.Lookups.answers c.loop-word.lookups in
    let context = c.args.context.now in
    let o = g.W.Stream.state in
    let e = g.E.Stream.state in
    let probe = c.address_of-probe.result in
    let rest = probes_in (drop (c.loop-word.word-index + 1) c.args.words.now) in
    let next = probes_next c.args.words.now c.loop-word.word-index c.word-item.result probe c.loop-word-test.true c.word-item.is (c.address_of-probe.ensures.gives ∙ ap address_in c.as_str.ensures.value) in
    let p = err_from_is_err_and c.from_residual.result c.from_residual.ensures.1 in
    record {
      gives = rw (p.1, p.2) (ends_next (IsText now context) (IsText first context) (o c.args.out.now) (o c.loop-word.out) (o c.print_one.new.out) (e c.args.err.now) (e c.loop-word.err) (e c.print_one.new.err)
          inv.1.0 (probe ∷ []) rest (probes_in c.args.words.now) _ (text_before first now inv.0 context) inv.1.2 c.in_err-print_one.ensures.gives (inv.1.1 ∙ ap (λ xs. inv.1.0 ++ xs) next));
    }

pub loop-word-preserved : goal.loop-word-preserved
loop-word-preserved g c =
    let inv = c.loop-word.invariant in
    let first = g.L.Lookups.answers c.args.lookups.now in
    let now = g.L.Lookups.answers c.loop-word.lookups in
    let new = g.L.Lookups.answers c.print_one.new.lookups in
    let context = c.args.context.now in
    let o = g.W.Stream.state in
    let e = g.E.Stream.state in
    let probe = c.address_of-probe.result in
    let rest = probes_in (drop (c.loop-word.word-index + 1) c.args.words.now) in
    let next = probes_next c.args.words.now c.loop-word.word-index c.word-item.result probe c.loop-word-test.true c.word-item.is (c.address_of-probe.ensures.gives ∙ ap address_in c.as_str.ensures.value) in (
      stays_on first now new inv.0 c.in_ok-print_one.ensures.kept,
      (
        inv.1.0 ++ probe ∷ [],
        inv.1.1 ∙ ap (λ xs. inv.1.0 ++ xs) next ∙ sym (append_assoc inv.1.0 (probe ∷ []) rest),
        prints_next (IsText now context) (IsText first context) (o c.args.out.now) (o c.loop-word.out) (o c.print_one.new.out) (e c.args.err.now) (e c.loop-word.err) (e c.print_one.new.err)
            inv.1.0 (probe ∷ []) (text_before first now inv.0 context) inv.1.2 c.in_ok-print_one.ensures.gives,
      ),
    )

pub returns : goal.returns
returns g c =
    let inv = c.loop-word.invariant in
    let first = g.L.Lookups.answers c.args.lookups.now in
    let o = g.W.Stream.state in
    let e = g.E.Stream.state in
    let past : length c.args.words.now ≤ c.loop-word.word-index = omega (arith, c.loop-word-test.false) in
    let none : drop c.loop-word.word-index c.args.words.now ≡ [] = drop_all c.loop-word.word-index c.args.words.now past in
    let all : probes_in c.args.words.now ≡ inv.1.0 = inv.1.1 ∙ ap (λ ws. inv.1.0 ++ probes_in ws) none ∙ append-nil inv.1.0 in
    record {
      gives = subst (λ ps. PrintsOf (IsText first c.args.context.now) (o c.args.out.now) (o c.loop-word.out) (e c.args.err.now) (e c.loop-word.err) ps) (sym all) inv.1.2;
    }
