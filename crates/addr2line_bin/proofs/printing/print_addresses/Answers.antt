use Rattle.addr2line_bin.proofs.Common.{◌≡◌, ◌∙◌, ◌+◌, ◌≤◌, [], ◌∷◌, ◌++◌, ap, append-nil, append_assoc, arith, drop, length, refl, subst, sym, Some, get_or, map, err_from_is_err_and, drop_all, PrintsOf, IsText}
use Rattle.addr2line_bin.proofs.AnswerLemmas.{stays_itself, stays_on, text_before}
use Rattle.addr2line_bin.proofs.PrintingLemmas.{ends_next, prints_next, prints_none, somes_next}
use Rattle.addr2line_bin.proofs.printing.print_addresses.Goals as goal

pub loop-address-init : goal.loop-address-init
loop-address-init g c =
    let first = g.L.Lookups.answers c.args.lookups.now in
    (stays_itself first, ([], refl, prints_none (IsText first c.args.context.now) (g.W.Stream.state c.args.out.now) (g.E.Stream.state c.args.err.now)))

pub returns-in_err-print_one : goal.returns-in_err-print_one
returns-in_err-print_one g c =
    let inv = c.loop-address.invariant in
    let first = g.L.Lookups.answers c.args.lookups.now in
    let now = g.L.Lookups.answers c.loop-address.lookups in
    let context = c.args.context.now in
    let o = g.W.Stream.state in
    let e = g.E.Stream.state in
    let probe = Some (get_or c.args.addresses.now c.loop-address.address-index 0) in
    let rest = map Some (drop (c.loop-address.address-index + 1) c.args.addresses.now) in
    let next = somes_next c.args.addresses.now c.loop-address.address-index c.loop-address-test.true in
    let p = err_from_is_err_and c.from_residual.result c.from_residual.ensures.1 in
    record {
      gives = rw (p.1, p.2) (ends_next (IsText now context) (IsText first context) (o c.args.out.now) (o c.loop-address.out) (o c.print_one.new.out) (e c.args.err.now) (e c.loop-address.err) (e c.print_one.new.err)
          inv.1.0 (probe ∷ []) rest (map Some c.args.addresses.now) _ (text_before first now inv.0 context) inv.1.2 c.in_err-print_one.ensures.gives (inv.1.1 ∙ ap (λ xs. inv.1.0 ++ xs) next));
    }

pub loop-address-preserved : goal.loop-address-preserved
loop-address-preserved g c =
    let inv = c.loop-address.invariant in
    let first = g.L.Lookups.answers c.args.lookups.now in
    let now = g.L.Lookups.answers c.loop-address.lookups in
    let new = g.L.Lookups.answers c.print_one.new.lookups in
    let context = c.args.context.now in
    let o = g.W.Stream.state in
    let e = g.E.Stream.state in
    let probe = Some (get_or c.args.addresses.now c.loop-address.address-index 0) in
    let rest = map Some (drop (c.loop-address.address-index + 1) c.args.addresses.now) in
    let next = somes_next c.args.addresses.now c.loop-address.address-index c.loop-address-test.true in (
      stays_on first now new inv.0 c.in_ok-print_one.ensures.kept,
      (
        inv.1.0 ++ probe ∷ [],
        inv.1.1 ∙ ap (λ xs. inv.1.0 ++ xs) next ∙ sym (append_assoc inv.1.0 (probe ∷ []) rest),
        prints_next (IsText now context) (IsText first context) (o c.args.out.now) (o c.loop-address.out) (o c.print_one.new.out) (e c.args.err.now) (e c.loop-address.err) (e c.print_one.new.err)
            inv.1.0 (probe ∷ []) (text_before first now inv.0 context) inv.1.2 c.in_ok-print_one.ensures.gives,
      ),
    )

pub returns : goal.returns
returns g c =
    let inv = c.loop-address.invariant in
    let first = g.L.Lookups.answers c.args.lookups.now in
    let o = g.W.Stream.state in
    let e = g.E.Stream.state in
    let past : length c.args.addresses.now ≤ c.loop-address.address-index = omega (arith, c.loop-address-test.false) in
    let none : drop c.loop-address.address-index c.args.addresses.now ≡ [] = drop_all c.loop-address.address-index c.args.addresses.now past in
    let all : map Some c.args.addresses.now ≡ inv.1.0 = inv.1.1 ∙ ap (λ ws. inv.1.0 ++ map Some ws) none ∙ append-nil inv.1.0 in
    record {
      gives = subst (λ ps. PrintsOf (IsText first c.args.context.now) (o c.args.out.now) (o c.loop-address.out) (e c.args.err.now) (e c.loop-address.err) ps) (sym all) inv.1.2;
    }
