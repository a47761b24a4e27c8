use Rattle.addr2line_lines.proofs.Common.{◌≡◌, rules, map, subst, sym, IsPermutation-map, inlined_sooner, IsInOrder}
use Rattle.std.proofs.lemmas.Fn.{always_returns_same}
use Rattle.addr2line_lines.proofs.OrderLemmas.{in_order_ordered}
use Rattle.addr2line_lines.proofs.InlinedOrder.{by_tuple, inlined_order, key, one_range, permuted_is}
use Rattle.addr2line_lines.proofs.picks.sort_inlined.Goals as goal

pub returns : goal.returns
returns g c =
    let whole = g.S.Stored.whole c.args.upper in
    let up = c.sort_unstable_by_key.ensures.sorted (λ r. key (whole r)) (always_returns_same _ (λ a r. r ≡ key (whole a.0.now)) _ (λ a r q h. search rules)) in
    let moved = IsPermutation-map whole _ _ c.sort_unstable_by_key.ensures.permutation in
    let e = permuted_is inlined_sooner inlined_order one_range _ _ moved (by_tuple whole _ up) in
    record { gives = e; after = subst (IsInOrder inlined_sooner) (sym e) (in_order_ordered inlined_sooner inlined_order (map whole c.args.ranges.now)) }
