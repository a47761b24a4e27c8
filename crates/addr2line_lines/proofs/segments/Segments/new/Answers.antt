use Rattle.addr2line_lines.proofs.Common.{ℕ, ◌≡◌, ◌<◌, true, nat_lt, length, ap, sym, subst, refl, arith, nat_tests, length_permutation, err_from_is_err_and, AreDisjoint, AreSegments}
use Rattle.addr2line_lines.proofs.SegmentLemmas.{disjoint_segments}
use Rattle.addr2line_lines.proofs.SegmentSearch.{permuted_segments}
use Rattle.addr2line_lines.proofs.segments.Segments.new.Goals as goal
use Rattle.addr2line_lines.proofs.segments.Segments.new.Goals.{then-are_disjoint, else-are_disjoint+in_ok-segments}

pub invariant_of-result : goal.invariant_of-result
invariant_of-result c =
    let sorted = c.sort_addresses.new.addresses.items in
    let segments = c.if-are_disjoint.segments in
    subst (λ v. AreSegments v.items segments.items) (sym c.of-listed.ensures)
    (permuted_segments c.args.addresses.items sorted segments.items c.sort_addresses.ensures.kept
    (elim c.if-are_disjoint.branch [
      | then-are_disjoint w ↦ subst (λ v. AreSegments sorted v.items) (sym w.segments-is) (disjoint_segments sorted (subst AreDisjoint c.deref.ensures.value (w.if-are_disjoint.ensures.gives.0 refl)))
      | else-are_disjoint+in_ok-segments w ↦ subst (λ v. AreSegments sorted v.items) (sym w.segments-is) (subst (λ xs. AreSegments xs w.in_ok-segments.segments.items) w.deref-else-are_disjoint.ensures.value w.in_ok-segments.ensures.gives)
    ]))

pub returns-in_err-segments : goal.returns-in_err-segments
returns-in_err-segments c =
    let p = err_from_is_err_and c.from_residual.result c.from_residual.ensures.1 in
    let e = c.in_err-segments.ensures.refused in
    let n = ap length c.deref.ensures.value in
    let m = length_permutation c.args.addresses.items c.sort_addresses.new.addresses.items c.sort_addresses.ensures.kept in
    let some = e.1 in
    record { gives = rw (p.1, p.2) (λ f. absurd (f (more (length c.args.addresses.items) (omega arith)) e.0)) }
  where
    more : (n : ℕ) → 0 < n → nat_lt 0 n ≡ true
    more n l = grind (arith, nat_tests)
