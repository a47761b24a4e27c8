use Rattle.addr2line_bin.proofs.Common.{◌≡◌, ◌++◌, List, ℕ, Option, Some, drop, map, StaysAnswered, PrintsOf, IsText}
use Rattle.addr2line_bin.proofs.printing.print_addresses.Given as goal

-- what was printed so far, and the addresses that are left
abbrev pub invariant-loop-address : goal.invariant-loop-address
invariant-loop-address g l =
    let first = g.L.Lookups.answers l.fn.lookups in
    StaysAnswered first (g.L.Lookups.answers l.lookups)
    × ((done : List (Option ℕ))
    × (map Some l.addresses ≡ done ++ map Some (drop l.address-index l.addresses))
    × PrintsOf (IsText first l.context) (g.W.Stream.state l.fn.out) (g.W.Stream.state l.out) (g.E.Stream.state l.fn.err) (g.E.Stream.state l.err) done)
