use Rattle.addr2line_units.specs.Continuation.{SkipsTo, loads_left}
use Rattle.addr2line_units.proofs.continuation.LookupResult.skip_all_loads.Given as goal

-- what is still given is what was to be given
abbrev pub invariant-loop-found : goal.invariant-loop-found
invariant-loop-found g l =
    (o : _) → SkipsTo g.L.LookupContinuation.skips_to l.found o → SkipsTo g.L.LookupContinuation.skips_to l.initial.found o

abbrev pub decreases-loop-found : goal.decreases-loop-found
decreases-loop-found g l = loads_left g.L.LookupContinuation.left l.found
