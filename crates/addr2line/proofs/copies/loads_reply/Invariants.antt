use Rattle.addr2line.proofs.Common.{◌≡◌, ◌++◌, drop, map, copied_load, as_owned_load}
use Rattle.addr2line.proofs.copies.loads_reply.Given as goal

-- the copies, and those of the loads that are left, are those of all loads
abbrev pub invariant-loop-load : goal.invariant-loop-load
invariant-loop-load g l =
    map as_owned_load l.copies.items ++ map copied_load (drop l.load-index l.loads)
    ≡ map copied_load l.loads
