use Rattle.addr2line_c.proofs.Common.{◌≡◌, ◌++◌}
use Rattle.addr2line_c.specs.AskedLoads.{with_loads}
use Rattle.addr2line_c.proofs.answers.ask_all.Given as goal

-- the loads so far were asked for, and the others are left
abbrev pub invariant-loop-load : goal.invariant-loop-load
invariant-loop-load g l = record {
  asked : l.loads.loads.items ≡ with_loads l.fn.loads.loads.items l.yielded;
  left : l.yielded ++ l.load-iterator.rest.items ≡ l.fn.wanted.items;
}
