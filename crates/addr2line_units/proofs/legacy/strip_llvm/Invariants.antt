use Rattle.addr2line_units.proofs.Common.{◌≡◌, ◌++◌, take, drop, without_llvm}
use Rattle.addr2line_units.proofs.legacy.strip_llvm.Given as goal

abbrev pub invariant-loop-at : goal.invariant-loop-at
invariant-loop-at l = take l.at l.name ++ without_llvm (drop l.at l.name) ≡ without_llvm l.name
