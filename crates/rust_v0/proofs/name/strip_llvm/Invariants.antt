use Rattle.std.proofs.Common.{◌≡◌, ◌++◌, take, drop}
use Rattle.rust_v0.specs.Name.{without_llvm}
use Rattle.rust_v0.proofs.name.strip_llvm.Given as goal

abbrev pub invariant-loop-at : goal.invariant-loop-at
invariant-loop-at l = take l.at l.name ++ without_llvm (drop l.at l.name) ≡ without_llvm l.name
