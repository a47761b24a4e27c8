use Rattle.std.proofs.Common.{◌≡◌, ◌++◌, length}
use Rattle.rust_v0.specs.Leaves.{bytes_of}
use Rattle.rust_v0.proofs.printer.literals.bytes_of.Given as goal

abbrev pub invariant-loop-rest : goal.invariant-loop-rest
invariant-loop-rest l = l.bytes.items ++ bytes_of l.rest ≡ bytes_of l.digits

abbrev pub decreases-loop-rest : goal.decreases-loop-rest
decreases-loop-rest l = length l.rest
