use Rattle.std.proofs.Common.{◌≡◌, ◌<◌, ◌+◌, ◌^◌}
use Rattle.rust_v0.specs.State.{state_of}
use Rattle.rust_v0.specs.Leaves.{more_levels}
use Rattle.rust_v0.proofs.printer.Printer.more_levels.Given as goal

abbrev pub invariant-loop-left : goal.invariant-loop-left
invariant-loop-left l =
    (l.level + l.left < 2 ^ 64)
    × (more_levels l.level l.left (state_of l.self) ≡ more_levels l.fn.level l.fn.count (state_of l.fn.self))

abbrev pub decreases-loop-left : goal.decreases-loop-left
decreases-loop-left l = l.left
