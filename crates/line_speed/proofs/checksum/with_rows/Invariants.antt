use Rattle.std.proofs.Common.{◌≡◌, length}
use Rattle.line_speed.specs.Checksum.{with_rows}
use Rattle.line_speed.proofs.checksum.with_rows.Given as goal

abbrev pub invariant-loop-row : goal.invariant-loop-row
invariant-loop-row g l = with_rows l.sum l.rows.left ≡ with_rows l.fn.sum l.fn.rows.left

abbrev pub decreases-loop-row : goal.decreases-loop-row
decreases-loop-row g l = length l.rows.left
