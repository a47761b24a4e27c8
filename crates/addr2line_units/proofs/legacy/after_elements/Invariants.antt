use Rattle.addr2line_units.proofs.Common.{◌≡◌, length, elements_at}
use Rattle.addr2line_units.proofs.legacy.after_elements.Given as goal

abbrev pub invariant-loop-after : goal.invariant-loop-after
invariant-loop-after l = (elements_at l.rest).1 ≡ (elements_at l.text).1

abbrev pub decreases-loop-after : goal.decreases-loop-after
decreases-loop-after l = length l.rest
