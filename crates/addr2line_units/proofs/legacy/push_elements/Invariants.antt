use Rattle.addr2line_units.proofs.Common.{◌≡◌, ◌++◌, length, string_bytes, elements_text}
use Rattle.addr2line_units.proofs.LegacySteps.{left_text}
use Rattle.addr2line_units.proofs.legacy.push_elements.Given as goal

abbrev pub invariant-loop-element : goal.invariant-loop-element
invariant-loop-element l = string_bytes l.out ++ left_text l.is_first l.rest ≡ string_bytes l.fn.out ++ elements_text l.elements

abbrev pub decreases-loop-element : goal.decreases-loop-element
decreases-loop-element l = length l.rest
