use Rattle.addr2line_units.proofs.Common.{sym}
use Rattle.addr2line_units.proofs.LegacySteps.{left_kept, left_hash, left_none}
use Rattle.addr2line_units.proofs.legacy.push_elements.Goals as goal

pub loop-element-preserved-in_ok-push_element : goal.loop-element-preserved-in_ok-push_element
loop-element-preserved-in_ok-push_element c =
    left_kept _ _ _ _ _ _ c.loop-element.is_first c.in-Some.ensures.gives (sym c.if-not-is_left_out.ensures) c.in_ok-push_element.ensures c.loop-element.invariant

pub loop-element-preserved : goal.loop-element-preserved
loop-element-preserved c =
    left_hash _ _ _ _ _ c.loop-element.is_first c.in-Some.ensures.gives (sym c.if-not-is_left_out.ensures) c.loop-element.invariant

pub returns : goal.returns
returns c = left_none _ _ _ c.loop-element.is_first c.in_default.ensures.gives c.loop-element.invariant
