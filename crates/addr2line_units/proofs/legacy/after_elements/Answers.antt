use Rattle.addr2line_units.proofs.LegacySteps.{rest_some}
use Rattle.addr2line_units.proofs.legacy.after_elements.Goals as goal

pub loop-after-preserved : goal.loop-after-preserved
loop-after-preserved c = rest_some _ _ _ _ c.in-Some.ensures.gives c.loop-after.invariant
