use Rattle.gimli.proofs.UpToEnd.{left_fewer}
use Rattle.line_speed.proofs.cached.cache_lines.Goals as goal

pub loop-headers-smaller-in_ok-push : goal.loop-headers-smaller-in_ok-push
loop-headers-smaller-in_ok-push g c = left_fewer _ _ c.in-Some.header (rw c.in-Some.is at c.in_ok-header.ensures.gives)

pub loop-headers-smaller : goal.loop-headers-smaller
loop-headers-smaller g c = left_fewer _ _ c.in-Some.header (rw c.in-Some.is at c.in_ok-header.ensures.gives)
