use Rattle.gimli.proofs.UpToEnd.{left_fewer}
use Rattle.read_speed.proofs.entries.entries_checksum.Goals as goal

pub loop-headers-smaller-in_ok-sum : goal.loop-headers-smaller-in_ok-sum
loop-headers-smaller-in_ok-sum g c = left_fewer _ _ c.in-Some.header (rw c.in-Some.is at c.in_ok-header.ensures.gives)

pub loop-headers-smaller : goal.loop-headers-smaller
loop-headers-smaller g c = left_fewer _ _ c.in-Some.header (rw c.in-Some.is at c.in_ok-header.ensures.gives)
