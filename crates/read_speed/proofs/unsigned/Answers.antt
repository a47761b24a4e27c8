use Rattle.gimli_read.proofs.Shorter.{shorter_at, uleb128-shorter}
use Rattle.read_speed.proofs.unsigned.Goals as goal

pub loop-number-smaller : goal.loop-number-smaller
loop-number-smaller g c = shorter_at (uleb128-shorter _) c.in-Ok.number _ c.in-Ok.ensures.gives
