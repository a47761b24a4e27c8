use Rattle.gimli_read.proofs.Shorter.{shorter_at, sleb128-shorter}
use Rattle.read_speed.proofs.signed.Goals as goal

pub loop-number-smaller : goal.loop-number-smaller
loop-number-smaller g c = shorter_at (sleb128-shorter _) c.in-Ok.number _ c.in-Ok.ensures.gives
