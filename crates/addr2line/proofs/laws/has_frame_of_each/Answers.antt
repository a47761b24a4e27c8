use Rattle.addr2line.proofs.FrameLawLemmas.{frame_of_each}
use Rattle.addr2line.proofs.laws.has_frame_of_each.Goals as goal

pub returns : goal.returns
returns c = record { law = frame_of_each }
