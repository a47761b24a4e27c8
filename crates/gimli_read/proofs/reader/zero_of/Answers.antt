use Rattle.gimli_read.proofs.Common.{◌==◌}
use Rattle.gimli_read.proofs.FirstByte.{position_is}
use Rattle.gimli_read.proofs.reader.zero_of.Goals as goal

pub returns : goal.returns
returns c = record { found = position_is (λ b. b == 0) c.args.bytes.now c.find_byte.result c.find_byte.ensures (λ k n. n.high) (λ k n. n.before) }
