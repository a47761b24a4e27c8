use Rattle.gimli_read.proofs.SizeLemmas.{attribute_leaves_size}
use Rattle.gimli_read.proofs.laws.size_laws.Goals as goal

pub returns : goal.returns
returns c = record { law = attribute_leaves_size }
