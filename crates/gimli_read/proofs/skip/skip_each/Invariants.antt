use Rattle.gimli_read.proofs.Common.{◌≡◌, drop, rest_of, attributes_at}
use Rattle.gimli_read.proofs.SizeLemmas.{rests_after}
use Rattle.gimli_read.proofs.skip.skip_each.Given as goal

abbrev pub invariant-loop-specification : goal.invariant-loop-specification
invariant-loop-specification l =
    rests_after l.run l.fn.encoding (drop l.specification-index l.specifications) l.bytes ≡ rest_of (attributes_at l.fn.encoding l.specifications l.fn.bytes)
