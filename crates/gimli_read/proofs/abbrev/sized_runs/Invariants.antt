use Rattle.gimli_read.proofs.Common.{◌≡◌, drop, true, Encoding, Section, is_address_size, attributes_at, rest_of}
use Rattle.gimli_read.proofs.SizeLemmas.{so_far}
use Rattle.gimli_read.proofs.abbrev.sized_runs.Given as goal

abbrev pub invariant-loop-attribute : goal.invariant-loop-attribute
invariant-loop-attribute l =
    (e : Encoding) (s : Section) → is_address_size e.address_size ≡ true
    → so_far e l.runs.items l.last (drop l.attribute-index l.attributes) s ≡ rest_of (attributes_at e l.attributes s)
