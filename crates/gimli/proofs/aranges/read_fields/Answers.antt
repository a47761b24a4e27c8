use Rattle.gimli.proofs.ArangeLemmas.{address_has_bytes}
use Rattle.gimli.proofs.aranges.read_fields.Goals as goal

pub padding-requires : goal.padding-requires
padding-requires c = record { size = address_has_bytes _ c.in_ok-address_size.ensures.width }
