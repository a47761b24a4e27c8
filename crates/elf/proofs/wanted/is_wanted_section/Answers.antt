use Rattle.elf.proofs.Common.{◌∙◌, List, Option, ℕ, ap, false, option_map_or, is_wanted_text}
use Rattle.elf.proofs.WantedLemmas.{wanted_within}
use Rattle.elf.proofs.wanted.is_wanted_section.Goals as goal

pub returns-in-None : goal.returns-in-None
returns-in-None c = record { gives = ap (λ (o : Option (List ℕ)). option_map_or is_wanted_text o false) c.in-None.ensures.gives ∙ wanted_within c.args.names.now c.args.section.now.name }
