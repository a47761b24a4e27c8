use Rattle.package.proofs.Common.{refl}
use Rattle.package.proofs.PackageLemmas.{nothing_within}
use Rattle.package.proofs.dwarf_package.read_nothings.Goals as goal

pub read_part-requires : goal.read_part-requires
read_part-requires g c = record { within = nothing_within (record { offset = 0; size = 0 }) (g.R.Reader.section c.args.section.now) refl }

pub read_part-requires-2 : goal.read_part-requires-2
read_part-requires-2 g c = record { within = nothing_within (record { offset = 0; size = 0 }) (g.R.Reader.section c.args.section.now) refl }

pub read_part-requires-3 : goal.read_part-requires-3
read_part-requires-3 g c = record { within = nothing_within (record { offset = 0; size = 0 }) (g.R.Reader.section c.args.section.now) refl }

pub read_part-requires-4 : goal.read_part-requires-4
read_part-requires-4 g c = record { within = nothing_within (record { offset = 0; size = 0 }) (g.R.Reader.section c.args.section.now) refl }
