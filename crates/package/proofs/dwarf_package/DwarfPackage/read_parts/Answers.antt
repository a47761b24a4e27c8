use Rattle.package.proofs.Common.{◌≡◌, true, subst, sym}
use Rattle.package.specs.Package.{Package, is_within}
use Rattle.package.proofs.PackageLemmas.{each_within}
use Rattle.package.proofs.dwarf_package.DwarfPackage.read_parts.Goals as goal

pub read_part-requires : goal.read_part-requires
read_part-requires g c = record { within = subst (λ (p : Package). is_within c.args.parts.debug_abbrev p.debug_abbrev ≡ true) (sym c.self.view_is) (each_within c.args.parts c.args.self.now c.requires.within).abbrev_part }

pub read_part-requires-2 : goal.read_part-requires-2
read_part-requires-2 g c = record { within = subst (λ (p : Package). is_within c.args.parts.debug_info p.debug_info ≡ true) (sym c.self.view_is) (each_within c.args.parts c.args.self.now c.requires.within).info_part }

pub read_part-requires-3 : goal.read_part-requires-3
read_part-requires-3 g c = record { within = subst (λ (p : Package). is_within c.args.parts.debug_line p.debug_line ≡ true) (sym c.self.view_is) (each_within c.args.parts c.args.self.now c.requires.within).line_part }

pub read_part-requires-4 : goal.read_part-requires-4
read_part-requires-4 g c = record { within = subst (λ (p : Package). is_within c.args.parts.debug_rnglists p.debug_rnglists ≡ true) (sym c.self.view_is) (each_within c.args.parts c.args.self.now c.requires.within).rnglists_part }

pub read_part-requires-5 : goal.read_part-requires-5
read_part-requires-5 g c = record { within = subst (λ (p : Package). is_within c.args.parts.debug_str_offsets p.debug_str_offsets ≡ true) (sym c.self.view_is) (each_within c.args.parts c.args.self.now c.requires.within).str_offsets_part }
