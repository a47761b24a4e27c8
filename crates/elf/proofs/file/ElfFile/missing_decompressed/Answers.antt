use Rattle.elf.proofs.Common.{sym, zdebug_of, is_wanted_text, is_wanted_section, section_names_of}
use Rattle.elf.proofs.DecompressionLemmas.{loads_as, copied_less, copied_zdebug}
use Rattle.elf.proofs.FileTableLemmas.{zdebug_is_packed}
use Rattle.elf.proofs.ShownLemmas.{zdebug_first_wanted}
use Rattle.elf.proofs.file.ElfFile.missing_decompressed.Goals as goal

pub returns-in-Some : goal.returns-in-Some
returns-in-Some c =
    let name = c.args.name.now in
    let file = c.args.self.now in
    let h = sym c.in-Some.ensures.gives in
    record { gives = loads_as (λ b. b) c.zdebug.result _ _ (copied_zdebug name file c.in-Some.number c.in-Some.section h) (copied_less (λ b. b) c.zdebug.result (is_wanted_text name) (is_wanted_section (section_names_of file) c.in-Some.section) (zdebug_of file c.in-Some.number c.in-Some.section) (zdebug_first_wanted name file c.in-Some.number c.in-Some.section h) c.zdebug.ensures.gives) }

pub zdebug-requires-clause-packed : goal.zdebug-requires-clause-packed
zdebug-requires-clause-packed c = zdebug_is_packed c.args.name.now c.args.self.now c.in-Some.number c.in-Some.section (sym c.in-Some.ensures.gives)
