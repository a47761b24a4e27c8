use Rattle.elf.proofs.Common.{sym, decompressed_of, is_wanted_text, is_wanted_section, section_names_of}
use Rattle.elf.proofs.DecompressionLemmas.{loads_as, copied_less, named_gives, missing_gives}
use Rattle.elf.proofs.ShownLemmas.{first_wanted}
use Rattle.elf.proofs.file.ElfFile.decompressed_section.Goals as goal

pub returns-in-Some : goal.returns-in-Some
returns-in-Some c =
    let h = rw c.as_bytes.ensures.value at c.in-Some.ensures.gives in
    let name = c.args.name.now in
    let file = c.args.self.now in
    record { gives = loads_as (λ b. b) c.decompressed.result _ _ (named_gives name file c.in-Some.number c.in-Some.section (sym h)) (copied_less (λ b. b) c.decompressed.result (is_wanted_text name) (is_wanted_section (section_names_of file) c.in-Some.section) (decompressed_of file c.in-Some.number c.in-Some.section) (first_wanted name file c.in-Some.number c.in-Some.section (sym h)) c.decompressed.ensures.gives) }

pub returns-in-None : goal.returns-in-None
returns-in-None c =
    let h = rw c.as_bytes.ensures.value at c.in-None.ensures.gives in
    let k = rw c.as_bytes-in-None.ensures.value at c.missing_decompressed.ensures.gives in
    record { gives = loads_as (λ b. b) c.missing_decompressed.result _ _ (missing_gives _ _ (sym h)) k }
