use Rattle.elf.proofs.Common.{◌≡◌, ◌∙◌, Bor, List, Option, None, Some, IfSome, false, true, ℕ, ap, is_some, slice_get, subst, sym, image_bytes, is_held, is_packed, is_wanted_section, bytes_at, ObjectFile, is_outside, section_names_of}
use Rattle.elf.proofs.FileTableLemmas.{unread_is_unwanted}
use Rattle.elf.proofs.file.ElfFile.packed_bytes.Goals as goal

pub returns-clause-none : goal.returns-clause-none
returns-clause-none c = λ none.
    let f = c.self.inside in
    let s = c.args.section.now in
    let names : f.section_names.bytes ≡ section_names_of c.args.self.now = c.self.invariant.tables.section_names_are ∙ ap (λ (v : ObjectFile). section_names_of v) c.self.view_is in
    let there : slice_get f.sections.items c.args.number ≡ Some s = ap (λ (v : ObjectFile). slice_get v.sections c.args.number) c.self.view_is ∙ c.requires.of_number in
    let packed : is_packed f.section_names.bytes s ≡ true = ap (λ (n : List ℕ). is_packed n s) names ∙ c.requires.packed in
    let within : is_outside (image_bytes f.file) s ≡ false = ap (λ (v : ObjectFile). is_outside v.bytes s) c.self.view_is ∙ c.requires.within in
    let held : is_held s.offset s.size f.file ≡ false = sym c.slice.ensures.some ∙ ap is_some none in
    ap (λ (n : List ℕ). is_wanted_section n s) (sym names) ∙ unread_is_unwanted f.file f.section_names.bytes s (c.self.invariant.readable c.args.number s there) packed within held
