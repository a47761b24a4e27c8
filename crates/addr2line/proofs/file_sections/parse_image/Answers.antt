use Rattle.addr2line.proofs.Common.{◌≡◌, [], Err, Ok, ap, refl, subst, sym, ◌∙◌, NotElf, Loading, LoadsUnlessOomFor, ObjectFile, gives_sections, object_file_of}
use Rattle.elf.specs.Header.{ident_in}
use Rattle.addr2line.proofs.file_sections.parse_image.Goals as goal

-- no byte is no ELF file
no_file : object_file_of [] ≡ Err NotElf
unfolding object_file_of ident_in
no_file = refl

no_memory : (r : Loading ObjectFile) → LoadsUnlessOomFor gives_sections r (Err NotElf) → r ≡ Err NotElf
no_memory (Ok file) h = absurd cc
no_memory (Err e) h = sym (h (λ may takes. absurd cc))

pub returns-clause-empty : goal.returns-clause-empty
returns-clause-empty c = λ none.
    let P : Loading ObjectFile → Type 0 = λ given. LoadsUnlessOomFor gives_sections c.parse_image.result given in
    no_memory c.parse_image.result (subst P (ap object_file_of none ∙ no_file) c.parse_image.ensures.gives)
