use Rattle.elf.proofs.Common.{◌≡◌, ◌≢◌, ◌∙◌, List, ℕ, [], subst, sym, SectionHeader, image_bytes, AreReadable, HasTables, layout_of}
use Rattle.std.proofs.lemmas.Result.{err_from_is_err_and}
use Rattle.elf.proofs.ParseLemmas.{memory_refused, no_sections, takes_memory}
use Rattle.elf.proofs.file.ElfFile.parse_image.Goals as goal

pub returns-in_err-sections : goal.returns-in_err-sections
returns-in_err-sections c =
    let p = err_from_is_err_and c.from_residual-in_err-sections.result c.from_residual-in_err-sections.ensures.1 in
    let header = c.in_ok-header.header in
    let bytes = image_bytes c.args.file in
    let some : header.count ≢ 0 = λ e. absurd (let ok = c.in_err-sections.ensures.none e in cc) in
    let takes = takes_memory bytes c.in_ok-ident.ident header c.in_ok-ident.ensures.gives c.in_ok-header.ensures.gives some in
    record { gives = memory_refused bytes c.from_residual-in_err-sections.result p.0 p.1 p.2 takes }

pub returns-in_err-tables : goal.returns-in_err-tables
returns-in_err-tables c =
    let p = err_from_is_err_and c.from_residual-in_err-tables.result c.from_residual-in_err-tables.ensures.1 in
    let ident = c.in_ok-ident.ident in
    let header = c.in_ok-header.header in
    let bytes = image_bytes c.args.file in
    let none : header.count ≡ 0 → c.deref-2.result.now ≡ [] = λ e. c.deref-2.ensures.value ∙ c.in_ok-sections.ensures.gives ∙ no_sections ident.endian (layout_of ident.class) header.count _ e in
    let some : header.count ≢ 0 = λ e. absurd (let ok = c.in_err-tables.ensures.none (none e) in cc) in
    let takes = takes_memory bytes ident header c.in_ok-ident.ensures.gives c.in_ok-header.ensures.gives some in
    record { gives = memory_refused bytes c.from_residual-in_err-tables.result p.0 p.1 (p.2 ∙ c.in_err-tables.ensures.refused) takes }

pub returns-in_err-file : goal.returns-in_err-file
returns-in_err-file c =
    let p = err_from_is_err_and c.from_residual-in_err-file.result c.from_residual-in_err-file.ensures.1 in
    let ident = c.in_ok-ident.ident in
    let header = c.in_ok-header.header in
    let bytes = image_bytes c.args.file in
    let none : header.count ≡ 0 → c.deref-3.result.now ≡ [] = λ e. c.deref-3.ensures.value ∙ c.in_ok-sections.ensures.gives ∙ no_sections ident.endian (layout_of ident.class) header.count _ e in
    let some : header.count ≢ 0 = λ e. absurd (let ok = c.in_err-file.ensures.none (none e) in cc) in
    let takes = takes_memory bytes ident header c.in_ok-ident.ensures.gives c.in_ok-header.ensures.gives some in
    record { gives = memory_refused bytes c.from_residual-in_err-file.result p.0 p.1 (p.2 ∙ c.in_err-file.ensures.refused) takes }

pub invariant_of-result : goal.invariant_of-result
invariant_of-result c =
    let ident = c.in_ok-ident.ident in
    let tables = c.in_ok-tables.tables in
    let Has : List ℕ → List SectionHeader → Type 0 = λ (bytes : List ℕ) (sections : List SectionHeader).
    HasTables bytes ident.endian ident.class sections c.name_table_in-name_table.result tables.section_names tables.symbol_names tables.symbols.items in
    let of_file : Has (image_bytes c.args.file) c.in_ok-sections.sections.items =
    subst (λ (s : List SectionHeader). Has (image_bytes c.args.file) s) c.deref-2.ensures.value c.in_ok-tables.ensures.gives in
    let Readable : List ℕ → List SectionHeader → Type 0 = λ (names : List ℕ) (sections : List SectionHeader). AreReadable c.in_ok-file.file names sections in
    let by_names : Readable tables.section_names.bytes c.deref-3.result.now =
    subst (λ (n : List ℕ). Readable n c.deref-3.result.now) c.to_slice.ensures.gives c.in_ok-file.ensures.known in
    record {
      tables = subst (λ (b : List ℕ). Has b c.in_ok-sections.sections.items) (sym c.in_ok-file.ensures.gives) of_file;
      readable = subst (λ (s : List SectionHeader). Readable tables.section_names.bytes s) c.deref-3.ensures.value by_names;
    }
