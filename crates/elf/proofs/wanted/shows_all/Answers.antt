use Rattle.elf.proofs.Common.{rules, ◌≡◌, ◌∙◌, ℕ, ◌*◌, ◌-◌, ◌&&◌, ◌||◌, Bool, true, not, List, ap, arith, drop, sym, list_all, option_map_or, SectionHeader, image_bytes, is_held, sections_in, layout_of, name_table_of, object_file_with, string_table_in, symbol_names_number, symbol_table, shows_section, is_shown_at, is_wanted_section, shows_sections, shows_tables}
use Rattle.elf.proofs.wanted.shows_all.Goals as goal

pub returns : goal.returns
returns c =
    let image = c.args.file.now in
    let bytes = image_bytes image in
    let i = c.args.ident in
    let h = c.args.header in
    let l = layout_of i.class in
    let f = object_file_with bytes i h in
    let begin = c.in-Some.ensures.gives.0 in
    let end = c.in-Some.ensures.gives.1 in
    let all : c.in-Some.range.end - c.in-Some.range.begin ≡ h.count * l.section_size = omega (arith, begin, end) in
    let first : is_held h.start l.section_size image ≡ true = search rules in
    let headers : is_held h.start (h.count * l.section_size) image ≡ true = search rules in
    let sections_are : c.in_ok-sections.sections.items ≡ f.sections = c.in_ok-sections.ensures.gives ∙ ap (λ (s : ℕ). sections_in i.endian l h.count (drop s bytes)) begin in
    let names_are : c.name_table_in-name_table.result ≡ f.name_table =
    c.name_table_in-name_table.ensures.gives ∙ ap (name_table_of h.name_index) (c.deref.ensures.value ∙ sections_are) in
    let nt = c.name_table_in-name_table.result in
    let by_tables : List SectionHeader → ℕ → Bool = λ ss n. is_shown_at image ss n && (is_shown_at image ss (symbol_names_number ss) && option_map_or (shows_section image) (symbol_table ss) true) in
    let by_sections : List SectionHeader → ℕ → Bool = λ ss n. list_all (λ s. not (is_wanted_section (string_table_in bytes ss n) s) || shows_section image s) ss in
    let tables : shows_tables image f ≡ true =
    sym (c.shows_tables.ensures.gives ∙ ap (λ (ss : List SectionHeader). by_tables ss nt) (c.deref-2.ensures.value ∙ sections_are) ∙ ap (by_tables f.sections) names_are) ∙ c.if-not-shows_tables.false in
    let sections : c.shows_sections.result ≡ shows_sections image f =
    c.shows_sections.ensures.gives ∙ ap (λ (ss : List SectionHeader). by_sections ss nt) (c.deref-3.ensures.value ∙ sections_are) ∙ ap (by_sections f.sections) names_are in
    record { gives = sections ∙ sym (ap (λ (b : Bool). b && (is_held h.start (h.count * l.section_size) image && (shows_tables image f && shows_sections image f))) first ∙ ap (λ (b : Bool). b && (shows_tables image f && shows_sections image f)) headers ∙ ap (λ (b : Bool). b && shows_sections image f) tables) }
