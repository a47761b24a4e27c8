use Rattle.addr2line.proofs.Common.{err_from_is_err_and}
use Rattle.addr2line.proofs.FileSectionLemmas.{fault_of_abbrevs, fault_of_addr, fault_of_aranges, fault_of_info, fault_of_line, fault_of_line_str, fault_of_ranges, fault_of_rnglists, fault_of_str, fault_of_str_offsets, sections_are}
use Rattle.addr2line.proofs.file_sections.read_sections.Goals as goal

pub returns-in_err-section : goal.returns-in_err-section
returns-in_err-section g c =
    let p = err_from_is_err_and c.from_residual.result c.from_residual.ensures.1 in
    rw (p.1, p.2) (record { gives = λ ne. fault_of_abbrevs (g.S.SectionSource.given c.args.file.now) _ (c.in_err-section.ensures.gives ne) })

pub returns-in_err-section-2 : goal.returns-in_err-section-2
returns-in_err-section-2 g c =
    let p = err_from_is_err_and c.from_residual-in_err-section-2.result c.from_residual-in_err-section-2.ensures.1 in
    rw (p.1, p.2) (record { gives = λ ne. fault_of_addr (g.S.SectionSource.given c.args.file.now) _ c.in_ok-section.ensures.gives _ (c.in_err-section-2.ensures.gives ne) })

pub returns-in_err-section-3 : goal.returns-in_err-section-3
returns-in_err-section-3 g c =
    let p = err_from_is_err_and c.from_residual-in_err-section-3.result c.from_residual-in_err-section-3.ensures.1 in
    rw (p.1, p.2) (record { gives = λ ne. fault_of_aranges (g.S.SectionSource.given c.args.file.now) _ c.in_ok-section.ensures.gives _ c.in_ok-section-2.ensures.gives _ (c.in_err-section-3.ensures.gives ne) })

pub returns-in_err-section-4 : goal.returns-in_err-section-4
returns-in_err-section-4 g c =
    let p = err_from_is_err_and c.from_residual-in_err-section-4.result c.from_residual-in_err-section-4.ensures.1 in
    rw (p.1, p.2) (record { gives = λ ne. fault_of_info (g.S.SectionSource.given c.args.file.now) _ c.in_ok-section.ensures.gives _ c.in_ok-section-2.ensures.gives _ c.in_ok-section-3.ensures.gives _ (c.in_err-section-4.ensures.gives ne) })

pub returns-in_err-section-5 : goal.returns-in_err-section-5
returns-in_err-section-5 g c =
    let p = err_from_is_err_and c.from_residual-in_err-section-5.result c.from_residual-in_err-section-5.ensures.1 in
    rw (p.1, p.2) (record { gives = λ ne. fault_of_line (g.S.SectionSource.given c.args.file.now) _ c.in_ok-section.ensures.gives _ c.in_ok-section-2.ensures.gives _ c.in_ok-section-3.ensures.gives _ c.in_ok-section-4.ensures.gives _ (c.in_err-section-5.ensures.gives ne) })

pub returns-in_err-section-6 : goal.returns-in_err-section-6
returns-in_err-section-6 g c =
    let p = err_from_is_err_and c.from_residual-in_err-section-6.result c.from_residual-in_err-section-6.ensures.1 in
    rw (p.1, p.2) (record { gives = λ ne. fault_of_line_str (g.S.SectionSource.given c.args.file.now) _ c.in_ok-section.ensures.gives _ c.in_ok-section-2.ensures.gives _ c.in_ok-section-3.ensures.gives _ c.in_ok-section-4.ensures.gives _ c.in_ok-section-5.ensures.gives _ (c.in_err-section-6.ensures.gives ne) })

pub returns-in_err-section-7 : goal.returns-in_err-section-7
returns-in_err-section-7 g c =
    let p = err_from_is_err_and c.from_residual-in_err-section-7.result c.from_residual-in_err-section-7.ensures.1 in
    rw (p.1, p.2) (record { gives = λ ne. fault_of_ranges (g.S.SectionSource.given c.args.file.now) _ c.in_ok-section.ensures.gives _ c.in_ok-section-2.ensures.gives _ c.in_ok-section-3.ensures.gives _ c.in_ok-section-4.ensures.gives _ c.in_ok-section-5.ensures.gives _ c.in_ok-section-6.ensures.gives _ (c.in_err-section-7.ensures.gives ne) })

pub returns-in_err-section-8 : goal.returns-in_err-section-8
returns-in_err-section-8 g c =
    let p = err_from_is_err_and c.from_residual-in_err-section-8.result c.from_residual-in_err-section-8.ensures.1 in
    rw (p.1, p.2) (record { gives = λ ne. fault_of_rnglists (g.S.SectionSource.given c.args.file.now) _ c.in_ok-section.ensures.gives _ c.in_ok-section-2.ensures.gives _ c.in_ok-section-3.ensures.gives _ c.in_ok-section-4.ensures.gives _ c.in_ok-section-5.ensures.gives _ c.in_ok-section-6.ensures.gives _ c.in_ok-section-7.ensures.gives _ (c.in_err-section-8.ensures.gives ne) })

pub returns-in_err-section-9 : goal.returns-in_err-section-9
returns-in_err-section-9 g c =
    let p = err_from_is_err_and c.from_residual-in_err-section-9.result c.from_residual-in_err-section-9.ensures.1 in
    rw (p.1, p.2) (record { gives = λ ne. fault_of_str (g.S.SectionSource.given c.args.file.now) _ c.in_ok-section.ensures.gives _ c.in_ok-section-2.ensures.gives _ c.in_ok-section-3.ensures.gives _ c.in_ok-section-4.ensures.gives _ c.in_ok-section-5.ensures.gives _ c.in_ok-section-6.ensures.gives _ c.in_ok-section-7.ensures.gives _ c.in_ok-section-8.ensures.gives _ (c.in_err-section-9.ensures.gives ne) })

pub returns-in_err-section-10 : goal.returns-in_err-section-10
returns-in_err-section-10 g c =
    let p = err_from_is_err_and c.from_residual-in_err-section-10.result c.from_residual-in_err-section-10.ensures.1 in
    rw (p.1, p.2) (record { gives = λ ne. fault_of_str_offsets (g.S.SectionSource.given c.args.file.now) _ c.in_ok-section.ensures.gives _ c.in_ok-section-2.ensures.gives _ c.in_ok-section-3.ensures.gives _ c.in_ok-section-4.ensures.gives _ c.in_ok-section-5.ensures.gives _ c.in_ok-section-6.ensures.gives _ c.in_ok-section-7.ensures.gives _ c.in_ok-section-8.ensures.gives _ c.in_ok-section-9.ensures.gives _ (c.in_err-section-10.ensures.gives ne) })

pub returns : goal.returns
returns g c = record { gives = rw (c.from.ensures, c.from-2.ensures, c.from-3.ensures, c.from-4.ensures, c.from-5.ensures, c.from-6.ensures, c.from-7.ensures, c.from-8.ensures, c.from-9.ensures, c.from-10.ensures) (sections_are (g.S.SectionSource.given c.args.file.now) _ c.in_ok-section.ensures.gives _ c.in_ok-section-2.ensures.gives _ c.in_ok-section-3.ensures.gives _ c.in_ok-section-4.ensures.gives _ c.in_ok-section-5.ensures.gives _ c.in_ok-section-6.ensures.gives _ c.in_ok-section-7.ensures.gives _ c.in_ok-section-8.ensures.gives _ c.in_ok-section-9.ensures.gives _ c.in_ok-section-10.ensures.gives) }
