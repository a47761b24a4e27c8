use Rattle.addr2line_lines.proofs.Common.{◌∙◌, ap, err_from_is_err_and, Header}
use Rattle.addr2line_lines.proofs.ProgramLemmas.{program_rows_fault, program_files_fault, program_made, read_at_once, refused_at_once}
use Rattle.addr2line_lines.proofs.line.read_program.Goals as goal

pub returns-in_err-sequences : goal.returns-in_err-sequences
returns-in_err-sequences g c =
    let p = err_from_is_err_and c.from_residual-in_err-sequences.result c.from_residual-in_err-sequences.ensures.1 in
    record { gives = rw (p.1, p.2) (λ ne. program_rows_fault _ _ _ _ c.in_ok-rows.ensures.gives _ (c.in_err-sequences.ensures.gives ne)); exact = rw (p.1, p.2) (λ _. refused_at_once c.args.dwarf.now c.args.unit.now c.args.program.now _ c.in_ok-rows.ensures.gives _ c.in_err-sequences.ensures.exact) }

pub returns-in_err-files : goal.returns-in_err-files
returns-in_err-files g c =
    let p = err_from_is_err_and c.from_residual-in_err-files.result c.from_residual-in_err-files.ensures.1 in
    let listed = c.file_names.ensures.gives ∙ ap (λ (h : Header). h.file_names) c.header-2.ensures.gives ∙ c.in_ok-sequences.ensures.files in
    record { gives = rw (p.1, p.2) (λ ne. program_files_fault _ _ _ _ c.in_ok-rows.ensures.gives _ c.in_ok-sequences.ensures.gives _ c.header.ensures.gives _ listed _ (c.in_err-files.ensures.gives ne)); exact = λ _. read_at_once c.args.dwarf.now c.args.unit.now c.args.program.now _ c.in_ok-rows.ensures.gives _ _ c.in_ok-sequences.ensures.exact }

pub returns : goal.returns
returns g c =
    let listed = c.file_names.ensures.gives ∙ ap (λ (h : Header). h.file_names) c.header-2.ensures.gives ∙ c.in_ok-sequences.ensures.files in
    let made = program_made _ _ _ _ c.in_ok-rows.ensures.gives _ c.in_ok-sequences.ensures.gives _ c.header.ensures.gives _ listed _ c.in_ok-files.ensures.gives in
    record { gives = rw made c.make_lines.ensures.gives; exact = λ _. read_at_once c.args.dwarf.now c.args.unit.now c.args.program.now _ c.in_ok-rows.ensures.gives _ _ c.in_ok-sequences.ensures.exact }
