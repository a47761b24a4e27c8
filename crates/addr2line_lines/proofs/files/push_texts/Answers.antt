use Rattle.addr2line_lines.proofs.Common.{sym, ◌∙◌, map_push, err_from_is_err_and}
use Rattle.addr2line_lines.proofs.FileLemmas.{texts_more, texts_fault, texts_end}
use Rattle.addr2line_lines.proofs.files.push_texts.Goals as goal

pub returns-in_err-file_text : goal.returns-in_err-file_text
returns-in_err-file_text g c =
    let p = err_from_is_err_and c.from_residual.result c.from_residual.ensures.1 in
    record { gives = rw (p.1, p.2) (λ ne. sym c.loop-file.invariant ∙ texts_fault _ _ _ _ _ _ _ _ c.loop-file-test.true c.file-item.is (c.in_err-file_text.ensures.gives ne)) }

pub loop-file-preserved : goal.loop-file-preserved
loop-file-preserved g c =
    rw (c.in_ok-push.ensures.items, map_push) (sym (texts_more _ _ _ _ _ _ _ _ c.loop-file-test.true c.file-item.is c.in_ok-file_text.ensures.gives) ∙ c.loop-file.invariant)

pub returns : goal.returns
returns g c =
    record { gives = sym c.loop-file.invariant ∙ texts_end _ _ _ _ _ _ c.loop-file-test.false }
