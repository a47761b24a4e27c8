use Rattle.addr2line_bin.proofs.Common.{◌∙◌, ap, refl, Ok, Err}
use Rattle.addr2line_bin.specs.InputLines.{cut_line}
use Rattle.addr2line_bin.proofs.CallLemmas.{after_nothing, line_read, one_read}
use Rattle.addr2line_bin.proofs.input.ReaderInputInput.read_line.Goals as goal

pub returns-in-Ok-eq0-clause-by_calls : goal.returns-in-Ok-eq0-clause-by_calls
returns-in-Ok-eq0-clause-by_calls g c =
    let gave = rw c.in-Ok-eq0.field-0-test at c.in-Ok-eq0.ensures.gives in
    one_read g.R.LineSource.gives _ _ _ (Ok 0) _ _ gave refl (after_nothing _ _ c.clear.ensures.items)

pub returns-in-Ok-clause-by_calls : goal.returns-in-Ok-clause-by_calls
returns-in-Ok-clause-by_calls g c =
    let taken = after_nothing _ _ c.clear.ensures.items in
    line_read g.R.LineSource.gives _ _ _ c.in-Ok.field-0 _ c.in-Ok.field-0-test.1 c.in-Ok.ensures.gives (c.cut_line_end.ensures.gives ∙ ap cut_line taken)

pub returns-in-Err-clause-by_calls : goal.returns-in-Err-clause-by_calls
returns-in-Err-clause-by_calls g c =
    one_read g.R.LineSource.gives _ _ _ (Err c.in-Err.kind) _ _ c.in-Err.ensures.gives refl (after_nothing _ _ c.clear.ensures.items)
