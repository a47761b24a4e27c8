use Rattle.addr2line_lines.proofs.Common.{ℕ, Option, ap, ◌∙◌}
use Rattle.addr2line_lines.specs.declared.inlined_functions.InlinedCall.{InlinedCall}
use Rattle.addr2line_lines.specs.StoredInlined.{file_of_short}
use Rattle.addr2line_lines.proofs.StoredInlinedLemmas.{fitting_file, short_file_is}
use Rattle.addr2line_lines.proofs.inlined_functions.ShortCallShort.shorten.Goals as goal

pub returns : goal.returns
returns c =
    let e = c.args.element in
    let of_file : Option ℕ → InlinedCall = λ f. record { offset = e.offset; call = record { file = f; line = e.call.line; column = e.call.column } } in
    record { gives = ap (λ n. of_file (file_of_short n)) c.short_file.ensures.gives ∙ ap of_file (short_file_is e.call.file (fitting_file c.args._base e c.requires.fits)) }
