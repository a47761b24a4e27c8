use Rattle.addr2line_lines.proofs.Common.{Global, String, Some, ap, string_bytes, ◌∙◌}
use Rattle.addr2line_lines.proofs.location.file_text.Goals as goal
use Rattle.addr2line_lines.proofs.Facts.{lent_is}

pub returns : goal.returns
returns c = record { gives = ap Some c.as_str.ensures.value ∙ lent_is (λ (s : String Global). string_bytes s) c.args.files.now c.args.index (Some c.in_ok-get.field-0) c.in_ok-get.ensures.lookup }
