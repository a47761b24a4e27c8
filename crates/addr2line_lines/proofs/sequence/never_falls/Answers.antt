use Rattle.addr2line_lines.proofs.RowLemmas.{falls_nowhere}
use Rattle.addr2line_lines.proofs.sequence.never_falls.Goals as goal

pub returns : goal.returns
returns g c = record { law = falls_nowhere c.args.rows.now.left c.rises.ensures.law }
