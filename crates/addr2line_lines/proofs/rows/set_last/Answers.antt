use Rattle.addr2line_lines.proofs.Common.{arith}
use Rattle.addr2line_lines.proofs.rows.set_last.Goals as goal
use Rattle.addr2line_lines.proofs.Facts.{set_last}

pub returns : goal.returns
returns g c = let n = c.args.list.now.ok.0 in let l = c.requires.last in record { gives = set_last c.args.list.now.items c.args.last c.args.element (omega arith) }
