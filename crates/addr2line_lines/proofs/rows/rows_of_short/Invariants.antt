use Rattle.addr2line_lines.proofs.Common.{◌≡◌, ◌++◌, drop, map}
use Rattle.addr2line_lines.specs.StoredRows.{row_of_short}
use Rattle.addr2line_lines.proofs.rows.rows_of_short.Given as goal

abbrev pub invariant-loop-row : goal.invariant-loop-row
invariant-loop-row l = l.whole.items ++ map (row_of_short l.upper) (drop l.row-index l.rows) ≡ map (row_of_short l.upper) l.rows
