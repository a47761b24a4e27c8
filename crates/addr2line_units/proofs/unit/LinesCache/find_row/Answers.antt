use Rattle.addr2line_units.proofs.Common.{arith, err_from_is_err_and, false≢true}
use Rattle.addr2line_units.proofs.UnitLinesLemmas.{lines_given, lines_refused}
use Rattle.addr2line_units.proofs.unit.LinesCache.find_row.Goals as goal

pub returns-in_err-read_lines-clause-after : goal.returns-in_err-read_lines-clause-after
returns-in_err-read_lines-clause-after g c =
    let p = err_from_is_err_and c.from_residual.result c.from_residual.ensures.1 in
    rw (p.1, p.2) (record {
      lines = lines_refused c.in_err-read_lines.field-0.0 c.in_err-read_lines.ensures.after;
      steps = record { raised = omega arith; counted = λ found. absurd (false≢true found); cost = omega arith };
    })

pub returns-clause-after : goal.returns-clause-after
returns-clause-after g c = record { lines = lines_given tt c.find_cached_row.result c.in_ok-read_lines.ensures.after; steps = c.find_cached_row.ensures.after }
