use Rattle.addr2line_units.proofs.Common.{Err, err_from_is_err_and, refl, rules, lines_take_memory}
use Rattle.addr2line_units.proofs.EntriesMemoryLemmas.{lines_exact, lines_took}
use Rattle.addr2line_units.proofs.UnitLinesLemmas.{no_result_fault, taken_or}
use Rattle.addr2line_units.proofs.unit.parse_lines.Goals as goal

pub returns-in-Err-OutOfMemory : goal.returns-in-Err-OutOfMemory
returns-in-Err-OutOfMemory g c =
    let d = c.args.dwarf.now in
    let u = c.args.unit.now in
    let e = c.in-Err-OutOfMemory in
    record {
      gives = λ may. absurd (taken_or (lines_take_memory g.R.Reader.shares u) (λ takes. may takes refl)
          (λ none. no_result_fault d u _ e.field-0-is (lines_exact g.R.Reader.shares d u (λ lines. lines) (Err e.field-0) e.ensures.gives e.ensures.exact none)));
    }

pub returns-in_err-new-in-Ok : goal.returns-in_err-new-in-Ok
returns-in_err-new-in-Ok g c =
    let p = err_from_is_err_and c.from_residual.result c.from_residual.ensures.1 in
    record {
      gives = rw (p.1, p.2) (λ may. absurd (taken_or (lines_take_memory g.R.Reader.shares c.args.unit.now) (λ takes. may takes (search rules))
          (λ none. lines_took g.R.Reader.shares c.in-Ok.lines c.args.unit.now (search rules) c.in-Ok.ensures.exact none)));
    }
