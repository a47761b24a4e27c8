use Rattle.addr2line_units.proofs.Common.{ap, err_from_is_err_and, lines_take_memory, rules, sym, true, ◌&&◌, ◌≡◌, ◌∙◌}
use Rattle.addr2line_units.specs.UnitsIndexed.{as_ranged_unit}
use Rattle.addr2line_units.specs.UnitsRanged.{asks_lines}
use Rattle.addr2line_units.proofs.EntriesMemoryLemmas.{ranges_take}
use Rattle.addr2line_units.proofs.UnitLinesLemmas.{read_are}
use Rattle.addr2line_units.proofs.unit.lines_and_ranges.Goals as goal
use Rattle.addr2line_lines.proofs.Facts.{ok_is}

pub returns-in_err-lines : goal.returns-in_err-lines
returns-in_err-lines g c =
    let p = err_from_is_err_and c.from_residual.result c.from_residual.ensures.1 in
    let u = c.args.dw_unit.now in
    let asks : asks_lines (as_ranged_unit u c.args.lang c.args.listed.items) ≡ true = search rules in
    record { gives = rw (p.1, p.2) (λ may. absurd (let no = c.in_err-lines.ensures.gives (λ takes. may (ap (λ b. b && lines_take_memory g.R.Reader.shares u) asks ∙ takes)) in cc)) }

pub returns-in_err-ranges : goal.returns-in_err-ranges
returns-in_err-ranges g c =
    let p = err_from_is_err_and c.from_residual-in_err-ranges.result c.from_residual-in_err-ranges.ensures.1 in
    let d = c.args.dwarf.now in
    let u = c.args.dw_unit.now in
    let shares = g.R.Reader.shares in
    let asks : asks_lines (as_ranged_unit u c.args.lang c.args.listed.items) ≡ true = search rules in
    let own = (read_are d u c.in_ok-lines.lines (sym (ok_is _ _ c.in_ok-lines.ensures.gives))).0 in
    record { gives = rw (p.1, p.2) (λ may. absurd (let no = c.in_err-ranges.ensures.gives (λ some. may (ap (λ b. b && lines_take_memory shares u) asks ∙ ranges_take shares d u c.in_ok-lines.lines own some)) in cc)) }
