use Rattle.addr2line_units.proofs.Common.{◌≡◌, false, rules, true, cached_lines_result, err_from_is_err_and, is_uncached, lines_result}
use Rattle.addr2line_units.proofs.UnitLinesLemmas.{cached_after, parsed_after, unparsed_after}
use Rattle.addr2line_units.proofs.unit.LinesCache.cache_lines.Goals as goal

pub returns-in_err-self-clause-after : goal.returns-in_err-self-clause-after
returns-in_err-self-clause-after g c =
    let p = err_from_is_err_and c.from_residual.result c.from_residual.ensures.1 in
    let uncached : is_uncached c.args.self.now.lines ≡ true = search rules in
    rw (p.1, p.2) (unparsed_after g.R.Reader.shares c.args.dwarf.now c.args.dw_unit.now c.args.self.now c.in_err-self.field-0.0 uncached c.in_err-self.ensures.gives)

pub returns-in_ok-self-clause-after : goal.returns-in_ok-self-clause-after
returns-in_ok-self-clause-after g c =
    let uncached : is_uncached c.args.self.now.lines ≡ true = search rules in
    let read : cached_lines_result c.in_ok-self.field-0 ≡ lines_result c.args.dwarf.now c.args.dw_unit.now = (let both = c.in_ok-self.ensures.gives in cc) in
    parsed_after g.R.Reader.shares c.args.dwarf.now c.args.dw_unit.now c.args.self.now c.in_ok-self.field-0 uncached read

pub returns-else-is_uncached-clause-after : goal.returns-else-is_uncached-clause-after
returns-else-is_uncached-clause-after g c =
    let cached : is_uncached c.args.self.now.lines ≡ false = search rules in
    cached_after g.R.Reader.shares c.args.dwarf.now c.args.dw_unit.now c.args.self.now cached
