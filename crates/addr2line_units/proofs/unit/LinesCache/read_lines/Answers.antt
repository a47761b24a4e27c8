use Rattle.addr2line_units.proofs.Common.{◌≡◌, cached_lines_result, err_from_is_err_and}
use Rattle.addr2line_units.specs.UnitLinesCached.{lines_result_or}
use Rattle.addr2line_units.proofs.UnitLinesLemmas.{lines_told}
use Rattle.addr2line_units.proofs.unit.LinesCache.read_lines.Goals as goal

pub returns-in_err-cache_lines : goal.returns-in_err-cache_lines
returns-in_err-cache_lines g c =
    let p = err_from_is_err_and c.from_residual.result c.from_residual.ensures.1 in
    rw (p.1, p.2) (record { gives = λ ne. absurd (let no = c.in_err-cache_lines.ensures.gives ne in cc); after = c.in_err-cache_lines.ensures.after })

pub returns : goal.returns
returns g c =
    let read : cached_lines_result c.cache_lines.new.self.lines ≡ lines_result_or c.args.dwarf.now c.args.dw_unit.now c.args.self.now.lines = (let both = c.in_ok-cache_lines.ensures.gives in cc) in
    let told = lines_told c.check_lines.result c.in_ok-cache_lines.ensures.after read c.check_lines.ensures.gives in
    record { gives = told.0; after = told.1 }
