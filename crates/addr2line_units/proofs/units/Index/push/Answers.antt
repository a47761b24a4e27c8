use Rattle.addr2line_units.proofs.Common.{◌≡◌, ◌++◌, ◌∷◌, [], Ok, err_from_is_err_and, ◌∙◌, ap, length, map, rules, sym, LinesCache, cached_lines_result, range_of_unit}
use Rattle.addr2line_units.specs.UnitLinesCached.{UnitAtFirst, unit_at_first}
use Rattle.addr2line_units.specs.UnitsIndexed.{IndexState, appended, as_ranged_unit}
use Rattle.addr2line_units.proofs.UnitLinesLemmas.{first_are}
use Rattle.addr2line_units.proofs.UnitsLinesLemmas.{as_many, pushed}
use Rattle.addr2line_units.proofs.UnitsNewLemmas.{one_more}
use Rattle.addr2line_units.proofs.units.Index.push.Goals as goal
use Rattle.addr2line_lines.proofs.Facts.{ok_is}

pub returns-in_err-lines : goal.returns-in_err-lines
returns-in_err-lines g c =
    let p = err_from_is_err_and c.from_residual.result c.from_residual.ensures.1 in
    record { gives = rw (p.1, p.2) (λ ne. absurd (let no = c.in_err-lines.ensures.gives (λ _. ne) in cc)) }

pub invariant_of-result : goal.invariant_of-result
invariant_of-result g c =
    let s = c.self.inside in
    let d = s.dwarf.now in
    let u = c.args.dw_unit in
    let read = ok_is _ _ c.in_ok-lines.ensures.gives in
    let lines = ap (λ (l : LinesCache). cached_lines_result l.lines) c.new.ensures.gives ∙ sym (ap (λ (f : UnitAtFirst). f.lines) read) in
    rw (c.in_ok-push.ensures.items, c.in_ok-push-2.ensures.items)
    (one_more d s.dw_units.items s.caches.items u c.new.result c.self.invariant (first_are d u c.args.lang c.args.listed.items _ lines).0 c.new.ensures.empty)

pub returns : goal.returns
returns g c =
    let s = c.self.inside in
    let d = s.dwarf.now in
    let u = c.args.dw_unit in
    let ranged = as_ranged_unit u c.args.lang c.args.listed.items in
    let before = s.ranges.items in
    let read = ok_is _ _ c.in_ok-lines.ensures.gives in
    let lines = ap (λ (l : LinesCache). cached_lines_result l.lines) c.new.ensures.gives ∙ sym (ap (λ (f : UnitAtFirst). f.lines) read) in
    let language = ap (λ (l : LinesCache). l.lang) c.new.ensures.gives ∙ sym (ap (λ (f : UnitAtFirst). f.language) read) in
    let count : c.len.result ≡ length s.caches.items = search rules in
    let ranges =
    c.in_ok-push_ranges.ensures.gives
    ∙ ap (λ rs. before ++ map (range_of_unit c.len.result) rs) (c.deref.ensures.value ∙ sym (ap (λ (f : UnitAtFirst). f.ranges) read))
    ∙ ap (λ n. before ++ map (range_of_unit n) (unit_at_first d ranged).ranges) count in
    let more = pushed d s.dw_units.items s.caches.items u c.args.lang c.new.result c.args.listed.items before c.push_ranges.new.unit_ranges.items (as_many d _ _ c.self.invariant.lines)
    language (first_are d u c.args.lang c.args.listed.items _ lines).1 ranges in
    rw (c.in_ok-push.ensures.items, c.in_ok-push-2.ensures.items) (record { gives = ap (λ m. Ok m) (sym (more ∙ ap (λ (m : IndexState). appended m (ranged ∷ [])) c.self.view_is)) })
