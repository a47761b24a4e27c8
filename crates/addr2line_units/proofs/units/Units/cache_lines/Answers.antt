use Rattle.addr2line_units.proofs.Common.{err_from_is_err_and, ranges_left}
use Rattle.addr2line_units.proofs.LocationsWalkLemmas.{cached_end, cached_fault, cached_first, cached_on}
use Rattle.addr2line_units.proofs.UnitsLinesLemmas.{rest_shorter}
use Rattle.addr2line_units.proofs.units.Units.cache_lines.Goals as goal

pub loop-range-init : goal.loop-range-init
loop-range-init g c = rw c.reset.ensures.gives (cached_first (ranges_left c.args.ranges) c.args.self.now)

pub returns-in_err-cache_lines_in : goal.returns-in_err-cache_lines_in
returns-in_err-cache_lines_in g c =
    let p = err_from_is_err_and c.from_residual.result c.from_residual.ensures.1 in
    let e = c.in_err-cache_lines_in.ensures in
    record { after = rw (p.1, p.2) (cached_fault g.R.Reader.shares (ranges_left c.args.ranges) c.in-Some.range (ranges_left c.next.new.self) (ranges_left c.loop-range.ranges) c.in-Some.ensures.steps c.args.self.now c.loop-range.self c.cache_lines_in.new.self c.loop-range.invariant c.in_err-cache_lines_in.field-0.0 e.after e.gives) }

pub loop-range-preserved : goal.loop-range-preserved
loop-range-preserved g c = cached_on g.R.Reader.shares (ranges_left c.args.ranges) c.in-Some.range (ranges_left c.next.new.self) (ranges_left c.loop-range.ranges) c.in-Some.ensures.steps c.args.self.now c.loop-range.self c.cache_lines_in.new.self c.loop-range.invariant c.in_ok-cache_lines_in.ensures.after

pub loop-range-smaller : goal.loop-range-smaller
loop-range-smaller g c = rest_shorter _ _ _ c.in-Some.ensures.steps

pub returns : goal.returns
returns g c = record { after = cached_end g.R.Reader.shares (ranges_left c.args.ranges) (ranges_left c.loop-range.ranges) c.in_default.ensures.steps.0 c.args.self.now c.loop-range.self c.loop-range.invariant }
