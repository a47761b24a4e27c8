use Rattle.addr2line_units.proofs.Common.{Some, sym, err_from_is_err_and, ranges_left}
use Rattle.addr2line_units.proofs.FramesWalkedLemmas.{err_as, fault_after, fault_gives, ok_as, stop_after, stop_gives, stop_passed, walked_first, walked_on}
use Rattle.addr2line_units.proofs.IndexPlaceLemmas.{left_ordered}
use Rattle.addr2line_units.proofs.units.Units.walk.Goals as goal

pub loop-range-init : goal.loop-range-init
loop-range-init g c = rw c.reset.ensures.gives (walked_first c.args.asks c.args.probe (ranges_left c.args.ranges) c.args.self.now)

pub returns-in_err-ask-clause-gives : goal.returns-in_err-ask-clause-gives
returns-in_err-ask-clause-gives g c =
    let p = err_from_is_err_and c.from_residual.result c.from_residual.ensures.1 in
    let e = c.in_err-ask.ensures in
    rw (p.1, p.2) (fault_gives g.R.Reader.shares c.args.asks c.args.probe (ranges_left c.args.ranges) c.in-Some.range (ranges_left c.next.new.self) (ranges_left c.loop-range.ranges) c.in-Some.ensures.steps c.args.self.now c.loop-range.self c.ask.new.self c.loop-range.invariant c.in_err-ask.field-0.0 e.after e.gives)

pub returns-then-has_stopped-clause-gives : goal.returns-then-has_stopped-clause-gives
returns-then-has_stopped-clause-gives g c =
    let e = c.in_ok-ask.ensures in
    stop_gives g.R.Reader.shares c.args.asks c.args.probe (ranges_left c.args.ranges) c.in-Some.range (ranges_left c.next.new.self) (ranges_left c.loop-range.ranges) c.in-Some.ensures.steps c.args.self.now c.loop-range.self c.ask.new.self c.loop-range.invariant tt e.after e.gives (sym c.if-has_stopped.ensures.gives)

pub returns-in_err-ask-clause-after : goal.returns-in_err-ask-clause-after
returns-in_err-ask-clause-after g c =
    let p = err_from_is_err_and c.from_residual.result c.from_residual.ensures.1 in
    let e = c.in_err-ask.ensures in
    rw (p.1, p.2) (err_as g.R.Reader.shares c.args.asks c.args.probe (ranges_left c.args.ranges) c.in_err-ask.field-0.0 c.args.self.now c.ask.new.self (fault_after g.R.Reader.shares c.args.asks c.args.probe (ranges_left c.args.ranges) c.in-Some.range (ranges_left c.next.new.self) (ranges_left c.loop-range.ranges) c.in-Some.ensures.steps c.args.self.now c.loop-range.self c.ask.new.self c.loop-range.invariant c.in_err-ask.field-0.0 e.after e.gives))

pub returns-then-has_stopped-clause-after : goal.returns-then-has_stopped-clause-after
returns-then-has_stopped-clause-after g c =
    let e = c.in_ok-ask.ensures in
    ok_as g.R.Reader.shares c.args.asks c.args.probe (ranges_left c.args.ranges) tt (Some c.in-Some.range) c.args.self.now c.ask.new.self (stop_after g.R.Reader.shares c.args.asks c.args.probe (ranges_left c.args.ranges) c.in-Some.range (ranges_left c.next.new.self) (ranges_left c.loop-range.ranges) c.in-Some.ensures.steps c.args.self.now c.loop-range.self c.ask.new.self c.loop-range.invariant tt e.after e.gives (sym c.if-has_stopped.ensures.gives))

pub returns-then-has_stopped-clause-passed : goal.returns-then-has_stopped-clause-passed
returns-then-has_stopped-clause-passed g c =
    let e = c.in_ok-ask.ensures in
    let ranges = c.args.ranges in
    stop_passed g.R.Reader.shares c.args.asks c.args.probe (ranges_left ranges) c.in-Some.range (ranges_left c.next.new.self) (ranges_left c.loop-range.ranges) c.in-Some.ensures.steps c.args.self.now c.loop-range.self c.ask.new.self c.loop-range.invariant tt e.after e.gives (left_ordered ranges.last ranges.ranges.now ranges.ordered)

pub loop-range-preserved : goal.loop-range-preserved
loop-range-preserved g c =
    let e = c.in_ok-ask.ensures in
    walked_on g.R.Reader.shares c.args.asks c.args.probe (ranges_left c.args.ranges) c.in-Some.range (ranges_left c.next.new.self) (ranges_left c.loop-range.ranges) c.in-Some.ensures.steps c.args.self.now c.loop-range.self c.ask.new.self c.loop-range.invariant tt e.after e.gives (sym c.if-has_stopped.ensures.gives)
