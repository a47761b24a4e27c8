use Rattle.addr2line_units.proofs.Common.{subst, ◌<◌, ◌≤◌, err_from_is_err_and, CountsUnits}
use Rattle.addr2line_units.proofs.LocationsWalkLemmas.{parse_fault, parse_fault_after, parsed_end, parsed_end_after, parsed_first, parsed_on}
use Rattle.addr2line_units.proofs.units.Units.parse_lines.Goals as goal

pub loop-number-init : goal.loop-number-init
loop-number-init g c = record {
  so_far = rw c.reset.ensures.gives (parsed_first c.args.self.now);
  counts = subst (CountsUnits c.len-count.result) c.reset.ensures.gives c.len-count.ensures.gives;
}

pub returns-in_err-read_lines_in-clause-gives : goal.returns-in_err-read_lines_in-clause-gives
returns-in_err-read_lines_in-clause-gives g c =
    let p = err_from_is_err_and c.from_residual.result c.from_residual.ensures.1 in
    let within = subst (λ n. c.loop-number.number < n) c.loop-number.invariant.counts.units c.loop-number-test.true in
    let e = c.in_err-read_lines_in.ensures in
    rw (p.1, p.2) (parse_fault g.R.Reader.shares c.loop-number.number c.args.self.now c.loop-number.self c.read_lines_in.new.self c.loop-number.invariant.so_far within c.in_err-read_lines_in.field-0.0 e.after e.gives)

pub returns-in_err-read_lines_in-clause-after : goal.returns-in_err-read_lines_in-clause-after
returns-in_err-read_lines_in-clause-after g c =
    let p = err_from_is_err_and c.from_residual.result c.from_residual.ensures.1 in
    let within = subst (λ n. c.loop-number.number < n) c.loop-number.invariant.counts.units c.loop-number-test.true in
    let e = c.in_err-read_lines_in.ensures in
    rw (p.1, p.2) (parse_fault_after g.R.Reader.shares c.loop-number.number c.args.self.now c.loop-number.self c.read_lines_in.new.self c.loop-number.invariant.so_far within c.in_err-read_lines_in.field-0.0 e.after e.gives)

pub loop-number-preserved : goal.loop-number-preserved
loop-number-preserved g c =
    let i = c.loop-number.invariant in
    let within = subst (λ n. c.loop-number.number < n) i.counts.units c.loop-number-test.true in
    let e = c.in_ok-read_lines_in.ensures in
    record { so_far = parsed_on g.R.Reader.shares c.loop-number.number c.args.self.now c.loop-number.self c.read_lines_in.new.self c.loop-number.invariant.so_far within e.after e.gives; counts = i.counts }

pub returns-clause-gives : goal.returns-clause-gives
returns-clause-gives g c =
    let i = c.loop-number.invariant in
    let k = c.loop-number.number in
    parsed_end g.R.Reader.shares k c.args.self.now c.loop-number.self i.so_far (subst (λ n. n ≤ k) i.counts.units c.loop-number-test.false) (subst (λ n. n ≤ k) i.counts.parsed c.loop-number-test.false)

pub returns-clause-after : goal.returns-clause-after
returns-clause-after g c =
    let i = c.loop-number.invariant in
    let k = c.loop-number.number in
    parsed_end_after g.R.Reader.shares k c.args.self.now c.loop-number.self i.so_far (subst (λ n. n ≤ k) i.counts.units c.loop-number-test.false) (subst (λ n. n ≤ k) i.counts.parsed c.loop-number-test.false)
