use Rattle.addr2line_units.proofs.Common.{subst, err_from_is_err_and, CountsUnits}
use Rattle.addr2line_units.proofs.ParsesWalkLemmas.{read_fault, read_fault_after, read_first, read_last, read_last_after, read_on}
use Rattle.addr2line_units.proofs.units.Units.read_functions.Goals as goal

pub loop-number-init : goal.loop-number-init
loop-number-init g c = record {
  so_far = rw c.reset.ensures.gives (read_first c.args.depth c.args.self.now);
  counts = subst (CountsUnits c.len-count.result) c.reset.ensures.gives c.len-count.ensures.gives;
}

pub returns-in_err-read_functions_in : goal.returns-in_err-read_functions_in
returns-in_err-read_functions_in g c =
    let p = err_from_is_err_and c.from_residual.result c.from_residual.ensures.1 in
    let l = c.loop-number in
    let e = c.in_err-read_functions_in.ensures in
    let shares = g.R.Reader.shares in
    rw (p.1, p.2) (record {
      gives = read_fault shares c.args.depth l.number c.args.self.now l.self c.read_functions_in.new.self l.invariant.so_far l.invariant.counts c.loop-number-test.true e.after e.gives;
      after = read_fault_after shares c.args.depth l.number c.args.self.now l.self c.read_functions_in.new.self l.invariant.so_far l.invariant.counts c.loop-number-test.true e.after e.gives;
    })

pub loop-number-preserved : goal.loop-number-preserved
loop-number-preserved g c =
    let l = c.loop-number in
    let e = c.in_ok-read_functions_in.ensures in
    record {
      so_far = read_on g.R.Reader.shares c.args.depth l.number c.args.self.now l.self c.read_functions_in.new.self l.invariant.so_far l.invariant.counts c.loop-number-test.true e.after e.gives;
      counts = l.invariant.counts;
    }

pub returns : goal.returns
returns g c =
    let l = c.loop-number in
    record {
      gives = read_last c.args.depth l.number c.args.self.now l.self l.invariant.so_far l.invariant.counts c.loop-number-test.false;
      after = read_last_after c.args.depth l.number c.args.self.now l.self l.invariant.so_far l.invariant.counts c.loop-number-test.false;
    }
