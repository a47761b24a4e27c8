use Rattle.addr2line_units.proofs.Common.{rules, ranges_left}
use Rattle.addr2line_units.proofs.LoadsListingLemmas.{after_next, listed_first, listed_next}
use Rattle.addr2line_units.proofs.units.Units.preload.Goals as goal

pub loop-range-init : goal.loop-range-init
loop-range-init g c = rw c.reset.ensures.gives (listed_first (ranges_left c.args.ranges) c.new-marks.result.keys c.new-loads.result.items c.args.self.now (search rules) (search rules))

pub returns-in_err-load-clause-after : goal.returns-in_err-load-clause-after
returns-in_err-load-clause-after g c =
    let l = c.loop-range in
    record {
      listing = after_next (ranges_left c.args.ranges) l.marks.keys l.loads.items c.args.self.now l.self c.in-Some.range (ranges_left c.next.new.self) (ranges_left l.ranges) c.in-Some.ensures.steps l.invariant c.new_load_at.new.self c.in_err-load.ensures.after.listing;
      memory = search rules;
      refused = search rules;
    }

pub returns-in_err-push_if-clause-after : goal.returns-in_err-push_if-clause-after
returns-in_err-push_if-clause-after g c =
    let l = c.loop-range in
    record {
      listing = after_next (ranges_left c.args.ranges) l.marks.keys l.loads.items c.args.self.now l.self c.in-Some.range (ranges_left c.next.new.self) (ranges_left l.ranges) c.in-Some.ensures.steps l.invariant c.new_load_at.new.self c.in_ok-load.ensures.after.listing;
      memory = search rules;
      refused = search rules;
    }

pub loop-range-preserved : goal.loop-range-preserved
loop-range-preserved g c =
    let l = c.loop-range in
    let e = c.in_ok-load.ensures in
    listed_next (ranges_left c.args.ranges) l.marks.keys l.loads.items c.args.self.now l.self c.in-Some.range (ranges_left c.next.new.self) (ranges_left l.ranges) c.in-Some.ensures.steps l.invariant c.new_load_at.new.self e.after.listing c.new_load_at.new.marks.keys c.in_ok-load.load c.push_if.new.loads.items e.gives e.after.marks_load c.in_ok-push_if.ensures.gives
