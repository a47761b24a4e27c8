use Rattle.addr2line.proofs.Common.{ap, subst, sym, ◌∙◌, ExactlyUnlessOom, cover}
use Rattle.addr2line_units.specs.IndexCover.{from_place}
use Rattle.addr2line.specs.AfterLookups.{HasPassed}
use Rattle.addr2line.proofs.ContextLemmas.{uncovered_by}
use Rattle.addr2line.proofs.LookupLemmas.{after_frames, all_passed, refused_for_memory, stop_now, stored_from, walk_alone, walk_memory, walked_context, walked_from}
use Rattle.addr2line.proofs.context.Context.walk.Goals as goal

pub invariant_of-self : goal.invariant_of-self
invariant_of-self g c =
    let s = c.self.inside in
    let i = c.self.invariant in
    let passed = subst (λ x. HasPassed c.args.faults x c.args.probe c.args.place) (sym c.self.view_is) c.requires.passed in
    let e = rw (c.skip_to.ensures.left ∙ ap (from_place c.args.place) c.find-ranges.ensures.gives) at c.walk.ensures in
    let shares = g.R.Reader.shares in
    walked_context s.ranges s.units i c.args.faults c.args.probe c.walk.new.self shares c.walk.result (walked_from s.ranges s.units i c.args.faults c.args.probe c.args.place passed c.walk.new.self shares c.walk.result e.after)

pub returns-clause-gives : goal.returns-clause-gives
returns-clause-gives g c =
    let s = c.self.inside in
    let i = c.self.invariant in
    let passed = subst (λ x. HasPassed c.args.faults x c.args.probe c.args.place) (sym c.self.view_is) c.requires.passed in
    let e = rw (c.skip_to.ensures.left ∙ ap (from_place c.args.place) c.find-ranges.ensures.gives) at c.walk.ensures in
    let shares = g.R.Reader.shares in
    let now = c.walk.new.self in
    let after = walked_from s.ranges s.units i c.args.faults c.args.probe c.args.place passed now shares c.walk.result e.after in
    subst (ExactlyUnlessOom (λ _. now.stop) c.walk.result) (sym (stop_now s.ranges s.units i c.args.faults c.args.probe now shares c.walk.result after))
    (stored_from s.ranges s.units i c.args.faults c.args.probe c.args.place passed now shares c.walk.result e.after (λ _. now.stop) e.gives)

pub returns-clause-after : goal.returns-clause-after
returns-clause-after g c =
    let s = c.self.inside in
    let i = c.self.invariant in
    let passed = subst (λ x. HasPassed c.args.faults x c.args.probe c.args.place) (sym c.self.view_is) c.requires.passed in
    let e = rw (c.skip_to.ensures.left ∙ ap (from_place c.args.place) c.find-ranges.ensures.gives) at c.walk.ensures in
    let r = c.walk.result in
    let now = c.walk.new.self in
    let shares = g.R.Reader.shares in
    let after = walked_from s.ranges s.units i c.args.faults c.args.probe c.args.place passed now shares r e.after in
    rw (sym c.self.view_is) (record {
      frames = after_frames s.ranges s.units i c.args.faults c.args.probe now shares r after;
      refused = λ passes. refused_for_memory (λ _. now.stop) s.units (cover c.args.probe s.ranges) c.args.faults c.args.probe r passes (stored_from s.ranges s.units i c.args.faults c.args.probe c.args.place passed now shares r e.after (λ _. now.stop) e.gives);
      memory = walk_memory s.ranges s.units i c.args.faults c.args.probe now shares r after;
      no_memory = walk_alone s.ranges s.units i c.args.faults c.args.probe now shares r after;
      last = λ q. uncovered_by s.ranges s.units i c.args.probe (sym c.find-ranges.ensures.gives ∙ c.find-ranges.ensures.last q);
    })

pub returns-clause-passed : goal.returns-clause-passed
returns-clause-passed g c =
    let s = c.self.inside in
    let passed = subst (λ x. HasPassed c.args.faults x c.args.probe c.args.place) (sym c.self.view_is) c.requires.passed in
    let e = rw (c.skip_to.ensures.left ∙ ap (from_place c.args.place) c.find-ranges.ensures.gives) at c.walk.ensures in
    all_passed s.ranges s.units c.self.invariant c.args.faults c.args.probe c.args.place passed c.walk.new.self g.R.Reader.shares c.walk.result e.after c.walk.result e.passed
