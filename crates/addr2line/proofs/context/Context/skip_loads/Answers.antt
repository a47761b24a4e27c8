use Rattle.addr2line.proofs.Common.{Err, None, Option, UnitRange, ap, refl, rules, err_from_is_err_and, is_waiting}
use Rattle.addr2line.proofs.SkippedLemmas.{after_skip, fault_now, skipped_look, skipped_more, skipped_none, skipped_refused, told_ended, told_waits}
use Rattle.addr2line.proofs.AskedLemmas.{passed_answered}
use Rattle.addr2line.proofs.context.Context.skip_loads.Goals as goal

pub loop-place-init : goal.loop-place-init
loop-place-init g c = (skipped_none c.args.faults c.args.probe c.args.self.now, λ m e. refl)

pub returns-in_err-place-clause-after : goal.returns-in_err-place-clause-after
returns-in_err-place-clause-after g c =
    let p = err_from_is_err_and c.from_residual.result c.from_residual.ensures.1 in
    let e = c.in_err-place.ensures in
    let a = e.after.frames in
    rw (p.1, p.2) (record {
      skip = after_skip c.args.faults c.args.probe c.args.self.now c.walk.new.self (skipped_look c.args.faults c.args.probe c.args.self.now c.loop-place.self c.loop-place.invariant.0 _ c.walk.new.self a) g.R.Reader.shares _
          (λ told. ap is_waiting (e.gives told)) (λ told. a.ready told) e.after.memory
          (λ none. fault_now {X = Option UnitRange} c.args.faults c.args.probe c.loop-place.self c.walk.new.self (Err c.in_err-place.field-0.0) a.sections a.answers (e.after.no_memory none));
      refused = e.after.refused;
      none = tt;
    })

pub loop-place-preserved : goal.loop-place-preserved
loop-place-preserved g c =
    let n = c.in-Some.number in
    let a = c.in_ok-place.ensures.after.frames in
    let mid = c.walk.new.self in
    let waits = told_waits n mid.stop _ c.in_ok-place.ensures.gives (search rules) in
    let e = c.in_ok-answer-in-Some.ensures in (
      skipped_more c.args.faults c.args.probe c.args.self.now mid (skipped_look c.args.faults c.args.probe c.args.self.now c.loop-place.self c.loop-place.invariant.0 _ mid a) n c.answer.new.self waits e.after.after,
      passed_answered c.args.faults c.args.probe n None _ mid c.answer.new.self waits e.after.after c.in_ok-place.ensures.passed,
    )

pub returns-in_err-answer-in-Some-clause-after : goal.returns-in_err-answer-in-Some-clause-after
returns-in_err-answer-in-Some-clause-after g c =
    let p = err_from_is_err_and c.from_residual-in_err-answer-in-Some.result c.from_residual-in_err-answer-in-Some.ensures.1 in
    let n = c.in-Some.number in
    let mid = c.walk.new.self in
    let e = c.in_err-answer-in-Some.ensures in
    let so = skipped_look c.args.faults c.args.probe c.args.self.now c.loop-place.self c.loop-place.invariant.0 _ mid c.in_ok-place.ensures.after.frames in
    let refused = e.after.after.refused in
    rw (p.1, p.2) (record {
      skip = after_skip c.args.faults c.args.probe c.args.self.now c.answer.new.self (skipped_refused c.args.faults c.args.probe c.args.self.now mid so n _ c.answer.new.self (told_waits n mid.stop _ c.in_ok-place.ensures.gives (search rules)) e.after.after) g.R.Reader.shares _
          (λ told. absurd (told refused.0)) (λ told. absurd (told refused.0)) (λ few. absurd (let no = refused.3 in cc)) (λ none. absurd (let no = refused.3 in cc));
      refused = λ passes. refused.0;
      none = tt;
    })

pub returns-in-None-clause-after : goal.returns-in-None-clause-after
returns-in-None-clause-after g c =
    let a = c.in_ok-place.ensures.after.frames in
    let mid = c.walk.new.self in
    record {
      skip = after_skip c.args.faults c.args.probe c.args.self.now mid (skipped_look c.args.faults c.args.probe c.args.self.now c.loop-place.self c.loop-place.invariant.0 _ mid a) g.R.Reader.shares _
          (λ told. told_ended mid.stop _ c.in_ok-place.ensures.gives (search rules)) (λ told. a.ready tt) (λ few. tt) (λ none. tt);
      refused = λ passes. tt;
      none = search rules;
    }
