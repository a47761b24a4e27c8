use Rattle.addr2line.proofs.Common.{◌≤◌, Some, map, option_map, refl, rules, subst, sym, ◌∙◌, length-map, ExactlyUnlessOom, Skip, Stop, frames_left, SuspendsAgain, answered, frames_replied, unit_replied, lookup_stop, frames_of, unit_of, unit_value, as_given}
use Rattle.addr2line_units.specs.SupScope.{as_found_unit}
use Rattle.addr2line.proofs.ReplayLemmas.{begun_at, ends_at_once, ends_resumed, found_waiting, frames_suspended, goes_on, is_refused, left_at_end, left_by, load_token, next_shared, unit_suspended}
use Rattle.addr2line.proofs.session.replay_lookup.Goals as goal

-- ---- of frames

pub returns-in-Output : goal.returns-in-Output
returns-in-Output g c =
    let first = c.args.context.now in
    let p = c.args.probe in
    let e = c.frames_reply.ensures in
    let all = map as_given c.args.answers.now in
    record { after = rw c.in-Frames.is (ends_at_once Stop p first all g.R.Reader.shares (frames_replied first.sections p) c.in-Output.frames _ (search rules) c.frames_reply.result (e.gives (lookup_stop Stop first.sections first.answers p) c.in-Output.ensures.gives.comes_to.output) e.memory e.refused) }

pub loop-answer-init : goal.loop-answer-init
loop-answer-init g c =
    let first = c.args.context.now in
    let next = c.in-Load.continuation in
    let load = c.in-Load.ensures.gives.comes_to.load in
    record {
      name = refl;
      probe = load.1;
      token = load_token Stop first.sections first.answers c.args.probe next.number next.load load.2.waits load.2.load;
      so = begun_at Stop c.args.probe first (map as_given c.args.answers.now) next.number _ next.ctx.now load.2;
    }

pub returns-in-Output-resume : goal.returns-in-Output-resume
returns-in-Output-resume g c =
    let first = c.args.context.now in
    let p = c.args.probe in
    let i = c.loop-answer.answer-index in
    let l = c.loop-answer.next in
    let inv = c.loop-answer.invariant in
    let e = c.frames_reply-in-Output-resume.ensures in
    let x = option_map (λ r. r.value) c.in-Ok-Some.input in
    let one = next_shared as_given (λ r. r.value) c.args.answers.now i c.answer-item.result (search rules) c.answer-item.is c.in-Ok-Some.field-0-is c.in-Ok-Some.ensures.gives in
    let left = answered l.ctx.now.sections l.ctx.now.answers l.number x in
    let o = c.in-Output-resume.frames in
    let out = subst (λ s. ExactlyUnlessOom (λ j. Some (frames_left j)) o (frames_of s left p)) inv.so.sections (subst (λ q. ExactlyUnlessOom (λ j. Some (frames_left j)) o (frames_of l.ctx.now.sections left q)) inv.probe c.in-Output-resume.ensures.gives.output) in
    record {
      after = rw c.in-Frames.is (ends_resumed Stop p first (map as_given c.args.answers.now) inv.so x one g.R.Reader.shares (frames_replied first.sections p) c.resume.result o c.in-Output-resume.is l.probe inv.probe _ c.resume.follows.lender-at-none (search rules) c.resume.follows.holds-at-none
          c.frames_reply-in-Output-resume.result (e.gives (lookup_stop Stop first.sections left p) out) e.memory e.refused);
    }

pub returns-in-Ok-None : goal.returns-in-Ok-None
returns-in-Ok-None g c =
    let so = c.loop-answer.invariant.so in
    let one = next_shared as_given (λ r. r.value) c.args.answers.now c.loop-answer.answer-index c.answer-item.result (search rules) c.answer-item.is c.in-Ok-None.field-0-is c.in-Ok-None.ensures.gives in
    record { after = rw c.in-Frames.is (frames_suspended so c.loop-answer.invariant.token _ c.suspended_reply.ensures.gives _ (search rules) (left_by Stop _ _ _ so one)) }

pub returns-in-Err : goal.returns-in-Err
returns-in-Err g c =
    let first = c.args.context.now in
    let l = c.loop-answer.next in
    record { after = rw c.in-Frames.is (is_refused Stop c.args.probe first (map as_given c.args.answers.now) c.loop-answer.invariant.so (frames_replied first.sections c.args.probe) _ _ (search rules) c.in-Err.ensures.refused) }

pub loop-answer-preserved : goal.loop-answer-preserved
loop-answer-preserved g c =
    let first = c.args.context.now in
    let p = c.args.probe in
    let i = c.loop-answer.answer-index in
    let l = c.loop-answer.next in
    let inv = c.loop-answer.invariant in
    let next = c.in-Load-resume.continuation in
    let load = c.in-Load-resume.ensures.gives.load in
    let x = option_map (λ r. r.value) c.in-Ok-Some.input in
    let one = next_shared as_given (λ r. r.value) c.args.answers.now i c.answer-item.result (search rules) c.answer-item.is c.in-Ok-Some.field-0-is c.in-Ok-Some.ensures.gives in
    let again = subst (λ q. SuspendsAgain Stop q l.number x next.number next.load l.ctx.now next.ctx.now) inv.probe load.2 in
    record {
      name = load.0 ∙ inv.name;
      probe = load.1 ∙ inv.probe;
      token = load_token Stop again.0.sections again.0.answers p next.number next.load again.2.waits again.2.load;
      so = goes_on Stop p first (map as_given c.args.answers.now) inv.so x one next.number next.load next.ctx.now again;
    }

pub returns-after-loop-answer : goal.returns-after-loop-answer
returns-after-loop-answer g c =
    let so = c.loop-answer.invariant.so in
    let past = subst (λ n. n ≤ c.loop-answer.answer-index) (sym (length-map c.args.answers.now as_given)) (search rules) in
    record { after = rw c.in-Frames.is (frames_suspended so c.loop-answer.invariant.token _ c.suspended_reply-in-Frames.ensures.gives _ (search rules) (left_at_end Stop _ _ _ so past)) }

-- ---- of a unit

pub returns-in-Output-find_dwarf_and_unit : goal.returns-in-Output-find_dwarf_and_unit
returns-in-Output-find_dwarf_and_unit g c =
    let first = c.args.context.now in
    let p = c.args.probe in
    let e = c.unit_reply.ensures in
    let all = map as_given c.args.answers.now in
    record { after = rw c.in-Unit.is (ends_at_once Skip p first all g.R.Reader.shares (unit_replied first.sections p) c.in-Output-find_dwarf_and_unit.unit _ (search rules) c.unit_reply.result (e.gives (lookup_stop Skip first.sections first.answers p) (unit_of first.sections first.answers p) c.in-Output-find_dwarf_and_unit.ensures.gives.comes_to.output (found_waiting Skip unit_value first.sections first.answers p)) e.memory e.refused) }

pub loop-answer-2-init : goal.loop-answer-2-init
loop-answer-2-init g c =
    let first = c.args.context.now in
    let next = c.in-Load-find_dwarf_and_unit.continuation in
    let load = c.in-Load-find_dwarf_and_unit.ensures.gives.comes_to.load in
    record {
      name = refl;
      probe = load.1;
      token = load_token Skip first.sections first.answers c.args.probe next.number next.load load.2.waits load.2.load;
      so = begun_at Skip c.args.probe first (map as_given c.args.answers.now) next.number _ next.ctx.now load.2;
    }

pub returns-in-Output-resume-2 : goal.returns-in-Output-resume-2
returns-in-Output-resume-2 g c =
    let first = c.args.context.now in
    let p = c.args.probe in
    let i = c.loop-answer-2.answer-index in
    let l = c.loop-answer-2.next in
    let inv = c.loop-answer-2.invariant in
    let e = c.unit_reply-in-Output-resume-2.ensures in
    let x = option_map (λ r. r.value) c.in-Ok-Some-share_given.input in
    let one = next_shared as_given (λ r. r.value) c.args.answers.now i c.answer-item-in-loop-answer-2.result (search rules) c.answer-item-in-loop-answer-2.is c.in-Ok-Some-share_given.field-0-is c.in-Ok-Some-share_given.ensures.gives in
    let left = answered l.ctx.now.sections l.ctx.now.answers l.number x in
    let o = c.in-Output-resume-2.unit in
    let out = subst (λ s. ExactlyUnlessOom as_found_unit o (unit_of s left p)) inv.so.sections (subst (λ q. ExactlyUnlessOom as_found_unit o (unit_of l.ctx.now.sections left q)) inv.probe c.in-Output-resume-2.ensures.gives.output) in
    record {
      after = rw c.in-Unit.is (ends_resumed Skip p first (map as_given c.args.answers.now) inv.so x one g.R.Reader.shares (unit_replied first.sections p) c.resume-in-Ok-Some-share_given.result o c.in-Output-resume-2.is l.probe inv.probe _ c.resume-in-Ok-Some-share_given.follows.lender-at-none (search rules) c.resume-in-Ok-Some-share_given.follows.holds-at-none
          c.unit_reply-in-Output-resume-2.result (e.gives (lookup_stop Skip first.sections left p) (unit_of first.sections left p) out (found_waiting Skip unit_value first.sections left p)) e.memory e.refused);
    }

pub returns-in-Ok-None-share_given : goal.returns-in-Ok-None-share_given
returns-in-Ok-None-share_given g c =
    let so = c.loop-answer-2.invariant.so in
    let one = next_shared as_given (λ r. r.value) c.args.answers.now c.loop-answer-2.answer-index c.answer-item-in-loop-answer-2.result (search rules) c.answer-item-in-loop-answer-2.is c.in-Ok-None-share_given.field-0-is c.in-Ok-None-share_given.ensures.gives in
    record { after = rw c.in-Unit.is (unit_suspended so c.loop-answer-2.invariant.token _ c.suspended_reply-in-Ok-None-share_given.ensures.gives _ (search rules) (left_by Skip _ _ _ so one)) }

pub returns-in-Err-share_given : goal.returns-in-Err-share_given
returns-in-Err-share_given g c =
    let first = c.args.context.now in
    let l = c.loop-answer-2.next in
    record { after = rw c.in-Unit.is (is_refused Skip c.args.probe first (map as_given c.args.answers.now) c.loop-answer-2.invariant.so (unit_replied first.sections c.args.probe) _ _ (search rules) c.in-Err-share_given.ensures.refused) }

pub loop-answer-2-preserved : goal.loop-answer-2-preserved
loop-answer-2-preserved g c =
    let first = c.args.context.now in
    let p = c.args.probe in
    let i = c.loop-answer-2.answer-index in
    let l = c.loop-answer-2.next in
    let inv = c.loop-answer-2.invariant in
    let next = c.in-Load-resume-2.continuation in
    let load = c.in-Load-resume-2.ensures.gives.load in
    let x = option_map (λ r. r.value) c.in-Ok-Some-share_given.input in
    let one = next_shared as_given (λ r. r.value) c.args.answers.now i c.answer-item-in-loop-answer-2.result (search rules) c.answer-item-in-loop-answer-2.is c.in-Ok-Some-share_given.field-0-is c.in-Ok-Some-share_given.ensures.gives in
    let again = subst (λ q. SuspendsAgain Skip q l.number x next.number next.load l.ctx.now next.ctx.now) inv.probe load.2 in
    record {
      name = load.0 ∙ inv.name;
      probe = load.1 ∙ inv.probe;
      token = load_token Skip again.0.sections again.0.answers p next.number next.load again.2.waits again.2.load;
      so = goes_on Skip p first (map as_given c.args.answers.now) inv.so x one next.number next.load next.ctx.now again;
    }

pub returns-after-loop-answer-2 : goal.returns-after-loop-answer-2
returns-after-loop-answer-2 g c =
    let so = c.loop-answer-2.invariant.so in
    let past = subst (λ n. n ≤ c.loop-answer-2.answer-index) (sym (length-map c.args.answers.now as_given)) (search rules) in
    record { after = rw c.in-Unit.is (unit_suspended so c.loop-answer-2.invariant.token _ c.suspended_reply-in-Unit.ensures.gives _ (search rules) (left_at_end Skip _ _ _ so past)) }
