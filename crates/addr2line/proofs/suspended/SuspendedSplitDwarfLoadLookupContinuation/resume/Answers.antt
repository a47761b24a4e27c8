use Rattle.addr2line.proofs.Common.{Some, inl, ap, length, option_map, refl, subst, sym, ◌<◌, ◌∙◌, ExactlyUnlessOom, IfOutput, answered, found_at, loads_at, lookup_stop, with_none}
use Rattle.addr2line.proofs.AnsweredLemmas.{waits_is}
use Rattle.addr2line.proofs.AskedLemmas.{passed_answered}
use Rattle.addr2line.proofs.AfterLemmas.{if_load, if_output, resume_refused}
use Rattle.addr2line.proofs.SkipLemmas.{skip_told}
use Rattle.addr2line.proofs.suspended.SuspendedSplitDwarfLoadLookupContinuation.resume.Goals as goal

pub look_up-requires : goal.look_up-requires
look_up-requires g c =
    let faults = g.K.LookupKind.faults in
    let l = c.args.self in
    λ names. ((refl, tt), passed_answered faults l.probe l.number (option_map (λ x. x.value) c.args.input) l.place l.ctx.now c.answer.new.self (waits_is l.number (lookup_stop faults l.ctx.now.sections l.ctx.now.answers l.probe) l.stands) c.in-Ok.ensures.after.after l.passed)

pub returns-in-Ok : goal.returns-in-Ok
returns-in-Ok g c =
    let faults = g.K.LookupKind.faults in
    let kind = g.K.Lent in
    let l = c.args.self in
    let d = l.ctx.now.sections in
    let answers = l.ctx.now.answers in
    let mid = c.answer.new.self in
    let a = c.in-Ok.ensures.after.after in
    let r = c.look_up.result in
    let e = c.look_up.ensures.gives.comes_to in
    let f = c.look_up.follows in
    let gives = subst (λ s. IfOutput r (λ o. ExactlyUnlessOom (λ i. Some (kind.see i)) o (found_at faults kind.value_of s (answered d answers l.number (option_map (λ x. x.value) c.args.input)) l.probe))) a.sections
    (subst (λ x. IfOutput r (λ o. ExactlyUnlessOom (λ i. Some (kind.see i)) o (found_at faults kind.value_of mid.sections x l.probe))) a.answers e.output) in (
      (refl, f.holds, if_output _ _ r (λ o h. inl (mid, a, h)) f.holds-at-none),
      record {
        ends = tt;
        gives = record {
          load = if_load _ _ r (λ x h. (h.0, h.1, (mid, a, h.2))) e.load;
          output = gives;
          refused = e.refused;
        };
        after = record {
          shorter = if_load _ _ r (λ x h. subst (λ p. length (loads_at x.ctx.now.sections x.ctx.now.answers p) < length (loads_at d answers l.probe)) (sym h.1)
              (subst (λ y. length (loads_at x.ctx.now.sections y l.probe) < length (loads_at d answers l.probe)) (sym h.2.after.answers)
              (subst (λ s. length (loads_at s mid.answers l.probe) < length (loads_at d answers l.probe)) (sym h.2.after.sections) (a.shorter faults l.probe l.stands)))) e.load;
          none = λ none.
              let given = ap (λ o. option_map (λ x. x.value) o) none in
              skip_told faults kind.value_of kind.see d answers l.probe l.number (λ x. x.ctx.now.sections) (λ x. x.ctx.now.answers) (λ x. x.probe) r
              (if_load _ _ r (λ x h. (h.2.after.sections ∙ a.sections, h.2.after.answers ∙ a.answers ∙ ap (answered d answers l.number) given, h.1)) e.load)
              (subst (λ x. IfOutput r (λ o. ExactlyUnlessOom (λ i. Some (kind.see i)) o (found_at faults kind.value_of d (answered d answers l.number x) l.probe))) given gives);
        };
      },
    )

pub returns-in-Err : goal.returns-in-Err
returns-in-Err g c =
    let faults = g.K.LookupKind.faults in
    let kind = g.K.Lent in
    let l = c.args.self in
    let e = c.in-Err.error in
    let a = c.in-Err.ensures.after in
    let oom = a.after.refused.0 in (
      (refl, (λ _. tt), resume_refused g.R.Reader.shares faults l.probe l.number _ e l.ctx.now c.answer.new.self a),
      record {
        ends = tt;
        gives = record { load = tt; output = λ ne. absurd (ne oom); refused = λ _. oom };
        after = record {
          shorter = tt;
          none = λ none o skips. subst (λ q. ExactlyUnlessOom (λ i. Some (kind.see i)) q (found_at faults kind.value_of l.ctx.now.sections (with_none l.ctx.now.answers) l.probe)) skips (λ ne. absurd (ne oom));
        };
      },
    )
