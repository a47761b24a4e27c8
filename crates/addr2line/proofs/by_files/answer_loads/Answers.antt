use Rattle.addr2line.proofs.Common.{◌≡◌, ◌≢◌, inl, inr, Err, Ok, ap, option_map, refl, rules, subst, true, ◌∙◌, IfSome, OutOfMemory, Stop, SuspendsAgain, as_read_if_known, given_by_files, of_file}
use Rattle.addr2line.specs.SplitFiles.{AreOfSomeFile, RefusesAnswer}
use Rattle.addr2line.proofs.ByFilesLemmas.{begins_waiting, ends_at_once, ends_resumed, given_up, goes_on, waits_still}
use Rattle.addr2line.proofs.Facts.{if_seen}
use Rattle.addr2line.proofs.by_files.answer_loads.Goals as goal

pub returns-in-Output : goal.returns-in-Output
returns-in-Output g c =
    let files = as_read_if_known c.args.compressed (g.F.FileSource.files c.args.files.now) in
    record {
      after = record {
        by_files = ends_at_once c.args.compressed files c.args.probe c.args.ctx.now true c.in-Output.frames _ (search rules) (of_file c.ended.result) (ap of_file c.ended.ensures.gives);
        waits = tt;
        last = c.find_frames.ensures.gives.last;
      };
    }

pub loop-sections-init : goal.loop-sections-init
loop-sections-init g c =
    let files = as_read_if_known c.args.compressed (g.F.FileSource.files c.args.files.now) in
    let next = c.in-Load.continuation in
    let load = c.in-Load.ensures.gives.comes_to.load in
    record { name = refl; probe = load.1; so = begins_waiting c.args.compressed files c.args.probe c.args.ctx.now next.number next.load next.ctx.now load.2 }

pub loop-sections-preserved : goal.loop-sections-preserved
loop-sections-preserved g c =
    let files = as_read_if_known c.args.compressed (g.F.FileSource.files c.args.files.now) in
    let l = c.loop-sections.next in
    let inv = c.loop-sections.invariant in
    let next = c.in-Load-resume.continuation in
    let load = c.in-Load-resume.ensures.gives.load in
    let x = option_map (λ d. d.value) c.in-Ok.sections in
    let by = subst (λ s. IfSome files (λ held. given_by_files held s ≡ Ok x)) c.load.ensures.gives c.in-Ok.ensures.gives.gives.gives in
    let made = subst (λ s. IfSome x (AreOfSomeFile c.args.compressed s)) c.load.ensures.gives (if_seen (λ d. d.value) (AreOfSomeFile c.args.compressed c.load.result.now) c.in-Ok.sections c.in-Ok.ensures.gives.gives.made) in
    record {
      name = load.0 ∙ inv.name;
      probe = load.1 ∙ inv.probe;
      so = goes_on c.args.compressed files c.args.probe c.args.ctx.now l.number l.load l.ctx.now inv.so x by made next.number next.load next.ctx.now
          (subst (λ q. SuspendsAgain Stop q l.number x next.number next.load l.ctx.now next.ctx.now) inv.probe load.2);
    }

pub returns-in-Output-resume : goal.returns-in-Output-resume
returns-in-Output-resume g c =
    let files = as_read_if_known c.args.compressed (g.F.FileSource.files c.args.files.now) in
    let l = c.loop-sections.next in
    let inv = c.loop-sections.invariant in
    let x = option_map (λ d. d.value) c.in-Ok.sections in
    let by = subst (λ s. IfSome files (λ held. given_by_files held s ≡ Ok x)) c.load.ensures.gives c.in-Ok.ensures.gives.gives.gives in
    let made = subst (λ s. IfSome x (AreOfSomeFile c.args.compressed s)) c.load.ensures.gives (if_seen (λ d. d.value) (AreOfSomeFile c.args.compressed c.load.result.now) c.in-Ok.sections c.in-Ok.ensures.gives.gives.made) in
    record {
      after = record {
        by_files = ends_resumed c.args.compressed files c.args.probe c.args.ctx.now l.number l.load l.ctx.now inv.so x by made true c.resume.result c.in-Output-resume.frames c.in-Output-resume.is l.probe inv.probe _ c.resume.follows.lender-at-none (search rules) c.resume.follows.holds-at-none
            (of_file c.ended-in-Output-resume.result) (ap of_file c.ended-in-Output-resume.ensures.gives);
        waits = tt;
        last = c.find_frames.ensures.gives.last;
      };
    }

pub returns-in-Err : goal.returns-in-Err
returns-in-Err g c =
    let files = as_read_if_known c.args.compressed (g.F.FileSource.files c.args.files.now) in
    let l = c.loop-sections.next in
    let inv = c.loop-sections.invariant in
    let e = c.in-Err.error in
    let by = subst (λ s. IfSome files (λ held. e ≢ OutOfMemory → given_by_files held s ≡ Err e)) c.load.ensures.gives c.in-Err.ensures.gives.gives.gives in
    let why = subst (λ s. RefusesAnswer s e) c.load.ensures.gives c.in-Err.ensures.gives.gives.refused in
    record {
      after = record {
        by_files = given_up c.args.compressed files c.args.probe c.args.ctx.now l.number l.load l.ctx.now inv.so e (elim why [ inl q ↦ inl q.0 | inr q ↦ inr q ]) by _ (search rules);
        waits = waits_still c.args.compressed files c.args.probe c.args.ctx.now l.number l.load l.ctx.now inv.so (λ load. RefusesAnswer load e) why _ (search rules);
        last = c.find_frames.ensures.gives.last;
      };
    }
