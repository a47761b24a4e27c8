use Rattle.addr2line_c.proofs.Common.{rules, ◌≡◌, ◌∙◌, None, ap, inl, inr, refl, subst, SplitLoad, Waits, status_of_error}
use Rattle.addr2line_c.specs.AskedLoads.{place_of_load}
use Rattle.addr2line_c.proofs.LeftLemmas.{frames_not_refused, leaves_frames, leaves_waiting}
use Rattle.addr2line_c.proofs.PlainNameLemmas.{found_plain}
use Rattle.addr2line_c.proofs.lookups.find_frames.Goals as goal

pub returns-in-Output-clause-gives : goal.returns-in-Output-clause-gives
returns-in-Output-clause-gives g c = c.put_found_frames.ensures.gives _ c.in-Output.ensures.gives.comes_to.output

pub returns-in-Output-clause-left : goal.returns-in-Output-clause-left
returns-in-Output-clause-left g c =
    let put = c.put_found_frames in
    leaves_frames g.R.Reader.shares c.args.probe c.args.names _ put.result c.in-Output.found c.args.loads.now.loads.items c.args.context.now _ put.ensures.whole put.ensures.fault put.ensures.memory put.ensures.plain
    c.in-Output.ensures.gives.comes_to.output (search rules)

pub returns-in-Output-clause-memory : goal.returns-in-Output-clause-memory
returns-in-Output-clause-memory g c = λ raw ended few.
    frames_not_refused g.R.Reader.shares c.args.probe _ c.put_found_frames.result c.in-Output.found c.args.context.now c.find_frames.follows.lender-at-none (c.put_found_frames.ensures.memory raw) (search rules) ended few

pub returns-in-Output-clause-plain : goal.returns-in-Output-clause-plain
returns-in-Output-clause-plain g c = λ plain ended few.
    frames_not_refused g.R.Reader.shares c.args.probe _ c.put_found_frames.result c.in-Output.found c.args.context.now c.find_frames.follows.lender-at-none
    (c.put_found_frames.ensures.plain (found_plain c.in-Output.found _ c.in-Output.ensures.gives.comes_to.output plain)) (search rules) ended few

pub returns-in-Ok-clause-left : goal.returns-in-Ok-clause-left
returns-in-Ok-clause-left g c =
    leaves_waiting c.args.probe c.args.names _ Waits c.args.loads.now.loads.items c.args.context.now _ c.in-Load.continuation.ctx.now (inl refl) (search rules) c.in-Load.ensures.gives.comes_to.load.2.after

pub returns-in-Err-clause-left : goal.returns-in-Err-clause-left
returns-in-Err-clause-left g c =
    let waits = c.in-Load.ensures.gives.comes_to.load.2 in
    leaves_waiting c.args.probe c.args.names _ c.status_of_error.result c.args.loads.now.loads.items c.args.context.now _ c.in-Load.continuation.ctx.now
    (inr (
      c.status_of_error.ensures.gives ∙ ap status_of_error c.in-Err.ensures.refused,
      (
        c.in-Load.continuation.number,
        c.in-Load.continuation.load,
        waits.waits,
        waits.load,
        subst (λ (l : SplitLoad). place_of_load c.args.loads.now.loads.items l.unit ≡ None) c.into_load.ensures.gives c.in-Err.ensures.added,
      ),
    )) (search rules) waits.after
