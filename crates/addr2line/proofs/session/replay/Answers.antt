use Rattle.addr2line.proofs.Common.{ap, drop, map, refl, rules, subst, sym, ◌+◌, ◌∙◌, map-append, err_from_is_err_and, as_call, as_reply}
use Rattle.gimli_read.specs.declared.error.Error.TheVariants.{OutOfMemory}
use Rattle.addr2line.proofs.HistoryLemmas.{drop_one}
use Rattle.addr2line.proofs.RunLemmas.{HasMade, made_all, made_none, made_one, refused_after, refused_at_once, refused_in, told_all}
use Rattle.addr2line.proofs.Facts.{none_left}
use Rattle.addr2line.proofs.session.replay.Goals as goal

pub returns-in_err-replies-clause-after : goal.returns-in_err-replies-clause-after
returns-in_err-replies-clause-after g c =
    let p = err_from_is_err_and c.from_residual.result c.from_residual.ensures.1 in
    rw (p.1, p.2) (refused_at_once c.args.context.now (map as_call c.args.calls.now) OutOfMemory refl)

pub returns-in_err-make_call-clause-after : goal.returns-in_err-make_call-clause-after
returns-in_err-make_call-clause-after g c =
    let p = err_from_is_err_and c.from_residual-in_err-make_call.result c.from_residual-in_err-make_call.ensures.1 in
    let all = map as_call c.args.calls.now in
    let i = c.loop-call.call-index in
    let call = c.call-item.result in
    let next = drop_one as_call c.args.calls.now i call (search rules) c.call-item.is in
    rw (p.1, p.2) (refused_in c.args.context.now all (drop i all) (map as_reply c.loop-call.replies.items) c.loop-call.context c.loop-call.invariant (as_call call) (drop (i + 1) all) next c.make_call.new.context c.in_err-make_call.field-0.0 c.in_err-make_call.ensures.after)

pub returns-in_err-push-clause-after : goal.returns-in_err-push-clause-after
returns-in_err-push-clause-after g c =
    let p = err_from_is_err_and c.from_residual-in_err-push.result c.from_residual-in_err-push.ensures.1 in
    let all = map as_call c.args.calls.now in
    let i = c.loop-call.call-index in
    let call = c.call-item.result in
    let next = drop_one as_call c.args.calls.now i call (search rules) c.call-item.is in
    rw (p.1, p.2) (refused_after c.args.context.now all (drop i all) (map as_reply c.loop-call.replies.items) c.loop-call.context c.loop-call.invariant (as_call call) (drop (i + 1) all) next c.make_call.new.context c.in_ok-make_call.field-0 OutOfMemory refl c.in_ok-make_call.ensures.after)

pub loop-call-preserved : goal.loop-call-preserved
loop-call-preserved g c =
    let all = map as_call c.args.calls.now in
    let i = c.loop-call.call-index in
    let call = c.call-item.result in
    let reply = c.in_ok-make_call.field-0 in
    let next = drop_one as_call c.args.calls.now i call (search rules) c.call-item.is in
    let made = made_one c.args.context.now all (drop i all) (map as_reply c.loop-call.replies.items) c.loop-call.context c.loop-call.invariant (as_call call) (drop (i + 1) all) next c.make_call.new.context reply (as_reply reply) c.in_ok-make_call.ensures.after c.in_ok-make_call.ensures.gives in
    let pushed = ap (map as_reply) c.in_ok-push.ensures.items ∙ map-append _ _ _ in
    subst (λ replies. HasMade c.args.context.now all (drop (i + 1) all) replies c.make_call.new.context) (sym pushed) made

pub loop-call-init : goal.loop-call-init
loop-call-init g c =
    let all = map as_call c.args.calls.now in
    subst (λ replies. HasMade c.args.context.now all all (map as_reply replies) c.args.context.now) (sym c.in_ok-replies.ensures.items) (made_none c.args.context.now all)

pub returns-clause-gives : goal.returns-clause-gives
returns-clause-gives g c =
    let l = c.loop-call in
    let all = map as_call c.args.calls.now in
    told_all c.args.context.now all (drop l.call-index all) (map as_reply l.replies.items) l.context l.invariant (none_left as_call c.args.calls.now l.call-index c.loop-call-test.false)

pub returns-clause-after : goal.returns-clause-after
returns-clause-after g c =
    let l = c.loop-call in
    let all = map as_call c.args.calls.now in
    made_all c.args.context.now all (drop l.call-index all) (map as_reply l.replies.items) l.context l.invariant l.replies (none_left as_call c.args.calls.now l.call-index c.loop-call-test.false)
