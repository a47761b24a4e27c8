use Rattle.addr2line_bin.proofs.Common.{string_bytes, err_from_is_err_and, IsText}
use Rattle.addr2line_bin.specs.Print.{ProbeText}
use Rattle.addr2line_bin.proofs.PrintingLemmas.{ends_at_once, sends_one}
use Rattle.addr2line_bin.proofs.printing.print_one.Goals as goal

pub returns-in_err-make_texts-clause-gives : goal.returns-in_err-make_texts-clause-gives
returns-in_err-make_texts-clause-gives g c =
    let Is = IsText (g.L.Lookups.answers c.args.lookups.now) c.args.context.now in
    let p = err_from_is_err_and c.from_residual.result c.from_residual.ensures.1 in
    rw (p.1, p.2) (ends_at_once Is (g.W.Stream.state c.args.out.now) (g.E.Stream.state c.args.err.now) c.args.probe)

pub returns-clause-gives : goal.returns-clause-gives
returns-clause-gives g c =
    let Is = IsText (g.L.Lookups.answers c.args.lookups.now) c.args.context.now in
    let texts = c.make_texts.new.texts in
    let text : ProbeText = record { out = string_bytes texts.out; err = string_bytes texts.err } in
    sends_one Is (g.W.Stream.state c.args.out.now) (g.W.Stream.state c.send.new.out) (g.E.Stream.state c.args.err.now) (g.E.Stream.state c.tell.new.err) c.args.probe text c.in_ok-make_texts.ensures.gives
    (rw c.as_str.ensures.value at c.tell.ensures.gives) c.send.result (rw c.as_str-2.ensures.value at c.send.ensures.gives) c.send.ensures.after c.send.ensures.whole c.send.ensures.fault
    (rw c.as_str-2.ensures.value at c.send.ensures.refused)
