use Rattle.addr2line_c.proofs.Common.{rules, ◌≢◌, ◌∙◌, []}
use Rattle.addr2line.specs.Lookups.{loads_at}
use Rattle.addr2line_c.proofs.LoadCallLemmas.{none_wanted}
use Rattle.addr2line_c.proofs.NoneOpenLemmas.{no_loads}
use Rattle.addr2line_c.proofs.answers.preload.Goals as goal

pub returns-in-Ok-2-clause-none : goal.returns-in-Ok-2-clause-none
returns-in-Ok-2-clause-none g c = λ shut.
    let old = c.args.context.now in
    let some : loads_at old.sections old.answers c.args.probe ≢ [] = search rules in
    absurd (some (no_loads old c.args.probe shut))

pub returns-in-Err-ask_all-clause-none : goal.returns-in-Err-ask_all-clause-none
returns-in-Err-ask_all-clause-none g c = λ shut.
    absurd (none_wanted c.in-Ok.wanted.items c.args.loads.now.loads.items c.ask_all.new.loads.loads.items (c.in-Ok.ensures.gives ∙ no_loads c.args.context.now c.args.probe shut) c.in-Err-ask_all.ensures.kept)
