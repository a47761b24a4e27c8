use Rattle.addr2line.proofs.Common.{Ok, ap, fault_of, refl, rules, subst, ExactlyUnlessOom, lookup_stop}
use Rattle.addr2line.proofs.AfterLemmas.{found_lent}
use Rattle.addr2line.proofs.SkippedLemmas.{told_ended}
use Rattle.addr2line.proofs.suspended.lend.Goals as goal

pub returns-in-None : goal.returns-in-None
returns-in-None g c =
    let faults = g.K.LookupKind.faults in
    let ctx = c.args.ctx.now in
    let stored = subst (λ r. ExactlyUnlessOom (λ _. ctx.stop) r (lookup_stop faults ctx.sections ctx.answers c.args.probe)) c.in-Ok.is c.requires.stored in (
      (refl, (λ _. tt), (refl, (ap fault_of c.in-Ok.is, told_ended ctx.stop (Ok ctx.stop) refl (search rules)))),
      record {
        ends = tt;
        gives = record {
          load = tt;
          output = found_lent faults g.K.Lent.value_of ctx c.args.probe (g.K.Lent.see c.found.result) stored (search rules) c.found.ensures.gives;
          refused = λ _. tt;
        };
      },
    )
