use Rattle.addr2line.proofs.Common.{Some, fault_of, refl, found_at}
use Rattle.addr2line.proofs.AfterLemmas.{if_load, never_waits, ok_told, outputs_skipped, skip_after, skip_told_so}
use Rattle.addr2line.proofs.suspended.Suspended.skip.Goals as goal

pub returns : goal.returns
returns g c =
    let faults = g.K.LookupKind.faults in
    let e = rw c.on_fault.ensures.gives at c.skip_loads-walked.ensures in
    let probe = c.args.self.probe in
    let old = c.args.self.ctx.now in
    let mid = c.skip_loads-walked.new.self in
    let told = c.lend.ensures.gives in
    let walked = c.skip_loads-walked.result in
    let after = skip_told_so g.R.Reader.shares faults probe old mid walked e.after.skip in
    let none = ok_told _ walked e.after.none in
    let f = c.lend.follows in (
      (refl, f.holds, skip_after faults probe old mid _ g.R.Reader.shares after _ c.lend.result none f.holds-at-none),
      record {
        ends = tt;
        gives = record {
          load = if_load _ _ c.lend.result (λ x h. never_waits (fault_of walked) mid.stop x.number none h.3 h.4) told.load;
          output = outputs_skipped faults probe old mid _ g.R.Reader.shares after (found_at faults g.K.Lent.value_of) (λ i. Some (g.K.Lent.see i)) _ c.lend.result f.holds-at-none told.output;
          refused = told.refused;
        };
      },
    )
