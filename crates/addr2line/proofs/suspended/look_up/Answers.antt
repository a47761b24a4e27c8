use Rattle.addr2line.proofs.Common.{Some, refl, found_at, found_of_context, fault_of, IfErr, IsFaultOfAsked, NeedsNoMemory}
use Rattle.addr2line.proofs.AfterLemmas.{fault_told, frames_over, frames_told, if_load, outputs_same, stored_told, suspends}
use Rattle.addr2line.proofs.UncoveredLemmas.{uncovered_ends, uncovered_ok}
use Rattle.addr2line.proofs.suspended.look_up.Goals as goal

pub returns : goal.returns
returns g c =
    let faults = g.K.LookupKind.faults in
    let kind = g.K.Lent in
    let probe = c.args.probe in
    let e = rw c.on_fault.ensures.gives at c.walk-walked.ensures in
    let old = c.args.ctx.now in
    let mid = c.walk-walked.new.self in
    let walked = c.walk-walked.result in
    let a = frames_told faults probe old mid walked e.after.frames in
    let stored = stored_told faults probe mid walked e.gives in
    let alone : (NeedsNoMemory g.R.Reader.shares faults mid probe → IfErr (fault_of walked) (IsFaultOfAsked faults old.sections old.answers probe)) = λ none. fault_told (IsFaultOfAsked faults old.sections old.answers probe) walked (e.after.no_memory none) in
    let r = c.lend.result in
    let told = c.lend.ensures.gives in
    let f = c.lend.follows in
    let after = frames_over faults probe old mid _ a stored g.R.Reader.shares alone _ r f.holds-at-none in
    let load = if_load _ _ r (λ x h. (h.0, h.1, suspends faults probe old mid _ a stored x.number x.load x.ctx.now h.2 h.3 h.4 h.5)) told.load in
    let output = outputs_same (found_at faults kind.value_of) (λ i. Some (kind.see i)) probe old mid r a.sections a.answers told.output in (
      (refl, f.holds, after),
      record {
        gives = record {
          comes_to = record { load = load; output = output; refused = told.refused };
          none = λ u. uncovered_ends faults probe old u g.R.Reader.shares (λ i. Some (kind.see i)) (found_of_context faults kind.value_of old probe) (uncovered_ok faults kind.value_of probe old u) _ r
              (if_load _ _ r (λ x h. (x.number, h.2.waits)) load) after output;
          last = e.after.last;
        };
        ends = tt;
      },
    )
