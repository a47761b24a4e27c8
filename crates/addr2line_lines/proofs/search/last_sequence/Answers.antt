use Rattle.addr2line_lines.proofs.Common.{◌+◌, ◌-◌, ◌/◌, arith, ◌∙◌}
use Rattle.addr2line_lines.proofs.DigitLemmas.{digits_half}
use Rattle.addr2line_lines.proofs.SearchLemmas.{last_before_is, sequences_past_from}
use Rattle.addr2line_lines.proofs.search.last_sequence.Goals as goal
use Rattle.addr2line_lines.proofs.Facts.{read_at}

pub loop-low-preserved-then-sequence-probe : goal.loop-low-preserved-then-sequence-probe
loop-low-preserved-then-sequence-probe g c =
    let i = c.loop-low.invariant in
    let all = g.T.Table.sequences c.args.table.now in
    let test = c.loop-low-test.true in
    let cost = digits_half (c.loop-low.high - (c.loop-low.low + (c.loop-low.high - c.loop-low.low) / 2 + 1)) (c.loop-low.high - c.loop-low.low) (omega arith) (omega arith) in
    let count = c.sequence-sequence.ensures.steps in
    let was = i.cost in
    record {
      within = omega arith;
      upto = omega arith;
      sequences = c.sequence-sequence.ensures.sequences ∙ i.sequences;
      rows = c.sequence-sequence.ensures.rows ∙ i.rows;
      cost = omega arith;
      raised = omega arith;
      below = (omega arith, (read_at all _ _ _ _ _ c.sequence-sequence.ensures.gives i.sequences (omega arith), c.if-sequence-probe.true));
      past = i.past;
    }

pub loop-low-preserved : goal.loop-low-preserved
loop-low-preserved g c =
    let i = c.loop-low.invariant in
    let all = g.T.Table.sequences c.args.table.now in
    let test = c.loop-low-test.true in
    let cost = digits_half (c.loop-low.low + (c.loop-low.high - c.loop-low.low) / 2 - c.loop-low.low) (c.loop-low.high - c.loop-low.low) (omega arith) (omega arith) in
    let count = c.sequence-sequence.ensures.steps in
    let was = i.cost in
    record {
      within = omega arith;
      upto = omega arith;
      sequences = c.sequence-sequence.ensures.sequences ∙ i.sequences;
      rows = c.sequence-sequence.ensures.rows ∙ i.rows;
      cost = omega arith;
      raised = omega arith;
      below = i.below;
      past = sequences_past_from all c.requires.ordered _ _ _ c.sequence-sequence.ensures.gives i.sequences c.if-sequence-probe.false;
    }

pub returns-clause-found : goal.returns-clause-found
returns-clause-found g c =
    let i = c.loop-low.invariant in let test = c.loop-low-test.false in
    last_before_is c.args.probe _ c.loop-low.low c.loop-low.best (let a = i.within in let b = i.upto in omega arith) i.below (λ k d from high. i.past k d (let a = i.within in omega arith) high)
