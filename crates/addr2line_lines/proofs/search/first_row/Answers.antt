use Rattle.addr2line_lines.proofs.Common.{ℕ, ◌≡◌, ◌+◌, ◌-◌, ◌*◌, ◌/◌, ◌≤◌, List, length, arith, ◌∙◌, ap, sym, refl, subst, row_address_at, Row}
use Rattle.addr2line_lines.specs.Counts.{blocks}
use Rattle.addr2line_lines.proofs.DigitLemmas.{digits_half, digits_le}
use Rattle.addr2line_lines.proofs.PackedLemmas.{sequence_rows_of}
use Rattle.addr2line_lines.proofs.SearchLemmas.{past_from}
use Rattle.addr2line_lines.proofs.search.first_row.Goals.{then-block-probe, else-block-probe}
use Rattle.addr2line_lines.proofs.search.first_row.Goals as goal

pub loop-size-init : goal.loop-size-init
loop-size-init g c =
    let rows = g.T.Table.rows c.args.table.now in
    let s = c.args.sequence in
    let z = sequence_rows_of rows s c.requires.among in
    let i = z.inside in let some = z.some in
    let cost = digits_le (((s.first + (s.len - 1)) / 64 - s.first / 64 + 1) - 1) (blocks (length rows)) (omega arith) in
    record {
      some = omega arith;
      upto = omega arith;
      sequences = refl;
      rows = refl;
      cost = omega arith;
      raised = omega arith;
      from = omega arith;
      inside = omega arith;
      below = (let e = z.starts in let b = c.requires.below in omega arith);
      past = λ j low high. absurd (omega arith);
    }

pub loop-size-preserved : goal.loop-size-preserved
loop-size-preserved g c =
    let rows = g.T.Table.rows c.args.table.now in
    let i = c.loop-size.invariant in let test = c.loop-size-test.true in
    let z = sequence_rows_of _ c.args.sequence c.requires.among in
    let m : ℕ = c.loop-size.best / 64 + c.loop-size.size / 2 in
    let cost = digits_half (c.loop-size.size - c.loop-size.size / 2 - 1) (c.loop-size.size - 1) (omega arith) (omega arith) in
    let count = c.block.ensures.steps in
    let here : row_address_at rows (64 * m) ≡ c.block.result = ap (λ (xs : List Row). row_address_at xs (64 * m)) (sym i.rows) ∙ sym c.block.ensures.gives in
    let some = z.some in
    let upto = i.upto in let was = i.cost in let from = i.from in
    elim c.if-block-probe.branch [
      | then-block-probe w ↦ (
          let e = w.best-is in
          let P : ℕ → Type 0 = λ k. row_address_at rows k ≤ c.args.probe in
          record {
            some = omega arith;
            upto = omega arith;
            sequences = c.block.ensures.sequences ∙ i.sequences;
            rows = c.block.ensures.rows ∙ i.rows;
            cost = omega arith;
            raised = (let r = i.raised in omega arith);
            from = omega arith;
            inside = omega arith;
            below = subst P (sym e) (let t = w.if-block-probe in omega arith);
            past = λ j low high. i.past j (omega arith) high;
          })
      | else-block-probe w ↦ (
          let e = w.best-is in
          let P : ℕ → Type 0 = λ k. row_address_at rows k ≤ c.args.probe in
          let later = past_from rows c.args.sequence (64 * m) c.args.probe z (omega arith) (let t = w.if-block-probe in omega arith) in
          record {
            some = omega arith;
            upto = omega arith;
            sequences = c.block.ensures.sequences ∙ i.sequences;
            rows = c.block.ensures.rows ∙ i.rows;
            cost = omega arith;
            raised = (let r = i.raised in omega arith);
            from = omega arith;
            inside = (let n = i.inside in omega arith);
            below = subst P (sym e) i.below;
            past = λ j low high. later j (omega arith) high;
          })
    ]
