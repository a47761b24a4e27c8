use Rattle.addr2line_lines.proofs.Common.{◌≡◌, ◌+◌, ◌-◌, arith, ◌∙◌, ap, sym, refl, row_address_at, Row}
use Rattle.addr2line_lines.proofs.PackedLemmas.{sequence_rows_of}
use Rattle.addr2line_lines.proofs.SearchLemmas.{past_from, row_found}
use Rattle.addr2line_lines.proofs.search.last_row.Goals as goal
use Rattle.addr2line_lines.proofs.Facts.{read_at}

pub returns-then-row-probe-clause-found : goal.returns-then-row-probe-clause-found
returns-then-row-probe-clause-found g c =
    let i = c.loop-next.invariant in let all = g.T.Table.rows c.args.table.now in
    let z = sequence_rows_of all c.args.sequence c.requires.among in
    let from = c.loop-next.auto.next in let test = c.loop-next-test.true in let past = c.if-row-probe.true in
    let here : row_address_at all c.loop-next.next ≡ c.row.result.address = ap (λ (r : Row). r.address) (read_at all _ _ c.loop-next.next _ _ c.row.ensures.gives i.rows refl) in
    let least = c.requires.from in let few = c.requires.inside in let min = c.min.ensures in
    let later = past_from all c.args.sequence c.loop-next.next c.args.probe z (omega arith) (omega arith) in
    let row = c.row-then-row-probe.result in
    let rows = c.row.ensures.rows ∙ i.rows in
    let there : row_address_at all (c.loop-next.next - 1) ≡ row.address = ap (λ (r : Row). r.address) (read_at all _ _ (c.loop-next.next - 1) _ _ c.row-then-row-probe.ensures.gives rows refl) in
    let below = i.below in
    sym (row_found all c.args.probe c.args.sequence (c.loop-next.next - 1) row c.requires.among (omega arith) (omega arith)
    (read_at all _ _ (c.loop-next.next - 1) _ row c.row-then-row-probe.ensures.gives rows refl) (omega arith) (λ j low high. later j (omega arith) high))

pub loop-next-preserved : goal.loop-next-preserved
loop-next-preserved g c =
    let i = c.loop-next.invariant in let all = g.T.Table.rows c.args.table.now in
    let count = c.row.ensures.steps in let was = i.cost in
    let here : row_address_at all (c.loop-next.next + 1 - 1) ≡ c.row.result.address = ap (λ (r : Row). r.address) (read_at all _ _ (c.loop-next.next + 1 - 1) _ _ c.row.ensures.gives i.rows (omega arith)) in
    let low = c.if-row-probe.false in
    record {
      sequences = c.row.ensures.sequences ∙ i.sequences;
      rows = c.row.ensures.rows ∙ i.rows;
      cost = omega arith;
      below = omega arith;
    }

pub returns-clause-found : goal.returns-clause-found
returns-clause-found g c =
    let i = c.loop-next.invariant in let all = g.T.Table.rows c.args.table.now in
    let test = c.loop-next-test.false in
    let from = c.requires.from in let inside = c.requires.inside in let min = c.min.ensures in
    let at = c.loop-next.auto.next in let until = c.loop-next.auto.next-end in
    let row = c.row-2.result in
    let place = c.args.from + c.min.result - 1 in
    let there : row_address_at all place ≡ row.address = ap (λ (r : Row). r.address) (read_at all _ _ place _ _ c.row-2.ensures.gives i.rows refl) in
    let same : c.loop-next.next ≡ c.args.from + c.min.result = omega arith in
    let here : row_address_at all (c.loop-next.next - 1) ≡ row_address_at all place = ap (λ n. row_address_at all (n - 1)) same in
    let below = i.below in
    sym (row_found all c.args.probe c.args.sequence place row c.requires.among (omega arith) (omega arith)
    (read_at all _ _ place _ row c.row-2.ensures.gives i.rows refl) (omega arith) (λ j low high. c.requires.past j (omega arith) high))
