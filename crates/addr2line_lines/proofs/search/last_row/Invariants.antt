use Rattle.addr2line_lines.proofs.Common.{◌-◌, ◌≡◌, ◌+◌, ◌≤◌, row_address_at}
use Rattle.addr2line_lines.proofs.search.last_row.Given as goal

abbrev pub invariant-loop-next : goal.invariant-loop-next
invariant-loop-next g l =
    let listed = g.T.Table.rows l.fn.table in
    record {
      sequences : g.T.Table.sequences l.table ≡ g.T.Table.sequences l.fn.table;
      rows : g.T.Table.rows l.table ≡ listed;
      cost : g.T.Table.steps l.table + l.from + 1 ≡ g.T.Table.steps l.fn.table + l.next;
      below : row_address_at listed (l.next - 1) ≤ l.probe;
    }
