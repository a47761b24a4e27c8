use Rattle.addr2line_lines.proofs.Common.{◌-◌, ◌≡◌, ◌+◌, ◌*◌, ◌/◌, ◌<◌, ◌≤◌, length, ArePastFrom, row_address_at}
use Rattle.addr2line_lines.specs.Digits.{digits}
use Rattle.addr2line_lines.specs.Counts.{blocks}
use Rattle.addr2line_lines.proofs.search.first_row.Given as goal

abbrev pub invariant-loop-size : goal.invariant-loop-size
invariant-loop-size g l =
    let listed = g.T.Table.rows l.fn.table in
    record {
      some : 0 < l.size;
      upto : l.best / 64 + l.size ≤ (l.fn.sequence.first + (l.fn.sequence.len - 1)) / 64 + 1;
      sequences : g.T.Table.sequences l.table ≡ g.T.Table.sequences l.fn.table;
      rows : g.T.Table.rows l.table ≡ listed;
      cost : g.T.Table.steps l.table + digits (l.size - 1) ≤ g.T.Table.steps l.fn.table + digits (blocks (length listed));
      raised : g.T.Table.steps l.fn.table ≤ g.T.Table.steps l.table;
      from : l.fn.sequence.first ≤ l.best;
      inside : l.best < l.fn.sequence.first + l.fn.sequence.len;
      below : row_address_at listed l.best ≤ l.probe;
      past : ArePastFrom l.probe listed l.fn.sequence (64 * (l.best / 64 + l.size));
    }

abbrev pub decreases-loop-size : goal.decreases-loop-size
decreases-loop-size g l = l.size
