use Rattle.addr2line_lines.proofs.Common.{◌-◌, ◌≡◌, ◌+◌, ◌≤◌, length}
use Rattle.addr2line_lines.specs.Digits.{digits}
use Rattle.addr2line_lines.proofs.SearchLemmas.{SequencesPast, IsLastBefore}
use Rattle.addr2line_lines.proofs.search.last_sequence.Given as goal

abbrev pub invariant-loop-low : goal.invariant-loop-low
invariant-loop-low g l =
    let all = g.T.Table.sequences l.fn.table in
    record {
      within : l.low ≤ l.high;
      upto : l.high ≤ length all;
      sequences : g.T.Table.sequences l.table ≡ all;
      rows : g.T.Table.rows l.table ≡ g.T.Table.rows l.fn.table;
      cost : g.T.Table.steps l.table + digits (l.high - l.low) ≤ g.T.Table.steps l.fn.table + digits (length all);
      raised : g.T.Table.steps l.fn.table ≤ g.T.Table.steps l.table;
      below : IsLastBefore l.probe all l.low l.best;
      past : SequencesPast l.probe all l.high;
    }

abbrev pub decreases-loop-low : goal.decreases-loop-low
decreases-loop-low g l = l.high - l.low
