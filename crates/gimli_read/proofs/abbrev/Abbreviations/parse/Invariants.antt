use Rattle.gimli_read.proofs.Common.{◌≡◌, length, front_at, table_at}
use Rattle.gimli_read.proofs.AbbrevLemmas.{table_from, IsBegun}
use Rattle.gimli_read.proofs.abbrev.Abbreviations.parse.Given as goal

abbrev pub invariant-loop-buffers : goal.invariant-loop-buffers
invariant-loop-buffers g l =
    let see = g.R.Reader.section in
    record {
      gives : table_from l.table (see l.input) ≡ table_at (see l.fn.input);
      begun : IsBegun front_at (see l.fn.input) (see l.input);
    }

abbrev pub decreases-loop-buffers : goal.decreases-loop-buffers
decreases-loop-buffers g l = length (g.R.Reader.section l.input).bytes
