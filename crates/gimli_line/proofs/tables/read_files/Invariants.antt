use Rattle.gimli_line.proofs.Common.{◌≡◌, length, run_of, collected, with_front, file_at}
use Rattle.gimli_line.proofs.TableLemmas.{IsGivenOne}
use Rattle.gimli_line.proofs.tables.read_files.Given as goal

abbrev pub invariant-loop-files : goal.invariant-loop-files
invariant-loop-files g l =
    let see = g.R.Reader.section in
    record {
      gives : with_front (l.files.items) (collected (run_of file_at (see l.input))) ≡ collected (run_of file_at (see l.fn.input));
      begun : IsGivenOne file_at (see l.fn.input) (see l.input);
    }

abbrev pub decreases-loop-files : goal.decreases-loop-files
decreases-loop-files g l = length (g.R.Reader.section l.input).bytes
