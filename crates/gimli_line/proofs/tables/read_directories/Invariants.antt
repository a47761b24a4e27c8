use Rattle.gimli_line.proofs.Common.{◌≡◌, map, length, run_of, collected, with_front, as_value, directory_at}
use Rattle.gimli_line.proofs.TableLemmas.{IsGivenOne}
use Rattle.gimli_line.proofs.tables.read_directories.Given as goal

abbrev pub invariant-loop-directories : goal.invariant-loop-directories
invariant-loop-directories g l =
    let see = g.R.Reader.section in
    record {
      gives : with_front (map (as_value see) l.directories.items) (collected (run_of directory_at (see l.input))) ≡ collected (run_of directory_at (see l.fn.input));
      begun : IsGivenOne directory_at (see l.fn.input) (see l.input);
    }

abbrev pub decreases-loop-directories : goal.decreases-loop-directories
decreases-loop-directories g l = length (g.R.Reader.section l.input).bytes
