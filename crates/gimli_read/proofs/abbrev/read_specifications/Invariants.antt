use Rattle.gimli_read.proofs.Common.{◌≡◌, ◌⊎◌, [], is_ok, length, true, specification_at, collected, run_of}
use Rattle.gimli_read.proofs.AbbrevLemmas.{IsBegun}
use Rattle.gimli_read.proofs.abbrev.read_specifications.Given as goal
use Rattle.gimli_read.proofs.RunLemmas.{with_front}

abbrev pub invariant-loop-attribute : goal.invariant-loop-attribute
invariant-loop-attribute g l =
    let see = g.R.Reader.section in
    record {
      gives : with_front l.attributes.items (collected (run_of specification_at (see l.input))) ≡ collected (run_of specification_at (see l.fn.input));
      begun : IsBegun specification_at (see l.fn.input) (see l.input);
      filled : (l.attributes.items ≡ []) ⊎ (is_ok (specification_at (see l.fn.input)) ≡ true);
    }

abbrev pub decreases-loop-attribute : goal.decreases-loop-attribute
decreases-loop-attribute g l = length (g.R.Reader.section l.input).bytes
