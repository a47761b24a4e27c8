use Rattle.addr2line_units.proofs.Common.{◌++◌, Ok, free, length, arange_sets_of, aranges_in_at_cost, stored_aranges_in}
use Rattle.gimli_read.specs.Costed.{◌>>=◌}
use Rattle.addr2line_units.proofs.UnitsMemoryLemmas.{IsRestOf}
use Rattle.addr2line_units.proofs.index.read_sets.Given as goal

abbrev pub invariant-loop-aranges : goal.invariant-loop-aranges
invariant-loop-aranges g l = record {
  left : IsRestOf g.R.Reader.shares (stored_aranges_in l.sets >>= λ more. free (Ok (l.aranges.items ++ more))) (aranges_in_at_cost (arange_sets_of (g.R.Reader.section l.section.section)));
}

abbrev pub decreases-loop-aranges : goal.decreases-loop-aranges
decreases-loop-aranges g l = length l.sets
