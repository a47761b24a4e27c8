use Rattle.gimli_line.proofs.Common.{◌≡◌, ◌-◌, numbers_skipped}
use Rattle.gimli_line.proofs.standard.skip_numbers.Given as goal

abbrev pub invariant-loop : goal.invariant-loop
invariant-loop g l = numbers_skipped (l.count - l.counter) (g.R.Reader.section l.input) ≡ numbers_skipped l.count (g.R.Reader.section l.fn.input)
