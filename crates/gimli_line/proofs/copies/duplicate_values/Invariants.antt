use Rattle.gimli_line.proofs.Common.{◌≡◌, map, take, as_value}
use Rattle.gimli_line.proofs.copies.duplicate_values.Given as goal

abbrev pub invariant-loop-value : goal.invariant-loop-value
invariant-loop-value g l = map (as_value g.R.Reader.section) l.copies.items ≡ take l.value-index (map (as_value g.R.Reader.section) l.values)
