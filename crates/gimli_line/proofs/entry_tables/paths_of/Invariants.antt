use Rattle.gimli_line.proofs.Common.{◌≡◌, map, as_value}
use Rattle.gimli_line.proofs.entry_tables.paths_of.Given as goal

abbrev pub invariant-loop-entry : goal.invariant-loop-entry
invariant-loop-entry g l = map (as_value g.R.Reader.section) l.paths.items ≡ map (λ f. f.path_name) l.yielded
