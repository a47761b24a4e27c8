use Rattle.gimli_line.proofs.Common.{◌≡◌, drop, no_entry, values_at}
use Rattle.gimli_line.proofs.entry_tables.read_values.Given as goal

abbrev pub invariant-loop-format : goal.invariant-loop-format
invariant-loop-format g l = values_at l.encoding (drop l.format-index l.formats) l.entry (g.R.Reader.section l.input) ≡ values_at l.encoding l.formats no_entry (g.R.Reader.section l.fn.input)
