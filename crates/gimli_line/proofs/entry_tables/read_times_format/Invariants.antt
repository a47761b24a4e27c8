use Rattle.gimli_line.proofs.Common.{◌≡◌, ◌-◌, with_front, IsBegun, times, format_at}
use Rattle.gimli_line.proofs.entry_tables.read_times_format.Given as goal

abbrev pub invariant-loop : goal.invariant-loop
invariant-loop g l =
    let see = g.R.Reader.section in
    record {
      gives : with_front l.formats.items (times format_at (l.count - l.counter) (see l.input)) ≡ times format_at l.count (see l.fn.input);
      begun : IsBegun format_at (see l.fn.input) (see l.input);
    }
