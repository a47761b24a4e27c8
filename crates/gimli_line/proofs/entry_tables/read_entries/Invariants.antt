use Rattle.gimli_line.proofs.Common.{◌≡◌, ◌-◌, with_front, IsBegun, times, formatted_entry_at}
use Rattle.gimli_line.proofs.entry_tables.read_entries.Given as goal

abbrev pub invariant-loop : goal.invariant-loop
invariant-loop g l =
    let see = g.R.Reader.section in
    let part = formatted_entry_at l.encoding l.formats in
    record {
      gives : with_front (l.files.items) (times part (l.count - l.counter) (see l.input)) ≡ times part l.count (see l.fn.input);
      begun : IsBegun part (see l.fn.input) (see l.input);
    }
