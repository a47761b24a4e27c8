use Rattle.addr2line_units.proofs.Common.{◌≡◌, ◌++◌, Ok, length, free, all_headers, stored_units_of, units_of_at_cost}
use Rattle.gimli_read.specs.Costed.{◌>>=◌}
use Rattle.addr2line_units.specs.UnitsMemory.{sup_unit_of_header_at_cost}
use Rattle.addr2line_units.proofs.UnitsMemoryLemmas.{IsRestOf}
use Rattle.addr2line_units.proofs.sup.read_sup_units.Given as goal

abbrev pub invariant-loop-units : goal.invariant-loop-units
invariant-loop-units g l =
    let read = sup_unit_of_header_at_cost l.dwarf in
    record {
      left : IsRestOf g.R.Reader.shares (stored_units_of read l.headers >>= λ units. free (Ok (l.units.items ++ units))) (units_of_at_cost read (all_headers l.dwarf.debug_info));
      same : l.abbreviations.dwarf ≡ l.dwarf;
    }

abbrev pub decreases-loop-units : goal.decreases-loop-units
decreases-loop-units g l = length l.headers
