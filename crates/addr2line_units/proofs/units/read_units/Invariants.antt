use Rattle.addr2line_units.proofs.Common.{◌≡◌, Ok, length, free, stored_units_of, unit_of_header_at_cost}
use Rattle.gimli_read.specs.Costed.{◌>>=◌}
use Rattle.addr2line_units.specs.UnitsIndexed.{appended, indexed_with}
use Rattle.addr2line_units.proofs.UnitsMemoryLemmas.{IsRestOf}
use Rattle.addr2line_units.proofs.units.read_units.Given as goal

abbrev pub invariant-loop-index : goal.invariant-loop-index
invariant-loop-index g l =
    let d = l.dwarf in
    record {
      left : IsRestOf g.R.Reader.shares (stored_units_of (unit_of_header_at_cost d l.aranges) l.headers >>= λ units. free (Ok (appended l.index units))) (indexed_with d l.aranges);
      same : l.abbreviations.dwarf ≡ d;
      sections : l.index.sections ≡ d;
    }

abbrev pub decreases-loop-index : goal.decreases-loop-index
decreases-loop-index g l = length l.headers
