use Rattle.addr2line_units.proofs.Common.{refl}
use Rattle.addr2line_units.proofs.UnitsIndexLemmas.{where_taken}
use Rattle.addr2line_units.proofs.sup.read_sup_unit.Goals as goal

pub returns-in-Err-OutOfMemory-clause-gives : goal.returns-in-Err-OutOfMemory-clause-gives
returns-in-Err-OutOfMemory-clause-gives g c =
    let gives = rw c.in-Err-OutOfMemory.field-0-is at c.in-Err-OutOfMemory.ensures.gives in
    λ may. absurd (may (where_taken c.args.abbreviations.now.dwarf c.args.header g.R.Reader.shares c.args.abbreviations.now refl gives) refl)
