use Rattle.addr2line_lines.proofs.Common.{◌≡◌, length, items_of, AreFoundUnread, none_found, as_functions}
use Rattle.addr2line_lines.proofs.CostLemmas.{IsRestOf}
use Rattle.addr2line_lines.proofs.functions.read_functions.Given as goal
use Rattle.addr2line_lines.proofs.FunctionMemory.{found_from, run_at_cost}

abbrev pub invariant-loop-unit : goal.invariant-loop-unit
invariant-loop-unit g l =
    let d = l.fn.unit.dwarf.now in
    let u = l.fn.unit.unit.now in
    record {
      rest : IsRestOf (found_from d u l.entries.unit l.entries.cursor (as_functions l.found)) (run_at_cost d u none_found (items_of u));
      unit : l.entries.unit.encoding ≡ u.header.encoding;
      unread : AreFoundUnread l.found;
    }

abbrev pub decreases-loop-unit : goal.decreases-loop-unit
decreases-loop-unit g l = length l.entries.cursor.left.bytes
