use Rattle.addr2line_lines.proofs.Common.{◌≡◌, [], length, AreNamesMore, IsFoundMore, as_lists, as_scope}
use Rattle.addr2line_lines.specs.FoundItems.{inside_found, as_around}
use Rattle.addr2line_lines.proofs.CostLemmas.{IsRestOf}
use Rattle.addr2line_lines.proofs.detail.read_inside.Given as goal

abbrev pub invariant-loop-scope : goal.invariant-loop-scope
invariant-loop-scope g l =
    let scope = as_scope l.fn.scope in
    let u = l.unit in
    record {
      rest : IsRestOf (inside_found scope u l.entries.unit l.entries.cursor (as_around l.found l.nesting)) (inside_found scope u l.fn.entries.unit l.fn.entries.cursor (as_around l.fn.found []));
      kept : IsFoundMore (as_lists l.fn.found) (as_lists l.found);
      unit : l.entries.unit.encoding ≡ u.header.encoding;
      names : AreNamesMore l.fn.names l.names;
    }

abbrev pub decreases-loop-scope : goal.decreases-loop-scope
decreases-loop-scope g l = length l.entries.cursor.left.bytes
