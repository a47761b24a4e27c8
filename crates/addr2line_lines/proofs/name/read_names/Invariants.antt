use Rattle.addr2line_lines.proofs.Common.{◌≡◌, length, as_name_or_origin, named_at, no_name, as_scope}
use Rattle.addr2line_lines.proofs.name.read_names.Given as goal

abbrev pub invariant-loop-next : goal.invariant-loop-next
invariant-loop-next g l =
    let s = as_scope l.fn.place.scope in
    let u = l.fn.place.unit.now in
    record {
      gives : named_at s u l.rest l.entries.cursor.left (as_name_or_origin g.R.Reader.section l.found) ≡ named_at s u l.fn.specifications l.fn.entries.cursor.left no_name;
      encoding : l.entries.unit.encoding ≡ u.header.encoding;
    }

abbrev pub decreases-loop-next : goal.decreases-loop-next
decreases-loop-next g l = length l.rest
