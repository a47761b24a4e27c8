use Rattle.gimli.proofs.Common.{◌≡◌, drop, rest_of, attributes_at}
use Rattle.gimli.proofs.sink.pass_over.Given as goal

abbrev pub invariant-loop-specification : goal.invariant-loop-specification
invariant-loop-specification g l =
    let encoding = l.fn.entries.unit.encoding in
    record {
      gives : rest_of (attributes_at encoding (drop l.specification-index l.specifications) l.entries.cursor.left) ≡ rest_of (attributes_at encoding l.specifications l.fn.entries.cursor.left);
      unit : l.entries.unit ≡ l.fn.entries.unit;
      depth : l.entries.cursor.depth ≡ l.fn.entries.cursor.depth;
    }
