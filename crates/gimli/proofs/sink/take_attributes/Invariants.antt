use Rattle.gimli.proofs.Common.{◌≡◌, length, Ok, Result, attributes_at, rest_of, ExactlyUnlessOomIf, or_fault, taken_after}
use Rattle.gimli_read.specs.declared.error.Error.{Error as Fault}
use Rattle.gimli.proofs.sink.take_attributes.Given as goal

abbrev pub invariant-loop-next : goal.invariant-loop-next
invariant-loop-next g l =
    let encoding = l.fn.entries.unit.encoding in
    let more = g.S.AttributeSink.with_attribute l.sink in
    record {
      given : Result g.S.AttributeSink.Said Fault;
      is : ExactlyUnlessOomIf g.R.Reader.shares g.S.AttributeSink.said (or_fault l.found l.fault) given;
      gives : taken_after more given (attributes_at encoding l.rest l.entries.cursor.left) ≡ taken_after more (Ok (g.S.AttributeSink.said l.fn.found)) (attributes_at encoding l.fn.specifications l.fn.entries.cursor.left);
      left : rest_of (attributes_at encoding l.rest l.entries.cursor.left) ≡ rest_of (attributes_at encoding l.fn.specifications l.fn.entries.cursor.left);
      unit : l.entries.unit ≡ l.fn.entries.unit;
      depth : l.entries.cursor.depth ≡ l.fn.entries.cursor.depth;
      after : g.S.AttributeSink.Grows l.sink l.fn.cache l.cache;
    }

abbrev pub decreases-loop-next : goal.decreases-loop-next
decreases-loop-next g l = length l.rest
