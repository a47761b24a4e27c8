use Rattle.addr2line_units.proofs.Common.{◌≡◌, ◌++◌, true, length, is_ascii, list_all, string_bytes, plain_from}
use Rattle.addr2line_units.proofs.legacy.plain.push_plain.Given as goal

abbrev pub invariant-loop-first : goal.invariant-loop-first
invariant-loop-first l = record {
  pushed : string_bytes l.out ++ plain_from 0 l.left ≡ string_bytes l.fn.out ++ plain_from 0 l.bytes;
  is_text : list_all is_ascii l.left ≡ true;
}

abbrev pub decreases-loop-first : goal.decreases-loop-first
decreases-loop-first l = length l.left
