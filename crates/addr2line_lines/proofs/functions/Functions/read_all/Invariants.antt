use Rattle.addr2line_lines.proofs.Common.{◌≡◌, length, as_scope}
use Rattle.addr2line_lines.proofs.ReadLemmas.{IsReadTo}
use Rattle.addr2line_lines.proofs.functions.Functions.read_all.Given as goal

abbrev pub invariant-loop-place : goal.invariant-loop-place
invariant-loop-place g l = record {
  count : l.count ≡ length l.fn.self.functions;
  read : IsReadTo g.R.Reader.shares (as_scope l.fn.scope) l.fn.unit l.fn.self l.self l.place;
}
