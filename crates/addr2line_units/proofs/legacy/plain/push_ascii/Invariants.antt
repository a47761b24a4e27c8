use Rattle.addr2line_units.proofs.Common.{◌≡◌, ◌++◌, take, string_bytes}
use Rattle.addr2line_units.proofs.legacy.plain.push_ascii.Given as goal

abbrev pub invariant-loop-b : goal.invariant-loop-b
invariant-loop-b l = string_bytes l.out ≡ string_bytes l.fn.out ++ take l.b-index l.bytes
