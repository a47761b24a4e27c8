use Rattle.std.proofs.Common.{◌≡◌, ◌++◌, take, string_bytes}
use Rattle.rust_v0.proofs.identifiers.push_ascii.Given as goal

abbrev pub invariant-loop-b : goal.invariant-loop-b
invariant-loop-b l = string_bytes l.out ≡ string_bytes l.fn.out ++ take l.b-index l.bytes
