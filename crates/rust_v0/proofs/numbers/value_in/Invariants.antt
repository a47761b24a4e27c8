use Rattle.std.proofs.Common.{◌≡◌, drop}
use Rattle.rust_v0.specs.Numbers.{value_from}
use Rattle.rust_v0.proofs.numbers.value_in.Given as goal

abbrev pub invariant-loop-b : goal.invariant-loop-b
invariant-loop-b l = value_from l.base l.number (drop l.b-index l.digits) ≡ value_from l.base 0 l.digits
