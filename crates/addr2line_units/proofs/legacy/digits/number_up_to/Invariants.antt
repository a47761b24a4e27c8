use Rattle.addr2line_units.proofs.Common.{◌≡◌, ◌≤◌, take, digits_value}
use Rattle.addr2line_units.proofs.legacy.digits.number_up_to.Given as goal

abbrev pub invariant-loop-b : goal.invariant-loop-b
invariant-loop-b l = record {
  number_is : l.number ≡ digits_value l.radix (take l.b-index l.digits);
  within : l.number ≤ l.most;
}
