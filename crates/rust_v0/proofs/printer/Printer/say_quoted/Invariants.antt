use Rattle.std.proofs.Common.{◌≡◌, drop}
use Rattle.rust_v0.specs.State.{state_of}
use Rattle.rust_v0.specs.Shown.{say_quoted}
use Rattle.rust_v0.proofs.printer.Printer.say_quoted.Given as goal

abbrev pub invariant-loop-c : goal.invariant-loop-c
invariant-loop-c l = say_quoted (drop l.c-index l.chars) (state_of l.self) ≡ say_quoted l.chars (state_of l.fn.self)
