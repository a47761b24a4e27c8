use Rattle.std.proofs.Common.{◌≡◌, drop}
use Rattle.std.specs.Prelude.{map}
use Rattle.rust_v0.specs.State.{state_of}
use Rattle.rust_v0.specs.Shown.{say_chars}
use Rattle.rust_v0.specs.Leaves.{hyphen}
use Rattle.rust_v0.proofs.printer.Printer.say_hyphens.Given as goal

abbrev pub invariant-loop-b : goal.invariant-loop-b
invariant-loop-b l = say_chars (map hyphen (drop l.b-index l.word)) (state_of l.self) ≡ say_chars (map hyphen l.word) (state_of l.fn.self)
