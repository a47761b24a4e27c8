use Rattle.std.proofs.Common.{◌≡◌}
use Rattle.std.specs.Char.Escape.{escape_unicode}
use Rattle.std.specs.Char.Iter.{escape_rest}
use Rattle.rust_v0.specs.State.{state_of}
use Rattle.rust_v0.specs.Shown.{say_chars}
use Rattle.rust_v0.proofs.printer.Printer.say_unicode.Given as goal

abbrev pub invariant-loop-e : goal.invariant-loop-e
invariant-loop-e l = say_chars (escape_rest l.e-iterator) (state_of l.self) ≡ say_chars (escape_unicode l.fn.c) (state_of l.fn.self)
