-- The strings so far are the first texts.
use Rattle.addr2line_bin.proofs.Common.{◌≡◌, map, take}
use Rattle.addr2line_bin.specs.CommandLine.{texts_in}
use Rattle.addr2line_bin.proofs.command_line.strings_of.Given as goal

abbrev pub invariant-loop-text : goal.invariant-loop-text
invariant-loop-text l = texts_in l.strings.items ≡ map (λ t. t.now) (take l.text-index l.texts)
