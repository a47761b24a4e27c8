-- The words so far.
use Rattle.addr2line_bin.proofs.Common.{◌≡◌, map, take}
use Rattle.addr2line_bin.specs.CommandLine.{styled_word, texts_in}
use Rattle.addr2line_bin.proofs.command_line.styled_words.Given as goal

abbrev pub invariant-loop-word : goal.invariant-loop-word
invariant-loop-word l =
    map (λ t. t.now) l.styled.items ≡ map styled_word (texts_in (take l.word-index l.words))
