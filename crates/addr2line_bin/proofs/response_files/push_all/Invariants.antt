-- The words so far, with those that they stand for.
use Rattle.addr2line_bin.proofs.Common.{◌≡◌, ◌++◌, IfSome, take}
use Rattle.std.specs.Prelude.{flat_map}
use Rattle.addr2line_bin.specs.CommandLine.{texts_in}
use Rattle.addr2line_bin.specs.ResponseFiles.{words_for}
use Rattle.addr2line_bin.proofs.response_files.push_all.Given as goal

abbrev pub invariant-loop-word : goal.invariant-loop-word
invariant-loop-word g l = IfSome (g.F.FileSource.files l.files) (λ held. texts_in l.taken.items
    ≡ texts_in l.fn.taken.items ++ flat_map (words_for held) (texts_in (take l.word-index l.words)))
