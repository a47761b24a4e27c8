use Rattle.addr2line_bin.proofs.Common.{◌≡◌, ◌++◌, List, ℕ, Option, drop, StaysAnswered, PrintsOf, IsText, probes_in}
use Rattle.addr2line_bin.proofs.printing.print_words.Given as goal

-- what was printed so far, and the words that are left
abbrev pub invariant-loop-word : goal.invariant-loop-word
invariant-loop-word g l =
    let first = g.L.Lookups.answers l.fn.lookups in
    StaysAnswered first (g.L.Lookups.answers l.lookups)
    × ((done : List (Option ℕ))
    × (probes_in l.words ≡ done ++ probes_in (drop l.word-index l.words))
    × PrintsOf (IsText first l.context) (g.W.Stream.state l.fn.out) (g.W.Stream.state l.out) (g.E.Stream.state l.fn.err) (g.E.Stream.state l.err) done)
