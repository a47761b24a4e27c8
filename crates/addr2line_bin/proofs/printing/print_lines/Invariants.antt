use Rattle.addr2line_bin.proofs.Common.{◌≡◌, List, ℕ, length, StaysAnswered, line_probes, PrintsOf, plus, IsText}
use Rattle.addr2line_bin.proofs.LineLemmas.{ReadSoFar}
use Rattle.addr2line_bin.proofs.printing.print_lines.Given as goal

-- the lines that were read so far, that each was asked for once and no read has failed, and that what they ask for was printed
abbrev pub invariant-loop : goal.invariant-loop
invariant-loop g l =
    let first = g.L.Lookups.answers l.fn.lookups in
    let i = g.I.Input.state in
    StaysAnswered first (g.L.Lookups.answers l.lookups)
    × ((lines : List (List ℕ))
    × (length lines ≡ l.counter)
    × ((i l.input).fault ≡ (i l.fn.input).fault)
    × ((i l.input).reads ≡ plus (i l.fn.input).reads (length lines))
    × ReadSoFar (i l.fn.input).bytes (i l.input).bytes lines
    × PrintsOf (IsText first l.context) (g.W.Stream.state l.fn.out) (g.W.Stream.state l.out) (g.E.Stream.state l.fn.err) (g.E.Stream.state l.err) (line_probes lines))
