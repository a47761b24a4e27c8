use Rattle.gimli_line.proofs.Common.{◌≡◌, List, ℕ, [], ◌∷◌, Err, drop, sym, subst, Section, rows_left, Passes}
use Rattle.gimli_line.proofs.AheadLemmas.{after_refusal}
use Rattle.gimli_line.proofs.FirstOpcode.{at}
use Rattle.gimli_line.proofs.Passing.{skipped_is}
use Rattle.gimli_line.proofs.program.take_frequent.Goals as goal

pub returns-in_err-len-clause-exact : goal.returns-in_err-len-clause-exact
returns-in_err-len-clause-exact g c = after_refusal c.from_residual.result (λ d left.
    let s : Section = g.R.Reader.section c.args.program.now in
    let P : List ℕ → Type 0 = λ bytes. rows_left c.args.header.now c.args.registers.now (at s.endian bytes) ≡ Err d ∷ [] in
    c.in_err-len.ensures.refused s.endian d (subst P (sym c.to_slice.ensures.gives) left))

pub returns-clause-gives : goal.returns-clause-gives
returns-clause-gives g c =
    let s : Section = g.R.Reader.section c.args.program.now in
    let h = c.args.header.now in
    let q = c.run_frequent.new.registers in
    let P : List ℕ → Type 0 = λ bytes. Passes g.S.RowSink.taken h c.args.registers.now (at s.endian bytes) c.args.sink.now h q (at s.endian (drop c.in_ok-len.len bytes)) c.run_frequent.new.sink in
    let Q : Section → Type 0 = λ t. Passes g.S.RowSink.taken h c.args.registers.now s c.args.sink.now h q t c.run_frequent.new.sink in
    subst Q (skipped_is c.in_ok-len.len s (g.R.Reader.section c.skip.new.self) _ c.in_ok-skip.ensures.gives) (subst P c.to_slice.ensures.gives (c.in_ok-len.ensures.gives s.endian))
