use Rattle.std.proofs.Common.{ℕ, Result, Ok, sym, ap, ◌∙◌}
use Rattle.std.proofs.lemmas.Result.{err_from_is_err_and}
use Rattle.gimli_read.specs.declared.error.Error.{Error}
use Rattle.gimli_read.specs.Section.{Section}
use Rattle.gimli_read.specs.Reading.{◌>>=◌}
use Rattle.gimli_read.specs.Run.{run_of, fold_of}
use Rattle.gimli_read.proofs.Shorter.{shorter_by}
use Rattle.gimli_read.proofs.RunLemmas.{fold-more, fold-end, fold-fault}
use Rattle.line_speed.specs.Checksum.{program_at, with_program}
use Rattle.line_speed.proofs.Programs.{program-takes}
use Rattle.line_speed.proofs.checksum.checksum_of.Goals as goal

-- the sum of a fold
sum_of : Result (ℕ × Section) Error → Result ℕ Error
sum_of r = r >>= λ x. Ok x.0

-- what is summed behind a program
then : Section → Result ℕ Error → Result (ℕ × Section) Error
then t r = r >>= λ n. fold_of with_program n (run_of program_at t)

pub returns-in_err-program : goal.returns-in_err-program
unfolding sum_of
returns-in_err-program g c = let p = err_from_is_err_and c.from_residual.result c.from_residual.ensures.1 in
    rw (p.1, p.2) (record { gives = λ n. ap sum_of (sym c.loop-rest.invariant ∙ fold-fault program_at program-takes with_program _ _ (c.in_err-program.ensures.gives n) _) })

pub returns-in_err-sum : goal.returns-in_err-sum
unfolding sum_of then
returns-in_err-sum g c = let p = err_from_is_err_and c.from_residual-in_err-sum.result c.from_residual-in_err-sum.ensures.1 in
    let part = rw c.in-Some.is at c.in_ok-program.ensures.gives in
    rw (p.1, p.2) (record {
      gives = λ n. ap sum_of (sym c.loop-rest.invariant ∙ fold-more program_at program-takes with_program _ c.in-Some.program (g.R.Reader.section c.next_program.new.rest) part _ ∙ ap (then (g.R.Reader.section c.next_program.new.rest)) (c.in_err-sum.ensures.gives n));
    })

pub loop-rest-smaller : goal.loop-rest-smaller
loop-rest-smaller g c = shorter_by program_at program-takes _ c.in-Some.program _ (rw c.in-Some.is at c.in_ok-program.ensures.gives)

pub loop-rest-preserved : goal.loop-rest-preserved
unfolding then
loop-rest-preserved g c =
    let part = rw c.in-Some.is at c.in_ok-program.ensures.gives in
    sym (fold-more program_at program-takes with_program _ c.in-Some.program (g.R.Reader.section c.next_program.new.rest) part _ ∙ ap (then (g.R.Reader.section c.next_program.new.rest)) c.in_ok-sum.ensures.gives) ∙ c.loop-rest.invariant

pub returns : goal.returns
unfolding sum_of
returns g c = record { gives = ap sum_of (sym c.loop-rest.invariant ∙ fold-end program_at program-takes with_program _ _ (rw c.in_default.is at c.in_ok-program.ensures.gives) _) }
