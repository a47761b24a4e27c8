use Rattle.gimli_line.proofs.Common.{ℕ, ◌∷◌, Ok, ap, sym, ◌∙◌}
use Rattle.gimli_line.proofs.ShortNumbers.{short_unsigned, long_unsigned}
use Rattle.gimli_line.proofs.frequent.short_unsigned.Goals as goal

pub returns-then-first-lt128-clause-gives : goal.returns-then-first-lt128-clause-gives
returns-then-first-lt128-clause-gives c = λ code rest. short_unsigned c.args.first c.args.second c.if-first-lt128.true rest ∙ ap (λ (n : ℕ). Ok (n, c.args.second ∷ rest)) (sym c.from.ensures)

pub returns-then-second-lt128-clause-gives : goal.returns-then-second-lt128-clause-gives
returns-then-second-lt128-clause-gives c = λ code rest. rw (c.from-then-second-lt128.ensures, c.from-then-second-lt128-2.ensures) (long_unsigned c.args.first c.args.second c.if-first-lt128.false c.if-second-lt128.true rest)
