use Rattle.gimli_line.proofs.Common.{List, Result, sym, ap, subst, ◌∙◌, Error, LineRow, Lines, YieldsUnlessOom, rows_left}
use Rattle.gimli_line.proofs.RowsLeft.{left_none, stopped}
use Rattle.gimli_line.proofs.AheadLemmas.{over, after_refusal, after_end}
use Rattle.gimli_line.proofs.program.LineRows.next_row.Goals as goal

pub returns-then-is_err-clause-gives : goal.returns-then-is_err-clause-gives
returns-then-is_err-clause-gives g c =
    let s = g.R.Reader.section in
    let a = c.self.inside in
    let found = c.find_row-found in
    let h = found.new.header in
    let after = rows_left h c.start-self-inside.result (s c.skip_rest.new.input) in
    let none = left_none h c.start-self-inside.result (s c.skip_rest.new.input) c.skip_rest.ensures.none in
    let P : List (Result LineRow Error) → Type 0 = λ old. YieldsUnlessOom old found.result after in
    subst P (ap (λ (v : Lines). v.left) c.self.view_is)
    (stopped (rows_left a.header a.registers (s a.program)) found.result (rows_left h found.new.registers (s found.new.program)) after (sym c.is_err.ensures.value ∙ c.if-is_err.true) found.ensures.gives none)

pub returns-then-is_err-clause-refused : goal.returns-then-is_err-clause-refused
returns-then-is_err-clause-refused g c = after_refusal c.find_row-found.result (over _ _ _ c.skip_rest.ensures.none)

pub returns-else-is_err-clause-none : goal.returns-else-is_err-clause-none
returns-else-is_err-clause-none g c = after_end c.find_row-found.result (over _ _ _) c.find_row-found.ensures.none
