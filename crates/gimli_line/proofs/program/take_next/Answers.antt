use Rattle.gimli_line.proofs.Common.{err_from_is_err_and, shorter_by, instruction_at}
use Rattle.gimli_line.proofs.Shortening.{instruction-takes}
use Rattle.gimli_line.proofs.RowsLeft.{left_step_fault, step_whole}
use Rattle.gimli_line.proofs.AheadLemmas.{none_ahead}
use Rattle.gimli_line.proofs.Passing.{passes_quiet, passes_row, row_before_fault, same_fault, some_left}
use Rattle.gimli_line.proofs.program.take_next.Goals as goal

pub returns-in_err-row-clause-fault : goal.returns-in_err-row-clause-fault
returns-in_err-row-clause-fault g c =
    let p = err_from_is_err_and c.from_residual-in_err-row.result c.from_residual-in_err-row.ensures.1 in
    let none = some_left (g.R.Reader.section c.args.program.now) c.requires.some in
    rw (p.1, p.2) (λ n. left_step_fault c.args.header.now c.args.registers.now _ _ _ _ none c.in_ok-code.ensures.gives (c.in_err-row.ensures.gives (λ _. n)))

pub returns-in_err-row-clause-exact : goal.returns-in_err-row-clause-exact
returns-in_err-row-clause-exact g c =
    let p = err_from_is_err_and c.from_residual-in_err-row.result c.from_residual-in_err-row.ensures.1 in
    let h = c.args.header.now in
    let none = some_left (g.R.Reader.section c.args.program.now) c.requires.some in
    rw (p.1, p.2) (λ d ahead left.
    let f = none_ahead h c.args.registers.now _ _ _ none c.in_ok-code.ensures.gives ahead in
    same_fault (left_step_fault h c.args.registers.now _ _ _ _ none c.in_ok-code.ensures.gives (c.in_err-row.ensures.gives (λ t. absurd (cc (t, f))))) left)

pub returns-in_err-take-clause-exact : goal.returns-in_err-take-clause-exact
returns-in_err-take-clause-exact g c =
    let p = err_from_is_err_and c.from_residual-in_err-take.result c.from_residual-in_err-take.ensures.1 in
    let h = c.args.header.now in
    let none = some_left (g.R.Reader.section c.args.program.now) c.requires.some in
    let k = rw c.in-Some.is at c.in_ok-row.ensures.gives in
    let w = step_whole h c.args.registers.now _ _ _ _ _ _ _ none c.in_ok-code.ensures.gives k in
    rw (p.1, p.2) (λ d ahead left. absurd (row_before_fault h _ c.args.registers.now _ _ _ w.instruction _ d w.read w.took left))

pub returns-in_ok-take-clause-gives : goal.returns-in_ok-take-clause-gives
returns-in_ok-take-clause-gives g c =
    let h = c.args.header.now in
    let none = some_left (g.R.Reader.section c.args.program.now) c.requires.some in
    let k = rw c.in-Some.is at c.in_ok-row.ensures.gives in
    let w = step_whole h c.args.registers.now _ _ _ _ _ _ _ none c.in_ok-code.ensures.gives k in
    passes_row g.S.RowSink.taken h _ c.args.registers.now _ _ _ w.instruction _ _ _ w.read w.took c.in_ok-take.ensures.gives

pub returns-in_ok-take-clause-shorter : goal.returns-in_ok-take-clause-shorter
returns-in_ok-take-clause-shorter g c =
    let h = c.args.header.now in
    let none = some_left (g.R.Reader.section c.args.program.now) c.requires.some in
    let k = rw c.in-Some.is at c.in_ok-row.ensures.gives in
    let w = step_whole h c.args.registers.now _ _ _ _ _ _ _ none c.in_ok-code.ensures.gives k in
    shorter_by (instruction_at h) (instruction-takes h) _ w.instruction _ w.read

pub returns-in_default-clause-gives : goal.returns-in_default-clause-gives
returns-in_default-clause-gives g c =
    let h = c.args.header.now in
    let none = some_left (g.R.Reader.section c.args.program.now) c.requires.some in
    let k = rw c.in_default.is at c.in_ok-row.ensures.gives in
    let w = step_whole h c.args.registers.now _ _ _ _ _ _ _ none c.in_ok-code.ensures.gives k in
    passes_quiet g.S.RowSink.taken h _ c.args.registers.now _ _ _ w.instruction _ w.read w.took

pub returns-in_default-clause-shorter : goal.returns-in_default-clause-shorter
returns-in_default-clause-shorter g c =
    let h = c.args.header.now in
    let none = some_left (g.R.Reader.section c.args.program.now) c.requires.some in
    let k = rw c.in_default.is at c.in_ok-row.ensures.gives in
    let w = step_whole h c.args.registers.now _ _ _ _ _ _ _ none c.in_ok-code.ensures.gives k in
    shorter_by (instruction_at h) (instruction-takes h) _ w.instruction _ w.read
