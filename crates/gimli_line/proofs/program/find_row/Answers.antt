use Rattle.gimli_line.proofs.Common.{None, sym, ◌∙◌, err_from_is_err_and, shorter_by, instruction_at}
use Rattle.gimli_line.proofs.Shortening.{instruction-takes}
use Rattle.gimli_line.proofs.RowsLeft.{left_end, left_more, left_step_fault, step_whole, at_empty, defines_more}
use Rattle.gimli_line.proofs.AheadLemmas.{ahead_end, ahead_row, ahead_step_fault, none_ahead, defined_more, defined_all, still_none, defined_kept}
use Rattle.gimli_line.proofs.program.find_row.Goals as goal

pub returns-in_err-row-clause-gives : goal.returns-in_err-row-clause-gives
returns-in_err-row-clause-gives g c =
    let p = err_from_is_err_and c.from_residual-in_err-row.result c.from_residual-in_err-row.ensures.1 in
    let none = sym c.is_empty.ensures.gives ∙ c.loop-program-test.true in
    let h = c.loop-program.header in
    rw (p.1, p.2) (λ n. sym c.loop-program.invariant.left
    ∙ left_step_fault h c.loop-program.registers _ _ _ _ none c.in_ok-code.ensures.gives (c.in_err-row.ensures.gives (λ _. n)))

pub returns-in_err-row-clause-memory : goal.returns-in_err-row-clause-memory
returns-in_err-row-clause-memory g c =
    let p = err_from_is_err_and c.from_residual-in_err-row.result c.from_residual-in_err-row.ensures.1 in
    let none = sym c.is_empty.ensures.gives ∙ c.loop-program-test.true in
    let h = c.loop-program.header in
    rw (p.1, p.2) (λ n.
    let f = none_ahead h c.loop-program.registers _ _ _ none c.in_ok-code.ensures.gives (still_none _ _ _ _ c.loop-program.invariant.ahead n) in
    sym c.loop-program.invariant.left
    ∙ left_step_fault h c.loop-program.registers _ _ _ _ none c.in_ok-code.ensures.gives (c.in_err-row.ensures.gives (λ t. absurd (cc (t, f)))))

pub returns-in_err-row-clause-after : goal.returns-in_err-row-clause-after
returns-in_err-row-clause-after g c =
    let p = err_from_is_err_and c.from_residual-in_err-row.result c.from_residual-in_err-row.ensures.1 in
    let none = sym c.is_empty.ensures.gives ∙ c.loop-program-test.true in
    let h = c.loop-program.header in
    rw (p.1, p.2) (record {
      rest = _;
      some = defined_kept _ _ _ _ _ c.loop-program.invariant.ahead c.in_err-row.ensures.kept;
      all = λ n. ahead_step_fault h c.loop-program.registers _ _ _ _ none c.in_ok-code.ensures.gives (c.in_err-row.ensures.gives (λ _. n));
    })

pub returns-in-Some-clause-gives : goal.returns-in-Some-clause-gives
returns-in-Some-clause-gives g c =
    let none = sym c.is_empty.ensures.gives ∙ c.loop-program-test.true in
    let k = rw c.in-Some.is at c.in_ok-row.ensures.gives in
    let w = step_whole c.loop-program.header c.loop-program.registers _ _ _ _ _ _ _ none c.in_ok-code.ensures.gives k in
    sym c.loop-program.invariant.left ∙ left_more c.loop-program.header c.loop-program.registers _ _ w.instruction _ _ _ w.read w.took

pub returns-in-Some-clause-after : goal.returns-in-Some-clause-after
returns-in-Some-clause-after g c =
    let none = sym c.is_empty.ensures.gives ∙ c.loop-program-test.true in
    let k = rw c.in-Some.is at c.in_ok-row.ensures.gives in
    let w = step_whole c.loop-program.header c.loop-program.registers _ _ _ _ _ _ _ none c.in_ok-code.ensures.gives k in
    let last = ahead_row c.loop-program.header c.loop-program.registers _ _ w.instruction _ _ _ w.read w.took in
    last.1 ∙ defined_all _ _ _ _ c.loop-program.invariant.ahead last.0

pub returns-in-Some-clause-files : goal.returns-in-Some-clause-files
returns-in-Some-clause-files g c =
    let none = sym c.is_empty.ensures.gives ∙ c.loop-program-test.true in
    let k = rw c.in-Some.is at c.in_ok-row.ensures.gives in
    let w = step_whole c.loop-program.header c.loop-program.registers _ _ _ _ _ _ _ none c.in_ok-code.ensures.gives k in
    defines_more _ _ c.loop-program.header c.loop-program.registers _ _ w.instruction _ _ _ c.loop-program.invariant.files w.read w.took

pub loop-program-smaller : goal.loop-program-smaller
loop-program-smaller g c =
    let none = sym c.is_empty.ensures.gives ∙ c.loop-program-test.true in
    let k = rw c.in_default.is at c.in_ok-row.ensures.gives in
    let h = c.loop-program.header in
    let w = step_whole h c.loop-program.registers _ _ _ _ _ _ _ none c.in_ok-code.ensures.gives k in
    shorter_by (instruction_at h) (instruction-takes h) _ w.instruction _ w.read

pub loop-program-preserved : goal.loop-program-preserved
loop-program-preserved g c =
    let none = sym c.is_empty.ensures.gives ∙ c.loop-program-test.true in
    let k = rw c.in_default.is at c.in_ok-row.ensures.gives in
    let h = c.loop-program.header in
    let w = step_whole h c.loop-program.registers _ _ _ _ _ _ _ none c.in_ok-code.ensures.gives k in
    record {
      running = c.in_ok-row.ensures.registers;
      left = sym (left_more h c.loop-program.registers _ _ w.instruction None _ _ w.read w.took) ∙ c.loop-program.invariant.left;
      ahead = defined_more _ _ h c.loop-program.registers _ _ w.instruction _ _ c.loop-program.invariant.ahead w.read w.took;
      files = defines_more _ _ h c.loop-program.registers _ _ w.instruction _ _ _ c.loop-program.invariant.files w.read w.took;
    }

pub returns-clause-gives : goal.returns-clause-gives
returns-clause-gives g c =
    let h = c.loop-program.header in
    let i = at_empty h _ (sym c.is_empty.ensures.gives ∙ c.loop-program-test.false) in
    (sym c.loop-program.invariant.left ∙ left_end h c.loop-program.registers _ _ i, left_end h c.loop-program.registers _ _ i)

pub returns-clause-after : goal.returns-clause-after
returns-clause-after g c =
    let h = c.loop-program.header in
    let i = at_empty h _ (sym c.is_empty.ensures.gives ∙ c.loop-program-test.false) in
    defined_all _ _ _ _ c.loop-program.invariant.ahead (ahead_end h c.loop-program.registers _ _ i)
