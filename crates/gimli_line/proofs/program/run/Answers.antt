use Rattle.gimli_line.proofs.Common.{◌≡◌, List, [], ◌∷◌, ◌++◌, Result, Err, sym, ap, ◌∙◌, append-nil, Error, LineRow, all_taken, fault_after}
use Rattle.gimli_line.proofs.RowsLeft.{at_empty, left_end, files_end}
use Rattle.gimli_line.proofs.program.run.Goals as goal

pub returns-clause-gives : goal.returns-clause-gives
returns-clause-gives g c =
    let h = c.loop-header.header in
    let i = at_empty h _ (sym c.is_empty.ensures.gives ∙ c.loop-header-test.false) in
    c.loop-header.invariant.passes.fault ∙ ap fault_after (left_end h c.loop-header.registers _ _ i)

pub returns-clause-after : goal.returns-clause-after
returns-clause-after g c =
    let h = c.loop-header.header in
    let i = at_empty h _ (sym c.is_empty.ensures.gives ∙ c.loop-header-test.false) in
    sym (c.loop-header.invariant.passes.rows ∙ ap (all_taken g.S.RowSink.taken c.loop-header.sink) (left_end h c.loop-header.registers _ _ i))

pub returns-clause-files : goal.returns-clause-files
returns-clause-files g c =
    let h = c.loop-header.header in
    let i = at_empty h _ (sym c.is_empty.ensures.gives ∙ c.loop-header-test.false) in
    sym (c.loop-header.invariant.passes.files.0 ∙ ap (λ files. h.file_names ++ files) (files_end h _ _ i) ∙ append-nil h.file_names)

pub returns-clause-exact : goal.returns-clause-exact
returns-clause-exact g c = λ e ahead left.
    let h = c.loop-header.header in
    let i = at_empty h _ (sym c.is_empty.ensures.gives ∙ c.loop-header-test.false) in
    let none = left_end h c.loop-header.registers _ _ i in
    let some = (c.loop-header.invariant.passes.at_once e left).0 in
    let both : ◌≡◌ {A = List (Result LineRow Error)} [] (Err e ∷ []) = sym none ∙ some in
    absurd (cc (both))
