use Rattle.gimli_line.proofs.Common.{◌≡◌, ◌∷◌, Ok, drop, ℤ, of_z, to_z, w64, ap, subst, sym, ◌∙◌, arith, rules, Copy, AdvancePc, AdvanceLine, SetFile, SetColumn, ConstAddPc, Other, Registers, TakesOpcode}
use Rattle.std.proofs.lemmas.Int.{to_z-of_z}
use Rattle.gimli_line.specs.declared.frequent.Frequent.TheVariants.{Quiet}
use Rattle.gimli_line.proofs.InPlace.{column_taken, const_add_pc_taken, copy_taken, file_taken, fits, line_taken, other_taken}
use Rattle.gimli_line.proofs.FirstOpcode.{special_taken, standard_taken, at, copy_is, advance_pc_is, advance_line_is, set_file_is, set_column_is, negate_stmt_is, set_basic_block_is, const_add_pc_is, set_prologue_end_is, set_epilogue_begin_is}
use Rattle.gimli_line.proofs.frequent.take_first.Goals as goal

pub returns-then-code-base-clause-gives : goal.returns-then-code-base-clause-gives
returns-then-code-base-clause-gives g c =
    special_taken c.args.header.now c.args.registers.now _ _ _ c.args.code _ _ c.requires.same (omega arith) c.take_special.ensures.gives

pub returns-in-1-clause-gives : goal.returns-in-1-clause-gives
returns-in-1-clause-gives g c =
    let h = c.args.header.now in
    standard_taken h c.args.registers.now _ Copy 1 _ _ c.args.code c.args.first c.args.second 1 c.requires.same c.in-1.is (omega arith) (omega arith)
    (λ rest endian. copy_is h (at endian (c.args.first ∷ c.args.second ∷ rest))) (subst (λ f. TakesOpcode c.args.parameters.now.encoding c.args.registers.now Copy 1 f c.args.registers.now) (sym c.shown.ensures.gives) (copy_taken c.args.parameters.now.encoding c.args.registers.now (fits c.args.parameters.now.encoding h c.args.registers.now c.requires.same c.requires.running)))

pub returns-in-6-clause-gives : goal.returns-in-6-clause-gives
returns-in-6-clause-gives g c =
    let h = c.args.header.now in
    standard_taken h c.args.registers.now _ Other 1 (Quiet 1) c.args.registers.now c.args.code c.args.first c.args.second 6 c.requires.same c.in-6.is (omega arith) (omega arith)
    (λ rest endian. negate_stmt_is h (at endian (c.args.first ∷ c.args.second ∷ rest))) (other_taken c.args.parameters.now.encoding c.args.registers.now (fits c.args.parameters.now.encoding h c.args.registers.now c.requires.same c.requires.running))

pub returns-in-7-clause-gives : goal.returns-in-7-clause-gives
returns-in-7-clause-gives g c =
    let h = c.args.header.now in
    standard_taken h c.args.registers.now _ Other 1 (Quiet 1) c.args.registers.now c.args.code c.args.first c.args.second 7 c.requires.same c.in-7.is (omega arith) (omega arith)
    (λ rest endian. set_basic_block_is h (at endian (c.args.first ∷ c.args.second ∷ rest))) (other_taken c.args.parameters.now.encoding c.args.registers.now (fits c.args.parameters.now.encoding h c.args.registers.now c.requires.same c.requires.running))

pub returns-in-8-clause-gives : goal.returns-in-8-clause-gives
returns-in-8-clause-gives g c =
    let h = c.args.header.now in
    standard_taken h c.args.registers.now _ ConstAddPc 1 _ _ c.args.code c.args.first c.args.second 8 c.requires.same c.in-8.is (omega arith) (omega arith)
    (λ rest endian. const_add_pc_is h (at endian (c.args.first ∷ c.args.second ∷ rest))) (const_add_pc_taken c.args.parameters.now.encoding c.args.registers.now c.const_advance.result _ _ c.const_advance.ensures.gives c.take_advance-in-8.ensures.gives)

pub returns-in-10-clause-gives : goal.returns-in-10-clause-gives
returns-in-10-clause-gives g c =
    let h = c.args.header.now in
    standard_taken h c.args.registers.now _ Other 1 (Quiet 1) c.args.registers.now c.args.code c.args.first c.args.second 10 c.requires.same c.in-10.is (omega arith) (omega arith)
    (λ rest endian. set_prologue_end_is h (at endian (c.args.first ∷ c.args.second ∷ rest))) (other_taken c.args.parameters.now.encoding c.args.registers.now (fits c.args.parameters.now.encoding h c.args.registers.now c.requires.same c.requires.running))

pub returns-in-11-clause-gives : goal.returns-in-11-clause-gives
returns-in-11-clause-gives g c =
    let h = c.args.header.now in
    standard_taken h c.args.registers.now _ Other 1 (Quiet 1) c.args.registers.now c.args.code c.args.first c.args.second 11 c.requires.same c.in-11.is (omega arith) (omega arith)
    (λ rest endian. set_epilogue_begin_is h (at endian (c.args.first ∷ c.args.second ∷ rest))) (other_taken c.args.parameters.now.encoding c.args.registers.now (fits c.args.parameters.now.encoding h c.args.registers.now c.requires.same c.requires.running))

pub returns-in-Some-clause-gives : goal.returns-in-Some-clause-gives
returns-in-Some-clause-gives g c =
    let h = c.args.header.now in let r : Registers = c.args.registers.now in let x = c.in-Some in
    standard_taken h c.args.registers.now _ (AdvancePc x.n) x.len _ _ c.args.code c.args.first c.args.second 2 c.requires.same c.in-2.is (omega arith) (omega arith)
    (λ rest endian. advance_pc_is h endian (c.args.first ∷ c.args.second ∷ rest) (drop x.len (c.args.code ∷ c.args.first ∷ c.args.second ∷ rest)) x.n (x.ensures.gives c.args.code rest)) c.take_advance.ensures.gives

pub returns-in-Some-short_signed-clause-gives : goal.returns-in-Some-short_signed-clause-gives
returns-in-Some-short_signed-clause-gives g c =
    let h = c.args.header.now in let r : Registers = c.args.registers.now in let x = c.in-Some-short_signed in
    let z : ℤ = to_z w64 (of_z w64 x.by) in
    let kept : z ≡ x.by = to_z-of_z w64 x.by (search rules) in
    standard_taken h c.args.registers.now _ (AdvanceLine z) x.len (Quiet x.len) (record r { line = c.move_line-registers.result }) c.args.code c.args.first c.args.second 3 c.requires.same c.in-3.is (omega arith) (omega arith)
    (λ rest endian. let left = drop x.len (c.args.code ∷ c.args.first ∷ c.args.second ∷ rest) in
    advance_line_is h endian (c.args.first ∷ c.args.second ∷ rest) left z (x.ensures.gives c.args.code rest ∙ ap (λ n. Ok (n, left)) (sym kept))) (line_taken c.args.parameters.now.encoding c.args.registers.now z c.move_line-registers.result x.len c.move_line-registers.ensures.gives (fits c.args.parameters.now.encoding h c.args.registers.now c.requires.same c.requires.running))

pub returns-in-Some-short_unsigned-clause-gives : goal.returns-in-Some-short_unsigned-clause-gives
returns-in-Some-short_unsigned-clause-gives g c =
    let h = c.args.header.now in let r : Registers = c.args.registers.now in let x = c.in-Some-short_unsigned in
    standard_taken h c.args.registers.now _ (SetFile x.n) x.len (Quiet x.len) (record r { file_index = x.n }) c.args.code c.args.first c.args.second 4 c.requires.same c.in-4.is (omega arith) (omega arith)
    (λ rest endian. set_file_is h endian (c.args.first ∷ c.args.second ∷ rest) (drop x.len (c.args.code ∷ c.args.first ∷ c.args.second ∷ rest)) x.n (x.ensures.gives c.args.code rest)) (file_taken c.args.parameters.now.encoding c.args.registers.now x.n x.len (fits c.args.parameters.now.encoding h c.args.registers.now c.requires.same c.requires.running))

pub returns-in-Some-short_unsigned-2-clause-gives : goal.returns-in-Some-short_unsigned-2-clause-gives
returns-in-Some-short_unsigned-2-clause-gives g c =
    let h = c.args.header.now in let r : Registers = c.args.registers.now in let x = c.in-Some-short_unsigned-2 in
    standard_taken h c.args.registers.now _ (SetColumn x.n) x.len (Quiet x.len) (record r { column = x.n }) c.args.code c.args.first c.args.second 5 c.requires.same c.in-5.is (omega arith) (omega arith)
    (λ rest endian. set_column_is h endian (c.args.first ∷ c.args.second ∷ rest) (drop x.len (c.args.code ∷ c.args.first ∷ c.args.second ∷ rest)) x.n (x.ensures.gives c.args.code rest)) (column_taken c.args.parameters.now.encoding c.args.registers.now x.n x.len (fits c.args.parameters.now.encoding h c.args.registers.now c.requires.same c.requires.running))
