use Rattle.gimli_line.proofs.Common.{◌≡◌, ap, of_z, refl, rules, sym, to_z, w64, ◌∙◌, moved}
use Rattle.std.proofs.lemmas.Int.{to_z-of_z}
use Rattle.gimli_line.proofs.InPlace.{not_refused, special_counted, special_dropped}
use Rattle.gimli_line.proofs.frequent.take_special.Goals as goal

pub returns-then-registers-clause-gives : goal.returns-then-registers-clause-gives
returns-then-registers-clause-gives c =
    let e = c.args.parameters.now.encoding in
    let kept : to_z w64 (of_z w64 c.special_advance.result) ≡ c.special_advance.result = to_z-of_z w64 c.special_advance.result (search rules) in
    let line = c.move_line-line.ensures.gives ∙ ap (moved c.args.registers.now.line) (kept ∙ c.special_advance.ensures.gives) in
    (refl, special_dropped e c.args.registers.now c.args.n c.move_line-line.result line c.requires.running.fits c.if-registers.true)

pub returns-clause-gives : goal.returns-clause-gives
returns-clause-gives c =
    let e = c.args.parameters.now.encoding in
    let kept : to_z w64 (of_z w64 c.special_advance.result) ≡ c.special_advance.result = to_z-of_z w64 c.special_advance.result (search rules) in
    let line = c.move_line-line.ensures.gives ∙ ap (moved c.args.registers.now.line) (kept ∙ c.special_advance.ensures.gives) in
    let given = not_refused c.add_instructions.result c.add_instructions.new.self _ (sym c.is_err.ensures.value ∙ c.if-is_err.false) c.add_instructions.ensures.gives in (
      refl,
      special_counted e c.args.registers.now c.add_instructions.new.self c.args.n c.from-instructions.result c.move_line-line.result line
          (c.from-instructions.ensures ∙ c.quotient.ensures.gives) c.requires.single c.requires.running c.if-registers.false given,
    )
