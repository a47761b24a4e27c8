use Rattle.gimli_line.proofs.Common.{refl, sym, ◌∙◌}
use Rattle.gimli_line.proofs.InPlace.{advance_counted, advance_dropped, not_refused}
use Rattle.gimli_line.proofs.frequent.take_advance.Goals as goal

pub returns-then-registers-clause-gives : goal.returns-then-registers-clause-gives
returns-then-registers-clause-gives c =
    (refl, advance_dropped c.args.parameters.now.encoding c.args.registers.now c.args.operations c.requires.running.fits c.if-registers.true)

pub returns-clause-gives : goal.returns-clause-gives
returns-clause-gives c =
    let given = not_refused c.add_instructions.result c.add_instructions.new.self _ (sym c.is_err.ensures.value ∙ c.if-is_err.false) c.add_instructions.ensures.gives in
    (refl, advance_counted c.args.parameters.now.encoding c.args.registers.now c.add_instructions.new.self c.args.operations c.requires.single c.requires.running c.if-registers.false given)
