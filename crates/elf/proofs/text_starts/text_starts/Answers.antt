use Rattle.elf.proofs.Common.{◌∙◌, sym}
use Rattle.elf.proofs.StartLemmas.{starts_everywhere, starts_marked}
use Rattle.elf.proofs.text_starts.text_starts.Goals as goal

pub returns-then-is_ascii_table-clause-gives : goal.returns-then-is_ascii_table-clause-gives
returns-then-is_ascii_table-clause-gives c =
    starts_everywhere c.args.table.now (sym c.is_ascii_table.ensures.gives ∙ c.if-is_ascii_table.true)

pub returns-clause-gives : goal.returns-clause-gives
returns-clause-gives c = starts_marked c.args.table.now c.in_ok-marks.field-0 c.in_ok-marks.ensures.gives
