use Rattle.elf.proofs.Common.{◌∙◌}
use Rattle.elf.proofs.StartLemmas.{name_begins}
use Rattle.elf.proofs.symbol.SymbolEntry.has_name.Goals as goal

pub returns-then-names-at-ne0 : goal.returns-then-names-at-ne0
returns-then-names-at-ne0 c =
    let names = c.args.names.now in
    let at = c.args.self.now.name in
    record { gives = c.begins_at.ensures.gives ∙ c.requires.starts at c.if-at-names.true ∙ name_begins names at c.if-at-names.true c.if-names-at-ne0.true }
