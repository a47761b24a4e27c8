use Rattle.addr2line_lines.proofs.Common.{ap, ◌∙◌}
use Rattle.addr2line_lines.specs.Building.{StoredBuilt}
use Rattle.addr2line_lines.specs.StoredRows.{StoredRows}
use Rattle.addr2line_lines.proofs.BuildLemmas.{finished_is}
use Rattle.addr2line_lines.proofs.sequence.Builder.finish.Goals as goal

pub returns-clause-gives : goal.returns-clause-gives
returns-clause-gives c =
    finished_is _ _ _ c.self.invariant _ _ (ap (λ (v : StoredRows). v.rows) c.shrink.ensures.kept ∙ c.truncate.ensures.gives) c.shrink_to_fit.ensures.items ∙ ap (λ (b : StoredBuilt). b.built.sequences) c.self.view_is
