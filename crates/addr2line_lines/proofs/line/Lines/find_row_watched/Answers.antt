use Rattle.addr2line_lines.proofs.Common.{◌∙◌, ap}
use Rattle.addr2line_lines.specs.Location.{LineTable}
use Rattle.addr2line_lines.specs.Spans.{row_at}
use Rattle.addr2line_lines.proofs.TableLemmas.{row_at_listed}
use Rattle.addr2line_lines.proofs.line.Lines.find_row_watched.Goals as goal

pub returns : goal.returns
returns c =
    record { found = c.search-row.ensures.found ∙ row_at_listed _ _ _ c.known.ensures.gives c.args.probe ∙ ap (λ (t : LineTable). row_at c.args.probe t.sequences) c.self.view_is }
