use Rattle.addr2line_lines.proofs.Common.{◌∙◌, ap, arith}
use Rattle.addr2line_lines.specs.Counts.{most_steps_in}
use Rattle.addr2line_lines.specs.Location.{LineTable}
use Rattle.addr2line_lines.specs.Spans.{row_at}
use Rattle.addr2line_lines.proofs.TableLemmas.{steps_are, row_at_listed}
use Rattle.addr2line_lines.proofs.line.Lines.find_row.Goals as goal

pub returns-clause-found : goal.returns-clause-found
returns-clause-found c =
    c.search-row.ensures.found ∙ row_at_listed _ _ _ c.known.ensures.gives c.args.probe ∙ ap (λ (t : LineTable). row_at c.args.probe t.sequences) c.self.view_is

pub returns-clause-bound : goal.returns-clause-bound
returns-clause-bound c =
    let e = steps_are _ _ _ c.known.ensures.gives c.known.ensures.whole c.known.ensures.within ∙ ap (λ (t : LineTable). most_steps_in t) c.self.view_is in
    let cost = c.search-row.ensures.bound in
    omega arith
