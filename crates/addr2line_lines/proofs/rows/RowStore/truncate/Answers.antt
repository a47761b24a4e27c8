use Rattle.addr2line_lines.proofs.Common.{map, take, ap, sym, ◌∙◌, take-map}
use Rattle.addr2line_lines.specs.StoredRows.{row_of_short, whole_rows}
use Rattle.addr2line_lines.proofs.rows.RowStore.truncate.Goals as goal

pub returns-in-Short-clause-gives : goal.returns-in-Short-clause-gives
returns-in-Short-clause-gives c =
    ap (map (row_of_short c.in-Short.field-0)) c.truncate.ensures.items
    ∙ sym (take-map (row_of_short c.in-Short.field-0) c.args.len c.in-Short.rows.items)
    ∙ ap (λ s. take c.args.len (whole_rows s)) (sym c.in-Short.is)
