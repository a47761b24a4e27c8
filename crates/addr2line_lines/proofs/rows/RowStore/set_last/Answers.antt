use Rattle.addr2line_lines.proofs.Common.{◌≡◌, true, List, [], ◌∷◌, ◌++◌, map, take, ap, sym, ◌∙◌, map_push, take-map, Row}
use Rattle.addr2line_lines.specs.declared.rows.ShortRow.{ShortRow}
use Rattle.addr2line_lines.specs.StoredRows.{fits, row_of_short, stores, whole_rows, width_of}
use Rattle.addr2line_lines.proofs.StoredRowLemmas.{short_is}
use Rattle.addr2line_lines.proofs.rows.RowStore.set_last.Goals as goal

pub returns-in-Short-clause-gives : goal.returns-in-Short-clause-gives
returns-in-Short-clause-gives c =
    let upper = c.in-Short.field-0 in
    let kept : List ShortRow = take c.args.last c.in-Short.rows.items in
    let there : fits upper c.args.row ≡ true = ap (λ s. stores (width_of s) c.args.row) (sym c.in-Short.is) ∙ c.requires.stores in
    ap (map (row_of_short upper)) c.set_last.ensures.gives
    ∙ map_push (row_of_short upper) kept c.shortened.result
    ∙ ap (λ (r : Row). map (row_of_short upper) kept ++ r ∷ []) (ap (row_of_short upper) c.shortened.ensures.gives ∙ short_is upper c.args.row there)
    ∙ ap (λ (rows : List Row). rows ++ c.args.row ∷ []) (sym (take-map (row_of_short upper) c.args.last c.in-Short.rows.items) ∙ ap (λ s. take c.args.last (whole_rows s)) (sym c.in-Short.is))
