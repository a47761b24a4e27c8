use Rattle.addr2line_lines.proofs.Common.{◌≡◌, ◌∙◌, sym, ap, subst, List, last, at_or_below, IsAmong, unpacked, Row}
use Rattle.addr2line_lines.specs.Spans.{row_address}
use Rattle.addr2line_lines.proofs.SearchLemmas.{found_among, found_low, no_sequence, past_end, row_is}
use Rattle.addr2line_lines.proofs.search.search.Goals as goal

pub returns-in_err-sequence-clause-found : goal.returns-in_err-sequence-clause-found
returns-in_err-sequence-clause-found g c = c.from_residual.ensures ∙ sym (no_sequence _ _ c.requires.table _ c.in_err-sequence.ensures.found)

pub returns-then-probe-sequence-clause-found : goal.returns-then-probe-sequence-clause-found
returns-then-probe-sequence-clause-found g c = sym (past_end _ _ c.requires.table _ _ c.in_ok-sequence.ensures.found c.if-probe-sequence.true)

pub returns-clause-found : goal.returns-clause-found
returns-clause-found g c =
    let z = c.in_ok-sequence.sequence in let rows = g.T.Table.rows c.args.table.now in
    let kept : g.T.Table.rows c.first_row-from.new.table ≡ rows = c.first_row-from.ensures.rows ∙ c.last_sequence.ensures.rows in
    sym (row_is rows _ c.requires.table c.args.probe z c.last_row.result c.in_ok-sequence.ensures.found c.if-probe-sequence.false
    (c.last_row.ensures.found ∙ ap (λ (rs : List Row). last (at_or_below row_address c.args.probe (unpacked rs z).rows)) kept))

pub first_row-from-requires-clause-among : goal.first_row-from-requires-clause-among
first_row-from-requires-clause-among g c =
    let P : List Row → Type 0 = λ rs. IsAmong rs c.in_ok-sequence.sequence in
    subst P (sym c.last_sequence.ensures.rows) (found_among _ _ c.requires.table c.args.probe _ c.in_ok-sequence.ensures.found)

pub first_row-from-requires-clause-below : goal.first_row-from-requires-clause-below
first_row-from-requires-clause-below g c = found_low _ _ c.requires.table c.args.probe _ c.in_ok-sequence.ensures.found

pub last_row-requires-clause-among : goal.last_row-requires-clause-among
last_row-requires-clause-among g c =
    let P : List Row → Type 0 = λ rs. IsAmong rs c.in_ok-sequence.sequence in
    subst P (sym (c.first_row-from.ensures.rows ∙ c.last_sequence.ensures.rows)) (found_among _ _ c.requires.table c.args.probe _ c.in_ok-sequence.ensures.found)
