use Rattle.addr2line_lines.proofs.Common.{Ok, ◌∙◌, ap, fold, sym, err_from_is_err_and, rows_before, result_map, read_all, sequences_of}
use Rattle.addr2line_lines.specs.Building.{StoredBuilt, need_width, nothing_built, nothing_stored, stored_taken}
use Rattle.addr2line_lines.proofs.BuildLemmas.{taken_all, read_fault, read_whole, stored_sequences, all_built}
use Rattle.addr2line_lines.proofs.PackedLemmas.{all_among}
use Rattle.addr2line_lines.proofs.RiseLemmas.{rising_of}
use Rattle.addr2line_lines.proofs.sequence.read_sequences.Goals as goal

pub returns-in_err-take_rows-clause-gives : goal.returns-in_err-take_rows-clause-gives
returns-in_err-take_rows-clause-gives g c =
    let p = err_from_is_err_and c.from_residual.result c.from_residual.ensures.1 in
    rw (p.1, p.2) (λ n. ap (result_map sequences_of) (read_fault c.args.rows.now.left _ (c.in_err-take_rows.ensures.gives n)))

pub returns-clause-gives : goal.returns-clause-gives
returns-clause-gives g c =
    let left = c.args.rows.now.left in
    sym (taken_all (read_all left) c.never_falls.ensures.law)
    ∙ ap (result_map (λ rows. (all_built nothing_built rows).sequences)) (read_whole left c.in_ok-take_rows.ensures.gives)
    ∙ ap Ok (sym (stored_sequences nothing_stored (rows_before left)))
    ∙ ap (λ (b : StoredBuilt). Ok (fold stored_taken b (rows_before left)).built.sequences) (sym c.new-builder.ensures.gives)
    ∙ ap (λ (b : StoredBuilt). Ok b.built.sequences) (sym c.in_ok-take_rows.ensures.after)
    ∙ ap Ok (sym c.finish.ensures.gives)

pub returns-clause-width : goal.returns-clause-width
returns-clause-width g c =
    let left = c.args.rows.now.left in
    ap (result_map need_width) (read_whole left c.in_ok-take_rows.ensures.gives)
    ∙ ap (λ (b : StoredBuilt). Ok (fold stored_taken b (rows_before left)).width) (sym c.new-builder.ensures.gives)
    ∙ ap (λ (b : StoredBuilt). Ok b.width) (sym c.in_ok-take_rows.ensures.after)
    ∙ ap Ok (sym c.finish.ensures.width)

pub returns-clause-within : goal.returns-clause-within
returns-clause-within g c = all_among _ _ c.finish.ensures.within (rising_of (read_all c.args.rows.now.left) _ c.never_falls.ensures.law (returns-clause-gives g c))
