use Rattle.gimli_line.proofs.Common.{◌+◌, drop, ap, sym, ◌∙◌, arith, err_from_is_err_and, values_at}
use Rattle.gimli_line.proofs.TableLemmas.{values_more, values_fault, values_end}
use Rattle.gimli_line.proofs.entry_tables.read_values.Goals as goal

pub returns-in_err-value : goal.returns-in_err-value
returns-in_err-value g c = let p = err_from_is_err_and c.from_residual.result c.from_residual.ensures.1 in rw (p.1, p.2) (record {
  gives = λ n. sym c.loop-format.invariant ∙ values_fault c.args.encoding c.args.formats.now c.loop-format.format-index _ c.loop-format.entry _ _ (omega arith) (c.in_err-value.ensures.gives (λ m _. n m));
})

pub loop-format-preserved : goal.loop-format-preserved
loop-format-preserved g c =
    ap (λ x. values_at c.args.encoding (drop (c.loop-format.format-index + 1) c.args.formats.now) x (g.R.Reader.section c.read_value.new.input)) c.take_value.ensures.gives
    ∙ sym (values_more c.args.encoding c.args.formats.now c.loop-format.format-index _ c.loop-format.entry _ _ _ (omega arith) c.in_ok-value.ensures.gives)
    ∙ c.loop-format.invariant

pub returns : goal.returns
returns g c = record { gives = sym c.loop-format.invariant ∙ values_end c.args.encoding c.args.formats.now c.loop-format.format-index _ _ (omega arith) }
