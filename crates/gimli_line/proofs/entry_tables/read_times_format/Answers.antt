use Rattle.gimli_line.proofs.Common.{is_ok, inr, refl, ap, sym, ◌∙◌, arith, err_from_is_err_and, begun_by, format_at}
use Rattle.gimli_line.proofs.Numbers.{times_more, times_fault, times_none}
use Rattle.gimli_line.proofs.TableLemmas.{first_given}
use Rattle.gimli_line.proofs.entry_tables.read_times_format.Goals as goal

pub returns-in_err-read_format : goal.returns-in_err-read_format
returns-in_err-read_format g c = let p = err_from_is_err_and c.from_residual.result c.from_residual.ensures.1 in rw (p.1, p.2) (record {
  gives = λ _. sym c.loop.invariant.gives ∙ times_fault format_at _ _ _ (omega arith) c.in_err-read_format.ensures.gives c.loop.formats.items;
})

pub loop-preserved : goal.loop-preserved
loop-preserved g c = record {
  gives = rw c.in_ok-push.ensures.items (sym (times_more format_at _ _ _ _ _ (omega arith) c.in_ok-read_format.ensures.gives c.loop.formats.items) ∙ c.loop.invariant.gives);
  begun = inr (begun_by format_at _ _ c.loop.invariant.begun (ap is_ok c.in_ok-read_format.ensures.gives));
}

pub returns-in_err-push : goal.returns-in_err-push
returns-in_err-push g c =
    let begun = begun_by format_at _ _ c.loop.invariant.begun (ap is_ok c.in_ok-read_format.ensures.gives) in
    let p = err_from_is_err_and c.from_residual-in_err-push.result c.from_residual-in_err-push.ensures.1 in
    record { gives = rw (p.1, p.2) (λ n. absurd (n (first_given format_at c.loop.counter _ _ (omega arith) begun) refl)) }

pub returns : goal.returns
returns g c = record { gives = sym c.loop.invariant.gives ∙ times_none format_at _ _ (omega arith) c.loop.formats.items }
