use Rattle.gimli_line.proofs.Common.{is_ok, inr, refl, ap, sym, ◌∙◌, arith, or_left, or_right, err_from_is_err_and, begun_by, formatted_entry_at}
use Rattle.gimli_line.proofs.Numbers.{times_more, times_fault, times_none}
use Rattle.gimli_line.proofs.TableLemmas.{first_given}
use Rattle.gimli_line.proofs.entry_tables.read_entries.Goals as goal

pub returns-in_err-read_entry : goal.returns-in_err-read_entry
returns-in_err-read_entry g c = let p = err_from_is_err_and c.from_residual.result c.from_residual.ensures.1 in rw (p.1, p.2) (record {
  gives = λ n. sym c.loop.invariant.gives ∙ times_fault (formatted_entry_at c.args.encoding c.args.formats.now) _ _ _ (omega arith) (c.in_err-read_entry.ensures.gives (λ h. n (or_left _ _ h))) c.loop.files.items;
})

pub loop-preserved : goal.loop-preserved
loop-preserved g c = record {
  gives = rw c.in_ok-push.ensures.items (sym (times_more (formatted_entry_at c.args.encoding c.args.formats.now) _ _ _ _ _ (omega arith) c.in_ok-read_entry.ensures.gives c.loop.files.items) ∙ c.loop.invariant.gives);
  begun = inr (begun_by (formatted_entry_at c.args.encoding c.args.formats.now) _ _ c.loop.invariant.begun (ap is_ok c.in_ok-read_entry.ensures.gives));
}

pub returns-in_err-push : goal.returns-in_err-push
returns-in_err-push g c =
    let part = formatted_entry_at c.args.encoding c.args.formats.now in
    let begun = begun_by part _ _ c.loop.invariant.begun (ap is_ok c.in_ok-read_entry.ensures.gives) in
    let p = err_from_is_err_and c.from_residual-in_err-push.result c.from_residual-in_err-push.ensures.1 in
    record { gives = rw (p.1, p.2) (λ n. absurd (n (or_right g.R.Reader.shares _ (first_given part c.loop.counter c.args.count (g.R.Reader.section c.args.input.now) (omega arith) begun)) refl)) }

pub returns : goal.returns
returns g c = record { gives = sym c.loop.invariant.gives ∙ times_none (formatted_entry_at c.args.encoding c.args.formats.now) _ _ (omega arith) c.loop.files.items }
