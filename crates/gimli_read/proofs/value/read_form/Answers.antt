use Rattle.gimli_read.proofs.Common.{sym, ◌∙◌, eq-eqb, rules, err_from_is_err_and}
use Rattle.gimli_read.proofs.FormLemmas.{form_fault, form_more, form_last, form_less}
use Rattle.gimli_read.proofs.value.read_form.Goals as goal

pub returns-in_err-form : goal.returns-in_err-form
returns-in_err-form g c =
    let p = err_from_is_err_and c.from_residual.result c.from_residual.ensures.1 in
    record { gives = rw (p.1, p.2) (form_fault _ _ c.in_err-form.ensures.gives) }

pub returns-in_err-form-2 : goal.returns-in_err-form-2
returns-in_err-form-2 g c =
    let p = err_from_is_err_and c.from_residual-in_err-form-2.result c.from_residual-in_err-form-2.ensures.1 in
    let i = c.loop-form.invariant in
    record { gives = rw (p.1, p.2) (sym i.2 ∙ form_more _ _ _ i.1 (eq-eqb _ _ c.loop-form-test.true) ∙ form_fault _ _ c.in_err-form-2.ensures.gives) }

pub loop-form-smaller : goal.loop-form-smaller
loop-form-smaller g c = form_less _ _ _ c.in_ok-form-2.ensures.gives

pub loop-form-preserved : goal.loop-form-preserved
loop-form-preserved g c =
    let i = c.loop-form.invariant in
    (g.R.Reader.section c.loop-form.input, c.in_ok-form-2.ensures.gives, sym (form_more _ _ _ i.1 (eq-eqb _ _ c.loop-form-test.true)) ∙ i.2)

pub returns : goal.returns
returns g c = let i = c.loop-form.invariant in let n = c.loop-form-test.false in record { gives = sym i.2 ∙ form_last _ _ _ i.1 (search rules) }
