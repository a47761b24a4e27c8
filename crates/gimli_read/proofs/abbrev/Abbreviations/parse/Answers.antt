use Rattle.gimli_read.proofs.Common.{inr, refl, sym, ◌∙◌, err_from_is_err_and, front_at}
use Rattle.gimli_read.proofs.AbbrevLemmas.{step_refused, begun_by, abbreviation_front, table_fault, table_ends, table_more, abbreviation_less, abbreviation_new}
use Rattle.gimli_read.proofs.abbrev.Abbreviations.parse.Goals as goal

pub returns-in_err-abbreviation : goal.returns-in_err-abbreviation
returns-in_err-abbreviation g c =
    let p = err_from_is_err_and c.from_residual.result c.from_residual.ensures.1 in
    record { gives = rw (p.1, p.2) (λ ne. sym c.loop-buffers.invariant.gives ∙ table_fault _ _ _ (c.in_err-abbreviation.ensures.gives (step_refused front_at _ _ _ c.loop-buffers.invariant.begun ne))) }

pub push-requires : goal.push-requires
push-requires g c = record { new = abbreviation_new _ _ _ _ (rw c.in-Some.is at c.in_ok-abbreviation.ensures.gives) }

pub loop-buffers-smaller : goal.loop-buffers-smaller
loop-buffers-smaller g c = abbreviation_less _ _ _ c.in-Some.abbreviation (rw c.in-Some.is at c.in_ok-abbreviation.ensures.gives)

pub loop-buffers-preserved : goal.loop-buffers-preserved
loop-buffers-preserved g c =
    let given = rw c.in-Some.is at c.in_ok-abbreviation.ensures.gives in
    record {
      gives = rw c.in_ok-push.ensures.gives (sym (table_more _ _ _ c.in-Some.abbreviation given) ∙ c.loop-buffers.invariant.gives);
      begun = inr (begun_by front_at _ _ c.loop-buffers.invariant.begun (abbreviation_front _ _ _ _ given));
    }

pub returns-in_err-push : goal.returns-in_err-push
returns-in_err-push g c =
    let given = rw c.in-Some.is at c.in_ok-abbreviation.ensures.gives in
    let begun = begun_by front_at _ _ c.loop-buffers.invariant.begun (abbreviation_front _ _ _ _ given) in
    let p = err_from_is_err_and c.from_residual-in_err-push.result c.from_residual-in_err-push.ensures.1 in
    record { gives = rw (p.1, p.2) (λ n. absurd (n begun refl)) }

pub returns : goal.returns
returns g c = record { gives = sym c.loop-buffers.invariant.gives ∙ table_ends _ _ _ (rw c.in_default.is at c.in_ok-abbreviation.ensures.gives) }
