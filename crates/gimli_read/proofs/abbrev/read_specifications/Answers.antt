use Rattle.gimli_read.proofs.Common.{inl, inr, is_ok, refl, ap, sym, Ok, ◌∙◌, append-nil, err_from_is_err_and, specification_at}
use Rattle.gimli_read.proofs.RunLemmas.{collected-more, collected-end, collected-fault, with_front}
use Rattle.gimli_read.proofs.Shorter.{shorter_by}
use Rattle.gimli_read.proofs.AbbrevLemmas.{specification_takes, begun_by}
use Rattle.gimli_read.proofs.abbrev.read_specifications.Goals as goal

pub returns-in_err-attribute : goal.returns-in_err-attribute
returns-in_err-attribute g c =
    let p = err_from_is_err_and c.from_residual.result c.from_residual.ensures.1 in
    record { gives = rw (p.1, p.2) (λ ne. sym c.loop-attribute.invariant.gives ∙ ap (with_front c.loop-attribute.attributes.items) (collected-fault specification_at specification_takes _ _ c.in_err-attribute.ensures.gives)) }

pub loop-attribute-smaller : goal.loop-attribute-smaller
loop-attribute-smaller g c = shorter_by specification_at specification_takes _ c.in-Some.attribute _ (rw c.in-Some.is at c.in_ok-attribute.ensures.gives)

pub loop-attribute-preserved : goal.loop-attribute-preserved
loop-attribute-preserved g c = record {
  gives = rw c.in_ok-push.ensures.items (sym (collected-more specification_at specification_takes _ c.in-Some.attribute _ (rw c.in-Some.is at c.in_ok-attribute.ensures.gives) c.loop-attribute.attributes.items) ∙ c.loop-attribute.invariant.gives);
  begun = inr (begun_by specification_at _ _ c.loop-attribute.invariant.begun (ap is_ok c.in_ok-attribute.ensures.gives));
  filled = inr (begun_by specification_at _ _ c.loop-attribute.invariant.begun (ap is_ok c.in_ok-attribute.ensures.gives));
}

pub returns-in_err-push : goal.returns-in_err-push
returns-in_err-push g c =
    let begun = begun_by specification_at _ _ c.loop-attribute.invariant.begun (ap is_ok c.in_ok-attribute.ensures.gives) in
    let p = err_from_is_err_and c.from_residual-in_err-push.result c.from_residual-in_err-push.ensures.1 in
    record { gives = rw (p.1, p.2) (λ n. absurd (n begun refl)) }

pub returns-in_err-stored : goal.returns-in_err-stored
returns-in_err-stored g c =
    let p = err_from_is_err_and c.from_residual-in_err-stored.result c.from_residual-in_err-stored.ensures.1 in
    record {
      gives = rw (p.1, p.2) (λ n. elim c.loop-attribute.invariant.filled [
        | inl none ↦ absurd (let ok = c.in_err-stored.ensures.none (c.deref.ensures.value ∙ none) in cc)
        | inr some ↦ absurd (n some refl)
      ]);
    }

pub returns : goal.returns
returns g c = record {
  gives = rw (c.in_ok-stored.ensures.gives ∙ c.deref.ensures.value) (sym c.loop-attribute.invariant.gives ∙ ap (with_front c.loop-attribute.attributes.items) (collected-end specification_at specification_takes _ _ (rw c.in_default.is at c.in_ok-attribute.ensures.gives))
      ∙ ap (λ v. Ok (v, g.R.Reader.section c.read_specification.new.input)) (append-nil c.loop-attribute.attributes.items));
}
