use Rattle.addr2line_c.proofs.Common.{rules, ◌≡◌, ◌∙◌, ◌++◌, ◌∷◌, [], ap, inl, refl, sym, subst, append-nil, IsFilled, status_number, status_text}
use Rattle.addr2line_c.proofs.addr2line_status_text.Goals as goal

pub returns : goal.returns
returns c =
    let s = c.in-Some.status in
    let told : c.as_bytes.result.now ≡ status_text s = search rules in
    let empty : IsFilled 0 c.args.text.now [] = record { needed = refl; front = λ _. refl } in
    let whole = c.fill.ensures.gives c.as_bytes.result.now (c.fill-used.ensures.gives [] empty) in
    record {
      gives = inl (record {
        status = s;
        number_is = sym c.in-Some.ensures.gives;
        texts = subst (λ t. IsFilled c.fill.result c.fill.new.out t) (ap (λ t. t ++ 0 ∷ []) told ∙ sym (append-nil (status_text s ++ 0 ∷ []))) whole;
        answer_is = c.number-2.ensures.gives ∙ ap status_number c.done_if.ensures.gives;
      });
    }
