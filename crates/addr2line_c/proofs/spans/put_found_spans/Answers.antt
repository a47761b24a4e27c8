use Rattle.addr2line_c.proofs.Common.{rules, ◌≡◌, ◌<◌, ◌^◌, Ok, Some, ap, subst, nat_le, length, take, drop, arith, ◌>>=◌, locations_left, of_file, IsFilled, zero_ended, IsWrittenSpans, spans_from, texts_of_spans, written_spans}
use Rattle.std.specs.Prelude.{IfOk}
use Rattle.addr2line_units.specs.Locations.{spans_of}
use Rattle.addr2line_c.proofs.AnswerLemmas.{says_there}
use Rattle.addr2line_c.proofs.TextLemmas.{spans_named}
use Rattle.addr2line_c.proofs.spans.put_found_spans.Goals as goal

pub returns-in-Ok-clause-gives : goal.returns-in-Ok-clause-gives
returns-in-Ok-clause-gives g c = λ d low high told refused.
    let most = length c.args.out.now in
    let all = locations_left c.in-Ok.spans in
    let chosen = take most (drop c.args.first all) in
    let new = c.put_spans.new in
    let count = c.put_spans.result in
    let small : length new.buffer < 2 ^ 64 = omega (arith, c.put_spans.ensures.kept.1) in
    let found : c.args.found ≡ Ok c.in-Ok.spans = search rules in
    let is : spans_of d low high ≡ Ok all = subst (λ r. IfOk r (λ spans. spans_of d low high ≡ Ok (locations_left spans))) found told in
    let given : of_file (spans_from d low high c.args.first most) ≡ Ok (Some chosen) = ap of_file (ap (λ r. r >>= λ spans. Ok (Some (take most (drop c.args.first spans)))) is) in
    let parts : IsFilled count new.out (written_spans chosen) = subst (λ l. IsFilled count new.out (written_spans (take most l))) c.skip_spans.ensures.gives c.put_spans.ensures.gives in
    let texts : IsFilled new.needed new.buffer (zero_ended (texts_of_spans chosen)) = subst (λ l. IsFilled new.needed new.buffer (zero_ended (texts_of_spans (take most l)))) c.skip_spans.ensures.gives c.put_spans.ensures.left in
    says_there (of_file (spans_from d low high c.args.first most)) (IsWrittenSpans new.out count new.buffer new.needed) (nat_le new.needed (length new.buffer)) c.done_if.result c.done_if.ensures.gives (
      chosen,
      given,
      record {
        parts = parts;
        texts = texts;
        named = λ room fits. spans_named new.out count new.buffer new.needed chosen small parts texts room fits;
      },
    )
