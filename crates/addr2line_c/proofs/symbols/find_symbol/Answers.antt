use Rattle.addr2line_c.proofs.Common.{rules, ◌≡◌, ◌<◌, ◌^◌, ◌∷◌, ◌∙◌, [], Ok, Some, ap, refl, sym, subst, nat_le, length, arith, IsFilled, NamesText, zero_ended, text_after}
use Rattle.elf.specs.Symbols.{named_address, symbol_at}
use Rattle.addr2line_c.specs.WrittenSymbols.{IsWrittenSymbol}
use Rattle.addr2line_c.proofs.AnswerLemmas.{says_there}
use Rattle.addr2line_c.proofs.TextLemmas.{text_alone}
use Rattle.addr2line_c.proofs.symbols.find_symbol.Goals as goal

pub returns-clause-gives : goal.returns-clause-gives
returns-clause-gives c =
    let s = named_address c.in-Some.symbol in
    let used = c.put_text.new.used in
    let buffer = c.put_text.new.buffer in
    let small : length buffer < 2 ^ 64 = omega (arith, c.put_text.ensures.kept) in
    let empty : IsFilled 0 c.args.buffer.now (zero_ended []) = record { needed = refl; front = λ _. refl } in
    let told : c.as_bytes.result.now ≡ s.name = search rules in
    let texts : IsFilled used buffer (zero_ended (s.name ∷ [])) = subst (λ t. IsFilled used buffer (zero_ended (t ∷ []))) told (c.put_text.ensures.gives [] empty) in
    let name : c.put_text.result ≡ text_after [] (Some s.name) = c.put_text.ensures.made [] empty ∙ ap (λ t. text_after [] (Some t)) told in
    says_there (Ok (symbol_at c.args.probe c.args.object.now)) (IsWrittenSymbol (record { address = c.address.result; name = c.put_text.result }) buffer used) (nat_le used (length buffer)) c.done_if.result c.done_if.ensures.gives (
      s,
      ap Ok (sym c.in-Some.ensures.gives),
      record {
        parts = search rules;
        texts = texts;
        named = λ fits. subst (λ p. NamesText buffer p (Some s.name)) (sym name) (text_alone buffer used (Some s.name) small texts fits);
      },
    )
