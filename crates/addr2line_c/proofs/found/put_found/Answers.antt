use Rattle.addr2line_c.proofs.Common.{rules, ◌≡◌, ◌<◌, ◌^◌, [], Ok, Some, ap, refl, sym, subst, nat_le, length, option_map, arith, ExactlyUnlessOom, of_file, IsFilled, NamesText, optional_text, zero_ended, IsWrittenLocation, location_file}
use Rattle.addr2line_lines.specs.LentLocation.{as_location}
use Rattle.addr2line_c.specs.declared.location.WrittenLocation.{WrittenLocation}
use Rattle.addr2line_c.proofs.AnswerLemmas.{says_there}
use Rattle.addr2line_c.proofs.TextLemmas.{text_alone}
use Rattle.addr2line_c.proofs.found.put_found.Goals as goal

pub returns-in-Ok-Some-clause-gives : goal.returns-in-Ok-Some-clause-gives
returns-in-Ok-Some-clause-gives c = λ given told.
    let l = as_location c.in-Ok-Some.location in
    let new = c.put_location.new in
    let small : length new.buffer < 2 ^ 64 = omega (arith, c.put_location.ensures.kept) in
    let empty : IsFilled 0 c.args.buffer.now (zero_ended []) = record { needed = refl; front = λ _. refl } in
    let found : c.args.found ≡ Ok (Some c.in-Ok-Some.location) = search rules in
    let is : given ≡ Ok (Some l) = subst (λ r. ExactlyUnlessOom (option_map as_location) r given) found told in
    let parts = c.put_location.ensures.made [] empty in
    let texts : IsFilled new.used new.buffer (zero_ended (optional_text (location_file (Some l)))) = c.put_location.ensures.gives [] empty in
    says_there (of_file given) (IsWrittenLocation c.put_location.result new.buffer new.used) (nat_le new.used (length new.buffer)) c.done_if.result c.done_if.ensures.gives (
      l,
      ap of_file is,
      record {
        parts = parts;
        texts = texts;
        named = λ fits. subst (λ (w : WrittenLocation). NamesText new.buffer w.file (location_file (Some l))) (sym parts) (text_alone new.buffer new.used (location_file (Some l)) small texts fits);
      },
    )
