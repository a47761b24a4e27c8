use Rattle.elf.proofs.Common.{◌≡◌, ◌∙◌, ◌≤◌, ℕ, List, Option, Some, None, arith, length, subst, sym, IfSome, nat_tests, AreRangesOf, Image, Shows, image_in, headers_in}
use Rattle.elf.proofs.PartLemmas.{headers_read}
use Rattle.elf.proofs.wanted.read_section_headers.Goals as goal

pub returns : goal.returns
returns g c = record { gives = by_bytes (g.S.PartSource.bytes c.args.source.now) c.len-len.ensures.gives c.in_ok-file.ensures.gives c.in_ok-file.ensures.found }
  where
    by_bytes : (o : Option (List ℕ)) → IfSome o (λ held. c.len-len.result ≡ length held) → IfSome o (λ bytes. IfSome c.in_ok-file.field-0 (λ f. Shows f bytes))
        → IfSome o (λ bytes. AreRangesOf bytes c.as_slice.result.now → c.in_ok-file.field-0 ≡ Some (image_in bytes c.as_slice.result.now)) → IfSome o (λ bytes. Some c.in_ok-sections.sections.items ≡ headers_in c.args.ident c.args.header bytes)
    by_bytes None len shows found = tt
    by_bytes (Some bytes) len shows found =
        let r = c.in-Some.range in
        let is : c.in_ok-file.field-0 ≡ Some c.in-Some-2.file = c.in-Some-2.is in
        let test = c.if-range-len.false in
        let within : r.end ≤ length bytes = grind (arith, nat_tests) in
        let own : Shows c.in-Some-2.file bytes = subst (λ (x : Option Image). IfSome x (λ f. Shows f bytes)) is shows in
        headers_read c.args.ident c.args.header r c.as_slice.result.now bytes c.in-Some.ensures.gives.0 c.in-Some.ensures.gives.1 within c.as_slice.ensures c.in-Some-2.file c.in_ok-sections.sections.items own (λ are. sym is ∙ found are) c.in_ok-sections.ensures.gives
