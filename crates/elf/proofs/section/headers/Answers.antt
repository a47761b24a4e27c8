use Rattle.elf.proofs.Common.{rules, ◌≡◌, ◌∙◌, ◌+◌, ◌-◌, suc, ap, drop, arith, sym, drop-drop, image_bytes, layout_of}
use Rattle.elf.proofs.TableLemmas.{room_after, sections_next, sections_end}
use Rattle.elf.proofs.section.headers.Goals as goal

pub loop-preserved : goal.loop-preserved
loop-preserved c =
    let inv = c.loop.invariant in
    let bytes = image_bytes c.args.file.now in
    let n : c.args.count - c.loop.counter ≡ suc (c.args.count - (c.loop.counter + 1)) = omega arith in
    let next = c.place-at.ensures.gives in
    let cut : drop c.place-at.result bytes ≡ drop (layout_of c.args.ident.class).section_size (drop c.loop.at bytes) =
    ap (λ k. drop k bytes) next ∙ ap (λ k. drop (c.loop.at + k) bytes) inv.size_is ∙ sym (drop-drop (layout_of c.args.ident.class).section_size c.loop.at bytes) in
    record {
      size_is = inv.size_is;
      room = room_after _ _ _ c.loop.at c.place-at.result _ n inv.room next;
      read = sections_next _ (layout_of c.args.ident.class) _ _ _ _ _ _ _ c.header_at.result n inv.read cut c.in_ok-push.ensures.items c.header_at.ensures.gives;
    }

pub returns : goal.returns
returns c =
    let n : c.args.count - c.loop.counter ≡ 0 = omega arith in
    record { gives = sections_end _ (layout_of c.args.ident.class) _ _ _ _ n c.loop.invariant.read; none = λ e. search rules }
