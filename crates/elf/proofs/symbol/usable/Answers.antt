use Rattle.elf.proofs.Common.{◌≡◌, ◌∙◌, ◌+◌, ◌-◌, ◌/◌, ℕ, suc, ap, drop, filter, length, arith, rules, layout_of, is_usable, entries_in}
use Rattle.elf.proofs.TableLemmas.{room_first, room_next, entries_next, entries_none, entries_end}
use Rattle.elf.proofs.symbol.usable.Goals as goal

pub loop-preserved : goal.loop-preserved
loop-preserved c =
    let inv = c.loop.invariant in
    let count = length c.args.bytes.now / c.layout-size.result.symbol_size in
    let n : count - c.loop.counter ≡ suc (count - (c.loop.counter + 1)) = omega arith in
    let cut : c.split_at.result.1.now ≡ drop (layout_of c.args.ident.class).symbol_size c.loop.rest.now = c.split_at.ensures.back ∙ ap (λ k. drop k c.loop.rest.now) inv.size_is in
    record {
      size_is = inv.size_is;
      room = room_next _ _ _ _ _ n inv.room c.split_at.ensures.back_len;
      starts = inv.starts;
      read = entries_next _ (layout_of c.args.ident.class) (is_usable c.args.names.now) _ _ _ _ _ _ _ c.entry_at.result n inv.read cut c.in_ok-push_usable.ensures.gives c.entry_at.ensures.gives;
    }

pub returns-in_err-push_usable-clause-none : goal.returns-in_err-push_usable-clause-none
returns-in_err-push_usable-clause-none c = λ ascii none.
    let inv = c.loop.invariant in
    let l = layout_of c.args.ident.class in
    let p = is_usable c.args.names.now in
    let count = length c.args.bytes.now / c.layout-size.result.symbol_size in
    let n : count - c.loop.counter ≡ suc (count - (c.loop.counter + 1)) = omega arith in
    let all = ap (λ (k : ℕ). filter p (entries_in c.args.ident.endian l (length c.args.bytes.now / k) c.args.bytes.now)) inv.size_is in
    absurd (let e = c.in_err-push_usable.ensures.none (entries_none _ l p _ _ _ _ _ _ n inv.read c.entry_at.ensures.gives (all ∙ none)) in cc)

pub split_at-requires : goal.split_at-requires
split_at-requires c =
    let count = length c.args.bytes.now / c.layout-size.result.symbol_size in
    let n : count - c.loop.counter ≡ suc (count - (c.loop.counter + 1)) = omega arith in
    room_first _ _ _ _ n c.loop.invariant.room

pub returns-clause-none : goal.returns-clause-none
returns-clause-none c = search rules

pub returns-clause-gives : goal.returns-clause-gives
returns-clause-gives c =
    let l = layout_of c.args.ident.class in
    let count = length c.args.bytes.now / c.layout-size.result.symbol_size in
    let n : count - c.loop.counter ≡ 0 = omega arith in
    let read = entries_end _ l (is_usable c.args.names.now) _ _ _ _ n c.loop.invariant.read in
    read ∙ ap (λ (k : ℕ). filter (is_usable c.args.names.now) (entries_in c.args.ident.endian l (length c.args.bytes.now / k) c.args.bytes.now)) c.loop.invariant.size_is
