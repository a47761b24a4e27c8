use Rattle.elf.proofs.Common.{rules, ◌≡◌, ◌∙◌, ◌+◌, ℕ, List, suc, ap, sym, arith, take, option_map, option_and_then, front_text, short_text_at}
use Rattle.elf.proofs.TextLemmas.{if_short, front_text_within, front_text_all}
use Rattle.elf.proofs.section.short_text_at.Goals as goal

pub returns : goal.returns
returns c =
    let rest = c.rest_at-rest.result.now in
    let one : c.args.limit + 1 ≡ suc c.args.limit = omega arith in
    let cut : option_map (λ t. t.now) c.front_text-2.result ≡ front_text (take (c.args.limit + 1) rest) = search rules in
    let seen : short_text_at c.args.limit c.args.table.now c.args.at ≡ option_and_then (if_short c.args.limit) (front_text rest) = ap (λ (b : List ℕ). option_and_then (if_short c.args.limit) (front_text b)) (sym c.rest_at-rest.ensures.gives) in
    record { gives = cut ∙ ap (λ (k : ℕ). front_text (take k rest)) one ∙ front_text_within c.args.limit rest ∙ sym seen }

pub returns-then-rest-limit : goal.returns-then-rest-limit
returns-then-rest-limit c =
    let rest = c.rest_at-rest.result.now in
    let seen : short_text_at c.args.limit c.args.table.now c.args.at ≡ option_and_then (if_short c.args.limit) (front_text rest) = ap (λ (b : List ℕ). option_and_then (if_short c.args.limit) (front_text b)) (sym c.rest_at-rest.ensures.gives) in
    record { gives = c.front_text.ensures.gives ∙ front_text_all c.args.limit rest c.if-rest-limit.true ∙ sym seen }
