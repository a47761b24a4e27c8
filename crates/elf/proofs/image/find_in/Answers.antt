use Rattle.elf.proofs.Common.{◌≡◌, ◌∙◌, ◌+◌, ◌<◌, Bool, true, false, cond, Some, None, Option, length, ap, arith, sym, Piece, piece_holds}
use Rattle.elf.proofs.SearchLemmas.{found_at, found_past, none_within}
use Rattle.elf.proofs.image.find_in.Goals as goal

pub returns-then-start-all : goal.returns-then-start-all
returns-then-start-all c = record { gives = none_within c.requires.in_order.0 c.args.all c.args.start c.args.len c.args.pieces.now c.requires.in_order.1 (omega (arith, c.if-start-all.true)) }

pub returns-then-len-all : goal.returns-then-len-all
returns-then-len-all c = record { gives = none_within c.requires.in_order.0 c.args.all c.args.start c.args.len c.args.pieces.now c.requires.in_order.1 (omega (arith, c.if-start-all.false, c.if-len-all.true)) }

pub returns-then-count-pieces : goal.returns-then-count-pieces
returns-then-count-pieces c = record { gives = found_past c.args.start c.args.len c.count_before-count.result c.args.pieces.now (omega (arith, c.if-count-pieces.true)) c.count_before-count.ensures.before }

pub returns-then-holds : goal.returns-then-holds
returns-then-holds c =
    let k = c.count_before-count.result in
    let p = c.index-pieces-count.result in
    let t : piece_holds c.args.start c.args.len p ≡ true = sym c.holds.ensures.gives ∙ c.if-holds.true in
    let inside : k < length c.args.pieces.now = omega (arith, c.if-count-pieces.false, c.count_before-count.ensures.within) in
    let found = found_at c.requires.in_order.0 c.args.all c.args.start c.args.len k c.args.pieces.now p c.requires.in_order.1 inside c.index-pieces-count.is c.count_before-count.ensures.before c.count_before-count.ensures.after in
    record { gives = sym (found ∙ ap (λ (b : Bool). cond {A = Option Piece} b (Some p) None) t) }

pub returns-else-holds : goal.returns-else-holds
returns-else-holds c =
    let k = c.count_before-count.result in
    let p = c.index-pieces-count.result in
    let t : piece_holds c.args.start c.args.len p ≡ false = sym c.holds.ensures.gives ∙ c.if-holds.false in
    let inside : k < length c.args.pieces.now = omega (arith, c.if-count-pieces.false, c.count_before-count.ensures.within) in
    let found = found_at c.requires.in_order.0 c.args.all c.args.start c.args.len k c.args.pieces.now p c.requires.in_order.1 inside c.index-pieces-count.is c.count_before-count.ensures.before c.count_before-count.ensures.after in
    record { gives = sym (found ∙ ap (λ (b : Bool). cond {A = Option Piece} b (Some p) None) t) }
