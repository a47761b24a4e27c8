use Rattle.elf.proofs.Common.{arith, nat_tests}
use Rattle.elf.proofs.ImageLemmas.{next_in_order}
use Rattle.elf.proofs.image.are_in_order.Goals as goal
use Rattle.elf.proofs.image.are_in_order.Goals.{then-piece-end-via-then-piece-end, then-piece-end-via-else-piece-end+then-own-len, then-piece-end-via-else-piece-end+else-own-len+then-piece-len}

pub returns-then-piece-end-clause-found : goal.returns-then-piece-end-clause-found
returns-then-piece-end-clause-found c = λ ordered.
    let next = next_in_order c.loop-piece.end c.args.len c.loop-piece.piece-index c.args.pieces.now c.piece-item.result c.loop-piece-test.true c.piece-item.is (c.loop-piece.invariant.all ordered) in
    let begins = next.0 in
    let ends = next.1 in
    let own = c.len-own.ensures.gives in
    elim c.then-piece-end.branch [
      | then-piece-end-via-then-piece-end w ↦ let test = w.if-piece-end in grind (arith, nat_tests)
      | then-piece-end-via-else-piece-end+then-own-len w ↦ let test = w.if-own-len in grind (arith, nat_tests)
      | then-piece-end-via-else-piece-end+else-own-len+then-piece-len w ↦ let test = w.if-piece-len in grind (arith, nat_tests)
    ]
