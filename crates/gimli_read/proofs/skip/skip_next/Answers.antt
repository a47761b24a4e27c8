use Rattle.gimli_read.proofs.Common.{◌≡◌, ◌+◌, sym, arith}
use Rattle.gimli_read.proofs.SizeLemmas.{next_sized}
use Rattle.gimli_read.proofs.skip.skip_next.Goals as goal

pub returns-in-Some-checked_add : goal.returns-in-Some-checked_add
returns-in-Some-checked_add c =
    let is : c.in-Some-checked_add.longer ≡ c.args.run + c.in-Some.size = grind (arith, c.in-Some-checked_add.ensures, c.from.ensures) in
    record { gives = rw is (next_sized c.args.run c.args.encoding c.args.specification c.in-Some.size c.args.bytes.now (sym c.in-Some.ensures.gives)) }
