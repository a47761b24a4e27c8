use Rattle.gimli_line.proofs.Common.{◌≡◌, ◌+◌, ◌*◌, ◌/◌, ◌%◌, ◌-ℤ◌, ℤ, pos, of_z, to_z, w64, rules, ◌∙◌}
use Rattle.std.proofs.lemmas.Int.{to_z-of_z}
use Rattle.gimli_line.proofs.ShortNumbers.{short_signed, long_signed}
use Rattle.gimli_line.proofs.frequent.short_signed.Goals as goal

pub returns-then-first-lt128-clause-gives : goal.returns-then-first-lt128-clause-gives
returns-then-first-lt128-clause-gives c = λ code rest.
    let kept : to_z w64 (of_z w64 c.difference.result) ≡ c.difference.result = to_z-of_z w64 c.difference.result (search rules) in
    let is : c.difference.result ≡ pos c.args.first -ℤ pos (c.args.first / 64 * 128) =
    (let d = c.difference.ensures.gives in let a = c.from.ensures in let b = c.from-then-first-lt128.ensures in cc) in
    short_signed c.args.first c.args.second _ c.if-first-lt128.true (kept ∙ is) rest

pub returns-then-second-lt128-clause-gives : goal.returns-then-second-lt128-clause-gives
returns-then-second-lt128-clause-gives c = λ code rest.
    let result : ℤ = c.difference-then-second-lt128.result in
    let kept : to_z w64 (of_z w64 result) ≡ result = to_z-of_z w64 result (search rules) in
    let is : result ≡ pos (c.args.first % 128 + c.args.second * 128) -ℤ pos (c.args.second / 64 * 16384) =
    (let d = c.difference-then-second-lt128.ensures.gives in let a = c.from-then-second-lt128.ensures in
    let b = c.from-then-second-lt128-2.ensures in let e = c.from-then-second-lt128-3.ensures in cc) in
    long_signed c.args.first c.args.second _ c.if-first-lt128.false c.if-second-lt128.true (kept ∙ is) rest
