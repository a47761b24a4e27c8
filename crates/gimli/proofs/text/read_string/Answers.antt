use Rattle.gimli.proofs.Common.{err_from_is_err_and}
use Rattle.gimli.proofs.StringPlaces.{string_unplaced}
use Rattle.gimli.proofs.text.read_string.Goals as goal

pub returns-in_err-string : goal.returns-in_err-string
returns-in_err-string g c =
    let p = err_from_is_err_and c.from_residual.result c.from_residual.ensures.1 in
    rw (p.1, p.2) (record { gives = λ m. string_unplaced _ _ _ _ _ c.in_err-string.ensures.gives })
