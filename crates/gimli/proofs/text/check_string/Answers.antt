use Rattle.gimli.proofs.Common.{err_from_is_err_and}
use Rattle.gimli.proofs.StringPlaces.{fault_unplaced}
use Rattle.gimli.proofs.text.check_string.Goals as goal

pub returns-in_err-section : goal.returns-in_err-section
returns-in_err-section g c =
    let p = err_from_is_err_and c.from_residual.result c.from_residual.ensures.1 in
    rw (p.1, p.2) (record { gives = fault_unplaced _ _ _ _ _ c.in_err-section.ensures.gives })
