use Rattle.gimli.proofs.Common.{refl, err_from_is_err_and, given_as}
use Rattle.gimli.proofs.UnitLemmas.{unit_is}
use Rattle.gimli.proofs.dwarf.Dwarf.unit.Goals as goal

pub returns-in_err-abbreviations-2 : goal.returns-in_err-abbreviations-2
returns-in_err-abbreviations-2 g c =
    let p = unit_is c.args.self.now c.args.header g.R.Reader.shares (g.R.Reader.section c.in_ok-rest.rest) c.in_ok-abbreviations.abbreviations c.in_ok-root.root
    (rw (← c.self.view_is) (rw (← c.header.view_is) c.in_ok-rest.ensures.gives)) c.in_ok-abbreviations.ensures.gives c.in_ok-root.ensures.gives in
    let q = err_from_is_err_and c.from_residual-in_err-abbreviations-2.result c.from_residual-in_err-abbreviations-2.ensures.1 in
    rw (q.1, q.2) (record { gives = λ n. absurd (n p.0 refl) })

pub returns : goal.returns
returns g c =
    let p = unit_is c.args.self.now c.args.header g.R.Reader.shares (g.R.Reader.section c.in_ok-rest.rest) c.in_ok-abbreviations.abbreviations c.in_ok-root.root
    (rw (← c.self.view_is) (rw (← c.header.view_is) c.in_ok-rest.ensures.gives)) c.in_ok-abbreviations.ensures.gives c.in_ok-root.ensures.gives in
    record { gives = given_as _ _ _ _ _ (λ _. p.0) p.1 (rw c.in_ok-abbreviations-2.ensures.ok at c.complete.ensures.gives) }
