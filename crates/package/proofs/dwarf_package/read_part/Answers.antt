use Rattle.std.proofs.lemmas.Result.{err_from_is_err_and}
use Rattle.package.proofs.PackageLemmas.{part_split, rest_is, skip_never}
use Rattle.package.proofs.dwarf_package.read_part.Goals as goal

pub returns-in_err-skip : goal.returns-in_err-skip
returns-in_err-skip g c =
    let p = err_from_is_err_and c.from_residual-in_err-skip.result c.from_residual-in_err-skip.ensures.1 in
    rw (p.1, p.2) (record { gives = λ m. absurd (skip_never c.args.part (g.R.Reader.section c.args.section.now) _ _ c.requires.within c.in_ok-rest.ensures.gives (rw c.from.ensures at c.in_err-skip.ensures.gives)) })

pub returns : goal.returns
returns g c =
    let s = g.R.Reader.section c.args.section.now in
    record {
      gives = part_split g.R.Reader.section g.R.Reader.shares c.args.part s _ _ c.split.result c.requires.within
          (rest_is c.args.part s _ _ c.requires.within c.in_ok-rest.ensures.gives (rw c.from.ensures at c.in_ok-skip.ensures.gives)) (rw c.from-2.ensures at c.split.ensures.gives);
    }
