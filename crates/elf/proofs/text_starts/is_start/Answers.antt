use Rattle.elf.proofs.Common.{ℕ, sym, subst, IsTextDistance}
use Rattle.std.specs.Prelude.{Option}
use Rattle.elf.proofs.StartLemmas.{begins_by_distance, begins_not_without}
use Rattle.elf.proofs.text_starts.is_start.Goals as goal

pub returns-in-Some : goal.returns-in-Some
returns-in-Some c =
    let P : Option ℕ → Type 0 = λ d. IsTextDistance c.args.tail.now d in
    record { gives = begins_by_distance c.args.tail.now c.in-Some.distance (subst P c.in-Some.is c.requires.distance) }

pub returns-in-None : goal.returns-in-None
returns-in-None c =
    let P : Option ℕ → Type 0 = λ d. IsTextDistance c.args.tail.now d in
    record { gives = sym (begins_not_without c.args.tail.now (subst P c.in-None.is c.requires.distance)) }
