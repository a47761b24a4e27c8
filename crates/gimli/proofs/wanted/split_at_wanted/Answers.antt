use Rattle.gimli.proofs.Common.{sym}
use Rattle.gimli.specs.WantedAttributes.{is_wanted_specification}
use Rattle.gimli.proofs.WantedLemmas.{holds_there, none_split, split_at}
use Rattle.gimli.proofs.wanted.split_at_wanted.Goals as goal

pub returns-in_err-place-clause-none : goal.returns-in_err-place-clause-none
returns-in_err-place-clause-none g c = λ none. none_split (is_wanted_specification g.W.WantedNames.wanted) c.args.all.now (sym c.in_err-place.ensures.gives)

pub returns-clause-gives : goal.returns-clause-gives
returns-clause-gives g c = split_at (is_wanted_specification g.W.WantedNames.wanted) c.args.all.now c.in_ok-place.place c.index-all-place.result (sym c.in_ok-place.ensures.gives) c.index-all-place.is

pub returns-clause-found : goal.returns-clause-found
returns-clause-found g c = holds_there (is_wanted_specification g.W.WantedNames.wanted) c.args.all.now c.in_ok-place.place c.index-all-place.result (sym c.in_ok-place.ensures.gives) c.index-all-place.is
