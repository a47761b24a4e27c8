use Rattle.addr2line_units.proofs.Common.{ltb-true, subst, sym, ◌∙◌, as_stop}
use Rattle.addr2line_units.specs.EntriesEmpty.{HasNothingAt}
use Rattle.addr2line_units.proofs.EntriesEmptyLemmas.{nothing_there}
use Rattle.addr2line_units.proofs.units.Units.has_nothing.Goals as goal

pub returns-in-Some : goal.returns-in-Some
returns-in-Some g c =
    let s = c.self.inside in
    let lookup = rw c.deref.ensures.value at c.in-Some.ensures.lookup in
    let within = ltb-true _ _ (sym lookup.0) in
    record {
      empty = λ known. subst (λ y. HasNothingAt y c.args.number) c.self.view_is
          (nothing_there c.self.invariant c.args.number s.steps (as_stop s.caches.items s.stop) within lookup.1 (sym c.has_nothing.ensures.gives ∙ known));
    }
