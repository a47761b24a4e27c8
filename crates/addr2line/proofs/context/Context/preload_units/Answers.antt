use Rattle.addr2line.proofs.Common.{[], Ok, result_map, subst, sym, ◌∙◌, ◌≡◌, IfOk, cover, NoneOpen, load_of_number}
use Rattle.addr2line.proofs.AnsweredLemmas.{loads_are, read_context}
use Rattle.addr2line.proofs.LoadLemmas.{after_preload, listed_ok, listed_refused, none_listed, none_open_are}
use Rattle.addr2line.proofs.ContextLemmas.{covers_none}
use Rattle.addr2line.proofs.context.Context.preload_units.Goals as goal

pub invariant_of-self : goal.invariant_of-self
invariant_of-self g c =
    let s = c.self.inside in
    read_context s.ranges s.units c.self.invariant c.preload.new.self c.preload.ensures.after.listing.stays

pub returns-clause-gives : goal.returns-clause-gives
returns-clause-gives g c =
    let s = c.self.inside in
    let e = rw c.find.ensures.gives at c.preload.ensures in
    rw (sym c.self.view_is) (subst (λ l. IfOk c.preload.result (λ loads. loads.items ≡ l)) (sym (loads_are s.ranges s.units c.self.invariant s.units.answers c.args.probe)) e.gives)

pub returns-clause-after : goal.returns-clause-after
returns-clause-after g c =
    let s = c.self.inside in
    let i = c.self.invariant in
    let d = s.units.scope.file in
    let e = rw c.find.ensures.gives at c.preload.ensures in
    let r = c.preload.result in
    let nothing : (cover c.args.probe s.ranges ≡ [] → result_map (λ loads. loads.items) r ≡ Ok []) = (λ none.
    none_listed (λ loads. loads.items) (load_of_number d.sections d.units s.units.answers) (cover c.args.probe s.ranges) r none
    (e.after.memory (subst (NoneOpen d.sections d.units s.units.answers) (sym none) tt)) e.gives) in
    rw (sym c.self.view_is) (record {
      after = after_preload s.ranges s.units i c.args.probe c.preload.new.self e.after.listing;
      refused = listed_refused (λ loads. loads.items) r e.after.refused;
      memory = λ shut. listed_ok (λ loads. loads.items) r (e.after.memory (none_open_are s.ranges s.units i c.args.probe shut));
      none = λ q. nothing (covers_none s.ranges s.units i c.args.probe q);
      last = λ q. nothing (sym c.find.ensures.gives ∙ c.find.ensures.last q);
    })
