use Rattle.addr2line.proofs.Common.{Ok, ap, subst, sym, ◌∙◌, cover_range, spans_along, AreParsed}
use Rattle.addr2line.proofs.ContextLemmas.{at_made, spans_are}
use Rattle.addr2line.proofs.context.Context.cached_rows.Goals as goal

pub find_location_range-requires : goal.find_location_range-requires
find_location_range-requires g c =
    let s = c.self.inside in
    let ready = rw (sym c.self.view_is) at c.requires.parsed in
    record { parsed = subst (AreParsed s.units.parsed) (sym c.find_range-ranges.ensures.gives) (at_made s.ranges s.units c.self.invariant (λ x xs rs. AreParsed s.units.parsed (cover_range c.args.low c.args.high rs)) ready) }

pub returns : goal.returns
returns g c =
    let s = c.self.inside in
    rw (sym c.self.view_is) (record {
      gives = spans_are s.ranges s.units c.self.invariant c.args.low c.args.high
          ∙ ap (λ rs. Ok (spans_along s.units.scope.file.sections s.units.units c.args.low c.args.high rs)) (sym c.find_range-ranges.ensures.gives)
          ∙ ap Ok (sym c.find_location_range.ensures.gives);
    })
