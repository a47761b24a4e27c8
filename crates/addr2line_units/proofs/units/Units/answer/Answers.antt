use Rattle.addr2line_units.proofs.Common.{arith, option_map, sym, as_stop}
use Rattle.addr2line_units.proofs.UnitsNumberLemmas.{answered_there, kept_answer, none_answered}
use Rattle.addr2line_units.proofs.UnitsAtLemmas.{cache_within, its_unit, none_got, unit_got, units_after}
use Rattle.addr2line_units.proofs.units.Units.answer.Goals as goal

pub returns-in_default : goal.returns-in_default
returns-in_default g c =
    let s = c.self.inside in
    let none = none_got c.scope-scope.ensures.gives c.as_slice.ensures.gives c.args.number c.in_default.ensures.lookup.0 in
    rw (sym c.self.view_is) (record { after = none_answered c.self.invariant c.args.number none (option_map (λ x. x.value) c.args.sections) s.steps (as_stop s.caches.items s.stop) })

pub index_mut-cache-requires : goal.index_mut-cache-requires
index_mut-cache-requires g c =
    let within = cache_within c.self.invariant c.args.number (unit_got c.scope-scope.ensures.gives c.as_slice.ensures.gives c.args.number c.in-Some.ensures.lookup.0 c.in-Some.ensures.lookup.1) in
    omega (arith, within)

pub answer-answered-requires : goal.answer-answered-requires
answer-answered-requires g c =
    let there = unit_got c.scope-scope.ensures.gives c.as_slice.ensures.gives c.args.number c.in-Some.ensures.lookup.0 c.in-Some.ensures.lookup.1 in
    record { unit = its_unit c.self.invariant c.args.number there c.index_mut-cache.ensures.value }

pub invariant_of-self-2 : goal.invariant_of-self-2
invariant_of-self-2 g c =
    let there = unit_got c.scope-scope.ensures.gives c.as_slice.ensures.gives c.args.number c.in-Some.ensures.lookup.0 c.in-Some.ensures.lookup.1 in
    let after = c.answer-answered.ensures.after in
    units_after c.self.invariant c.args.number there c.index_mut-cache.ensures.value c.answer-answered.new.self after.lines after.unit c.is_own.ensures.known

pub returns : goal.returns
returns g c =
    let s = c.self.inside in
    let i = c.self.invariant in
    let there = unit_got c.scope-scope.ensures.gives c.as_slice.ensures.gives c.args.number c.in-Some.ensures.lookup.0 c.in-Some.ensures.lookup.1 in
    let at = c.index_mut-cache.ensures.value in
    let given = option_map (λ x. x.value) c.args.sections in
    let after = c.answer-answered.ensures.after in
    let a = kept_answer i c.args.number there at c.answer-answered.new.self after.lines after.entries in
    rw (sym c.self.view_is) (record { after = answered_there i c.args.number there at c.answer-answered.new.self after.lines given s.steps (as_stop s.caches.items s.stop) a })
