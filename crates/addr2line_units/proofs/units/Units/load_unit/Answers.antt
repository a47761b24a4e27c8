use Rattle.addr2line_units.proofs.Common.{◌≡◌, ap, arith, option_map, subst, sym, CachedUnit, EntriesCache, IfSome, fault_of, verdict_in, err_from_is_err_and, as_stop, answers_in}
use Rattle.addr2line_units.proofs.LoadsLemmas.{exactly_this, unknown_load}
use Rattle.addr2line_units.proofs.UnitsNumberLemmas.{fault_told, kept_answer, load_told, loaded_there, none_loaded, refused_there}
use Rattle.addr2line_units.proofs.UnitsAtLemmas.{cache_within, its_unit, none_got, unit_got, units_after}
use Rattle.addr2line_units.proofs.units.Units.load_unit.Goals as goal

pub returns-in_default : goal.returns-in_default
returns-in_default g c =
    let s = c.self.inside in
    let given = option_map (λ x. x.value) c.args.sections in
    let none = none_got c.scope-scope.ensures.gives c.as_slice.ensures.gives c.args.token.number c.in_default.ensures.lookup.0 in
    let unknown = unknown_load s.sources.file.sections s.sources.file.units (answers_in s.caches.items) c.args.token.number given none in
    rw (sym c.self.view_is) (record {
      gives = λ ne. unknown;
      after = none_loaded c.self.invariant c.args.token.number none given s.steps (as_stop s.caches.items s.stop);
    })

pub index_mut-cache-requires : goal.index_mut-cache-requires
index_mut-cache-requires g c =
    let within = cache_within c.self.invariant c.args.token.number (unit_got c.scope-scope.ensures.gives c.as_slice.ensures.gives c.args.token.number c.in-Some.ensures.lookup.0 c.in-Some.ensures.lookup.1) in
    omega (arith, within)

pub answer-answered-requires : goal.answer-answered-requires
answer-answered-requires g c =
    let there = unit_got c.scope-scope.ensures.gives c.as_slice.ensures.gives c.args.token.number c.in-Some.ensures.lookup.0 c.in-Some.ensures.lookup.1 in
    record { unit = its_unit c.self.invariant c.args.token.number there c.index_mut-cache.ensures.value }

pub invariant_of-self-2 : goal.invariant_of-self-2
invariant_of-self-2 g c =
    let there = unit_got c.scope-scope.ensures.gives c.as_slice.ensures.gives c.args.token.number c.in-Some.ensures.lookup.0 c.in-Some.ensures.lookup.1 in
    let after = c.answer-answered.ensures.after in
    units_after c.self.invariant c.args.token.number there c.index_mut-cache.ensures.value c.answer-answered.new.self after.lines after.unit c.is_own.ensures.known

pub invariant_of-self-in_err-answered : goal.invariant_of-self-in_err-answered
invariant_of-self-in_err-answered g c =
    let there = unit_got c.scope-scope.ensures.gives c.as_slice.ensures.gives c.args.token.number c.in-Some.ensures.lookup.0 c.in-Some.ensures.lookup.1 in
    let after = c.answer-answered.ensures.after in
    units_after c.self.invariant c.args.token.number there c.index_mut-cache.ensures.value c.answer-answered.new.self after.lines after.unit c.is_own.ensures.known

pub returns-in_err-answered : goal.returns-in_err-answered
returns-in_err-answered g c =
    let s = c.self.inside in
    let i = c.self.invariant in
    let p = err_from_is_err_and c.from_residual.result c.from_residual.ensures.1 in
    let there = unit_got c.scope-scope.ensures.gives c.as_slice.ensures.gives c.args.token.number c.in-Some.ensures.lookup.0 c.in-Some.ensures.lookup.1 in
    let at = c.index_mut-cache.ensures.value in
    let w = c.answer-answered.new.self in
    let given = option_map (λ x. x.value) c.args.sections in
    let after = c.in_err-answered.ensures.after in
    let a = kept_answer i c.args.token.number there at w after.lines after.entries in
    rw (p.1, p.2, sym c.self.view_is) (record {
      gives = λ ne. absurd (ne a.refused.0);
      after = refused_there i c.args.token.number there at w after.lines given s.steps (as_stop s.caches.items s.stop) c.in_err-answered.field-0.0 a;
    })

pub returns : goal.returns
returns g c =
    let s = c.self.inside in
    let i = c.self.invariant in
    let there = unit_got c.scope-scope.ensures.gives c.as_slice.ensures.gives c.args.token.number c.in-Some.ensures.lookup.0 c.in-Some.ensures.lookup.1 in
    let at = c.index_mut-cache.ensures.value in
    let w = c.answer-answered.new.self in
    let given = option_map (λ x. x.value) c.args.sections in
    let after = c.in_ok-answered.ensures.after in
    let a = kept_answer i c.args.token.number there at w after.lines after.entries in
    let view = subst (λ (v : EntriesCache _). IfSome (verdict_in c.scope-scope.result.file.dwarf.now c.in-Some.dw_unit.now v.view.state) (λ known. IfSome known (λ view. c.check_view.result ≡ fault_of view))) (ap (λ (x : CachedUnit _). x.entries) c.cache.view_is) c.check_view.ensures.gives in
    let fault = fault_told i c.args.token.number there at w after.lines c.scope-scope.ensures.gives a.entries a.known view in
    let told = load_told i c.args.token.number there at w after.lines given c.check_view.result a.answer fault in
    rw (sym c.self.view_is) (record {
      gives = exactly_this c.check_view.result _ told;
      after = loaded_there i c.args.token.number there at w after.lines given s.steps (as_stop s.caches.items s.stop) a c.check_view.result fault;
    })
