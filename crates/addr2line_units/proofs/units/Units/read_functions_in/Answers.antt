use Rattle.addr2line_units.proofs.Common.{Ok, arith, subst, sym, ExactlyUnlessOom, as_stop, read_of_number, UnitsState}
use Rattle.addr2line_units.proofs.ParsesAtLemmas.{after_there, none_after, none_gives, reading_was}
use Rattle.addr2line_units.proofs.UnitsAtLemmas.{cache_within, its_unit, none_got, unit_got, units_after}
use Rattle.addr2line_units.proofs.units.Units.read_functions_in.Goals as goal

pub returns-in_default : goal.returns-in_default
returns-in_default g c =
    let s = c.self.inside in
    let none = none_got c.scope-scope.ensures.gives c.as_slice.ensures.gives c.args.number c.in_default.ensures.lookup.0 in
    let was = as_stop s.caches.items s.stop in
    record {
      gives = subst (λ (y : UnitsState). ExactlyUnlessOom (λ x. x) (Ok tt) (read_of_number c.args.depth y.scope y.scope.file.units y.answers c.args.number)) c.self.view_is (none_gives c.self.invariant c.args.number g.R.Reader.shares c.args.depth s.steps was none);
      after = rw (sym c.self.view_is) (none_after c.self.invariant c.args.number g.R.Reader.shares c.args.depth s.steps was none);
    }

pub index_mut-cache-requires : goal.index_mut-cache-requires
index_mut-cache-requires g c =
    let within = cache_within c.self.invariant c.args.number (unit_got c.scope-scope.ensures.gives c.as_slice.ensures.gives c.args.number c.in-Some.ensures.lookup.0 c.in-Some.ensures.lookup.1) in
    omega (arith, within)

pub read_functions-read-requires : goal.read_functions-read-requires
read_functions-read-requires g c =
    let there = unit_got c.scope-scope.ensures.gives c.as_slice.ensures.gives c.args.number c.in-Some.ensures.lookup.0 c.in-Some.ensures.lookup.1 in
    record { unit = its_unit c.self.invariant c.args.number there c.index_mut-cache.ensures.value }

pub invariant_of-self-2 : goal.invariant_of-self-2
invariant_of-self-2 g c =
    let there = unit_got c.scope-scope.ensures.gives c.as_slice.ensures.gives c.args.number c.in-Some.ensures.lookup.0 c.in-Some.ensures.lookup.1 in
    let after = c.read_functions-read.ensures.after in
    units_after c.self.invariant c.args.number there c.index_mut-cache.ensures.value c.read_functions-read.new.self after.lines after.unit c.is_own.ensures.known

pub returns : goal.returns
returns g c =
    let s = c.self.inside in
    let i = c.self.invariant in
    let there = unit_got c.scope-scope.ensures.gives c.as_slice.ensures.gives c.args.number c.in-Some.ensures.lookup.0 c.in-Some.ensures.lookup.1 in
    let at = c.index_mut-cache.ensures.value in
    let shares = g.R.Reader.shares in
    let depth = c.args.depth in
    let was = as_stop s.caches.items s.stop in
    let r = c.read_functions-read in
    record {
      gives = subst (λ (y : UnitsState). ExactlyUnlessOom (λ x. x) r.result (read_of_number depth y.scope y.scope.file.units y.answers c.args.number)) c.self.view_is
          (subst (λ x. ExactlyUnlessOom (λ x. x) r.result x) (sym (reading_was i c.args.number shares depth s.steps was there at r.ensures.after)) r.ensures.gives);
      after = rw (sym c.self.view_is) (after_there i c.args.number shares depth s.steps was there at r.ensures.after);
    }
