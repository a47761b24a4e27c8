use Rattle.addr2line_units.proofs.Common.{Err, Ok, arith, refl, subst, sym, ◌≡◌, err_from_is_err_and, set, WasNotRefused, as_stop, FindsNothing, found_stop, stop_at}
use Rattle.addr2line_units.specs.declared.frames.Asks.TheVariants as lookups
use Rattle.addr2line_units.proofs.FramesAskLemmas.{after_asked, asked_err, asked_ok, cache_now, gives_in, none_after, none_gives, refused_alone, stop_lendable}
use Rattle.addr2line_units.proofs.FramesLookupLemmas.{oom_after, oom_before}
use Rattle.addr2line_units.proofs.UnitsAtLemmas.{cache_within, its_unit, none_got, unit_got, units_with}
use Rattle.addr2line_units.proofs.units.Units.ask_unit.Goals as goal

pub returns-in_default-clause-gives : goal.returns-in_default-clause-gives
returns-in_default-clause-gives g c =
    let s = c.self.inside in
    let none = none_got c.scope-scope.ensures.gives c.as_slice.ensures.gives c.args.number c.in_default.ensures.lookup.0 in
    subst (λ y. stop_at (lookups.Frames c.args.faults) c.args.probe y c.args.number ≡ Ok FindsNothing) c.self.view_is (none_gives c.self.invariant c.args.probe c.args.number s.steps (as_stop s.caches.items s.stop) none c.args.faults)

pub returns-in_default-clause-after : goal.returns-in_default-clause-after
returns-in_default-clause-after g c =
    let s = c.self.inside in
    let none = none_got c.scope-scope.ensures.gives c.as_slice.ensures.gives c.args.number c.in_default.ensures.lookup.0 in
    rw (sym c.self.view_is) (none_after c.self.invariant c.args.probe c.args.number s.steps (as_stop s.caches.items s.stop) none g.R.Reader.shares c.args.faults)

pub index_mut-cache-requires : goal.index_mut-cache-requires
index_mut-cache-requires g c =
    let within = cache_within c.self.invariant c.args.number (unit_got c.scope-scope.ensures.gives c.as_slice.ensures.gives c.args.number c.in-Some.ensures.lookup.0 c.in-Some.ensures.lookup.1) in
    omega (arith, within)

pub find_frames-found-requires : goal.find_frames-found-requires
find_frames-found-requires g c =
    let gives = c.scope-scope.ensures.gives in
    let there = unit_got gives c.as_slice.ensures.gives c.args.number c.in-Some.ensures.lookup.0 c.in-Some.ensures.lookup.1 in
    record { unit = its_unit c.self.invariant c.args.number there c.index_mut-cache.ensures.value }

pub invariant_of-self-in_err-found : goal.invariant_of-self-in_err-found
invariant_of-self-in_err-found g c =
    let there = unit_got c.scope-scope.ensures.gives c.as_slice.ensures.gives c.args.number c.in-Some.ensures.lookup.0 c.in-Some.ensures.lookup.1 in
    let s = c.self.inside in
    let i = c.self.invariant in
    let at = c.index_mut-cache.ensures.value in
    let found = c.find_frames-found in
    let was = as_stop s.caches.items s.stop in
    let e = found.ensures in
    let gives = gives_in i c.args.probe c.args.number s.steps was there at found.new.self found.result e.gives in
    units_with i c.args.number there _ (cache_now i c.args.probe c.args.number s.steps was there at found.new.self c.args.faults found.result gives e.after c.is_own.ensures.known) tt

pub returns-in_err-found : goal.returns-in_err-found
returns-in_err-found g c =
    let s = c.self.inside in
    let i = c.self.invariant in
    let p = err_from_is_err_and c.from_residual.result c.from_residual.ensures.1 in
    let there = unit_got c.scope-scope.ensures.gives c.as_slice.ensures.gives c.args.number c.in-Some.ensures.lookup.0 c.in-Some.ensures.lookup.1 in
    let at = c.index_mut-cache.ensures.value in
    let found = c.find_frames-found in
    let w = found.new.self in
    let was = as_stop s.caches.items s.stop in
    let e = found.ensures in
    let gives = gives_in i c.args.probe c.args.number s.steps was there at found.new.self found.result e.gives in
    let is = c.in_err-found.ensures.gives in
    rw (p.1, p.2) (record {
      gives = λ ne. subst (λ y. stop_at (lookups.Frames c.args.faults) c.args.probe y c.args.number ≡ Err c.in_err-found.field-0.0) c.self.view_is
          (asked_err i c.args.probe c.args.number s.steps was there at w c.args.faults found.result gives _ (sym is) ne);
      after = rw (sym c.self.view_is) (after_asked i c.args.probe c.args.number s.steps was there at w c.args.faults found.result gives e.after c.is_own.ensures.known FindsNothing _
          (λ told. oom_before c.args.faults found.result (subst WasNotRefused is told)) (λ told. subst WasNotRefused (sym is) (oom_after c.args.faults found.result told)) refl
          (refused_alone i c.args.probe c.args.number s.steps was there at w c.args.faults found.result gives e.after c.is_own.ensures.known FindsNothing c.in_err-found.field-0.0 (sym is)));
    })

pub invariant_of-self-2 : goal.invariant_of-self-2
invariant_of-self-2 g c =
    let s = c.self.inside in
    let i = c.self.invariant in
    let there = unit_got c.scope-scope.ensures.gives c.as_slice.ensures.gives c.args.number c.in-Some.ensures.lookup.0 c.in-Some.ensures.lookup.1 in
    let at = c.index_mut-cache.ensures.value in
    let found = c.find_frames-found in
    let was = as_stop s.caches.items s.stop in
    let e = found.ensures in
    let gives = gives_in i c.args.probe c.args.number s.steps was there at found.new.self found.result e.gives in
    rw c.stop_at.ensures.gives (units_with i c.args.number there _ (cache_now i c.args.probe c.args.number s.steps was there at found.new.self c.args.faults found.result gives e.after c.is_own.ensures.known)
    (stop_lendable i c.args.probe c.args.number s.steps was there at found.new.self c.args.faults found.result gives e.after c.is_own.ensures.known _ (sym c.in_ok-found.ensures.gives)))

pub returns : goal.returns
returns g c =
    let s = c.self.inside in
    let i = c.self.invariant in
    let there = unit_got c.scope-scope.ensures.gives c.as_slice.ensures.gives c.args.number c.in-Some.ensures.lookup.0 c.in-Some.ensures.lookup.1 in
    let at = c.index_mut-cache.ensures.value in
    let found = c.find_frames-found in
    let w = found.new.self in
    let was = as_stop s.caches.items s.stop in
    let e = found.ensures in
    let gives = gives_in i c.args.probe c.args.number s.steps was there at found.new.self found.result e.gives in
    let is = c.in_ok-found.ensures.gives in
    record {
      gives = rw c.stop_at.ensures.gives (subst (λ y. stop_at (lookups.Frames c.args.faults) c.args.probe y c.args.number ≡ Ok (as_stop (set s.caches.items c.args.number w) (found_stop c.args.number c.in_ok-found.found))) c.self.view_is
          (asked_ok i c.args.probe c.args.number s.steps was there at w c.args.faults found.result gives _ (sym is)));
      after = rw (sym c.self.view_is) (after_asked i c.args.probe c.args.number s.steps was there at w c.args.faults found.result gives e.after c.is_own.ensures.known _ _
          (λ told. oom_before c.args.faults found.result (subst WasNotRefused is told)) (λ told. subst WasNotRefused (sym is) (oom_after c.args.faults found.result told)) tt (λ none. tt));
    }
