use Rattle.addr2line_units.proofs.Common.{None, ap, arith, refl, subst, sym, ◌≡◌, OnOk, as_stop, answers_in, load_of_number, as_units_state, UnitsState}
use Rattle.std.specs.Prelude.{IfOk}
use Rattle.addr2line_units.specs.LoadsListed.{MarksLoad, if_new}
use Rattle.addr2line_units.proofs.LoadsListingLemmas.{listing_first, load_in}
use Rattle.addr2line_units.proofs.LoadsLemmas.{marks_none, no_load}
use Rattle.addr2line_units.proofs.UnitsNumberLemmas.{kept_listing, listed_there, load_listed, shut_there}
use Rattle.addr2line_units.proofs.UnitsAtLemmas.{cache_within, its_unit, none_got, unit_got, units_after}
use Rattle.addr2line_units.proofs.units.Units.new_load_at.Goals as goal

pub returns-in_default : goal.returns-in_default
returns-in_default g c =
    let s = c.self.inside in
    let n = c.args.number in
    let S = s.sources in
    let cs = s.caches.items in
    let marks = c.args.marks.now.keys in
    let none = none_got c.scope-scope.ensures.gives c.as_slice.ensures.gives c.args.number c.in_default.ensures.lookup.0 in
    let no = no_load S.file.sections S.file.units (answers_in cs) n none in
    record {
      gives = subst (λ (y : UnitsState). None ≡ if_new marks (load_in y n)) c.self.view_is (sym (ap (if_new marks) no));
      after = rw (sym c.self.view_is) (record {
        listing = listing_first (λ k. k ≡ n) (as_units_state S cs s.steps (as_stop cs s.stop));
        marks_load = marks_none marks (load_of_number S.file.sections S.file.units (answers_in cs) n) no;
        none = λ shut. refl;
        refused = tt;
      });
    }

pub index_mut-cache-requires : goal.index_mut-cache-requires
index_mut-cache-requires g c =
    let within = cache_within c.self.invariant c.args.number (unit_got c.scope-scope.ensures.gives c.as_slice.ensures.gives c.args.number c.in-Some.ensures.lookup.0 c.in-Some.ensures.lookup.1) in
    omega (arith, within)

pub new_load-load-requires : goal.new_load-load-requires
new_load-load-requires g c =
    let there = unit_got c.scope-scope.ensures.gives c.as_slice.ensures.gives c.args.number c.in-Some.ensures.lookup.0 c.in-Some.ensures.lookup.1 in
    record { unit = its_unit c.self.invariant c.args.number there c.index_mut-cache.ensures.value }

pub invariant_of-self-2 : goal.invariant_of-self-2
invariant_of-self-2 g c =
    let there = unit_got c.scope-scope.ensures.gives c.as_slice.ensures.gives c.args.number c.in-Some.ensures.lookup.0 c.in-Some.ensures.lookup.1 in
    let after = c.new_load-load.ensures.after in
    units_after c.self.invariant c.args.number there c.index_mut-cache.ensures.value c.new_load-load.new.self after.lines after.unit c.is_own.ensures.known

pub returns : goal.returns
returns g c =
    let s = c.self.inside in
    let n = c.args.number in
    let i = c.self.invariant in
    let marks = c.args.marks.now.keys in
    let there = unit_got c.scope-scope.ensures.gives c.as_slice.ensures.gives c.args.number c.in-Some.ensures.lookup.0 c.in-Some.ensures.lookup.1 in
    let at = c.index_mut-cache.ensures.value in
    let load_is = load_listed i c.args.number there at in
    let after = c.new_load-load.ensures.after in
    let a = kept_listing i c.args.number there at c.new_load-load.new.self after.lines after.entries in
    record {
      gives = subst (λ (y : UnitsState). IfOk c.new_load-load.result (λ load. load ≡ if_new marks (load_in y n))) c.self.view_is (subst (λ o. IfOk c.new_load-load.result (λ load. load ≡ if_new marks o)) (sym load_is) a.gives);
      after = rw (sym c.self.view_is) (record {
        listing = listed_there i c.args.number there at c.new_load-load.new.self after.lines s.steps (as_stop s.caches.items s.stop) a.checked;
        marks_load = subst (λ o. OnOk c.new_load-load.result (MarksLoad o marks c.new_load-load.new.marks.keys)) (sym load_is) a.marks_load;
        none = λ shut. a.none (shut_there i c.args.number there at shut);
        refused = a.refused;
      });
    }
