use Rattle.addr2line_units.proofs.Common.{CachedUnit, get_or, refl, Ok, arith, slice_get, subst, sym, ◌≡◌, ExactlyUnlessOom, as_stop, cached_lines, lines_result_at, UnitsState}
use Rattle.addr2line_units.specs.UnitAfter.{AfterLinesOf}
use Rattle.addr2line_units.specs.EntriesOwn.{looked_at_unit}
use Rattle.addr2line_units.proofs.LocationsAtLemmas.{caching_after, none_after_caching, none_read, read_there}
use Rattle.addr2line_units.proofs.UnitsAtLemmas.{cache_within, its_lines, none_got, sections_seen, unit_got, units_with_lines}
use Rattle.addr2line_units.specs.UnitLinesCached.{lines_result_or}
use Rattle.addr2line_units.proofs.UnitLinesLemmas.{lines_follow, results_are, memory_after, no_memory_after, own_after}
use Rattle.addr2line_units.proofs.UnitsLinesLemmas.{answer_cached}
use Rattle.addr2line_units.proofs.units.Units.read_lines_in.Goals as goal

pub returns-in_default : goal.returns-in_default
returns-in_default g c =
    let s = c.self.inside in
    let i = c.self.invariant in
    let was = as_stop s.caches.items s.stop in
    let none = none_got c.scope-scope.ensures.gives c.as_slice.ensures.gives c.args.number c.in_default.ensures.lookup.0 in
    record {
      gives = subst (λ (y : UnitsState). lines_result_at y.scope.file.sections (slice_get y.units c.args.number) ≡ Ok tt) c.self.view_is (none_read i c.args.number s.steps was none);
      after = rw (sym c.self.view_is) (none_after_caching i c.args.number s.steps was none g.R.Reader.shares);
    }

pub index_mut-cache-requires : goal.index_mut-cache-requires
index_mut-cache-requires g c =
    let within = cache_within c.self.invariant c.args.number (unit_got c.scope-scope.ensures.gives c.as_slice.ensures.gives c.args.number c.in-Some.ensures.lookup.0 c.in-Some.ensures.lookup.1) in
    omega (arith, within)

pub invariant_of-self-2 : goal.invariant_of-self-2
invariant_of-self-2 g c =
    let i = c.self.invariant in
    let n = c.args.number in
    let there = unit_got c.scope-scope.ensures.gives c.as_slice.ensures.gives n c.in-Some.ensures.lookup.0 c.in-Some.ensures.lookup.1 in
    let v : CachedUnit g.row.R.Denot = record { lines = c.cache.inside.lines; entries = c.cache.inside.entries; unit = looked_at_unit c.cache.inside.unit.value } in
    let at = subst (λ (y : CachedUnit g.row.R.Denot). y ≡ get_or c.self.inside.caches.items c.args.number y) (sym c.cache.view_is) c.index_mut-cache.ensures.value in
    let a = lines_follow (subst (λ d. AfterLinesOf g.R.Reader.shares d c.in-Some.dw_unit.now c.read_lines.result v.lines c.read_lines.new.self) (sections_seen c.scope-scope.ensures.gives) c.read_lines.ensures.after) in
    units_with_lines i n there at _ (own_after (its_lines i n there at) a) refl refl

pub returns : goal.returns
returns g c =
    let s = c.self.inside in
    let i = c.self.invariant in
    let was = as_stop s.caches.items s.stop in
    let there = unit_got c.scope-scope.ensures.gives c.as_slice.ensures.gives c.args.number c.in-Some.ensures.lookup.0 c.in-Some.ensures.lookup.1 in
    let v : CachedUnit g.row.R.Denot = record { lines = c.cache.inside.lines; entries = c.cache.inside.entries; unit = looked_at_unit c.cache.inside.unit.value } in
    let at = subst (λ (y : CachedUnit g.row.R.Denot). y ≡ get_or c.self.inside.caches.items c.args.number y) (sym c.cache.view_is) c.index_mut-cache.ensures.value in
    let u = c.in-Some.dw_unit.now in
    let r = c.read_lines.result in
    let l = c.read_lines.new.self in
    let e = c.read_lines.ensures in
    let is = sections_seen c.scope-scope.ensures.gives in
    let own = its_lines i c.args.number there at in
    let told = subst (λ given. ExactlyUnlessOom (λ _. cached_lines l.lines) r given) (results_are s.sources.file.sections u v.lines.lines own) (subst (λ d. ExactlyUnlessOom (λ _. cached_lines l.lines) r (lines_result_or d u v.lines.lines)) is e.gives) in
    let a = lines_follow (subst (λ d. AfterLinesOf g.R.Reader.shares d u r v.lines l) is e.after) in
    record {
      gives = subst (λ (y : UnitsState). ExactlyUnlessOom (λ x. x) r (lines_result_at y.scope.file.sections (slice_get y.units c.args.number))) c.self.view_is (read_there i c.args.number s.steps was there at l a.stay (cached_lines l.lines) r told);
      after = rw (sym c.self.view_is) (caching_after i c.args.number s.steps was there at l a.stay g.R.Reader.shares r (answer_cached v.lines.lines r l.lines a.known) (memory_after own a) (no_memory_after own a));
    }
