use Rattle.addr2line_units.proofs.Common.{CachedUnit, option_map, parts_of, readable_view, ap, arith, rules, sym, ◌∙◌, ◌≡◌, as_stop, answers_in, unit_found, subst, AreUnits, Scope}
use Rattle.addr2line_units.specs.UnitViewCached.{verdict_or}
use Rattle.addr2line_units.specs.declared.frames.FramesStop.TheVariants as stops
use Rattle.addr2line_units.proofs.FramesDecidedLemmas.{parts_at, view_at}
use Rattle.addr2line_units.proofs.UnitViewLemmas.{verdict_or_is}
use Rattle.addr2line_units.proofs.UnitsStateLemmas.{place_if_stored}
use Rattle.addr2line_units.proofs.FramesWaitLemmas.{as_many_views, views_of_entries}
use Rattle.addr2line_units.proofs.UnitsAtLemmas.{all_entries}
use Rattle.addr2line_units.proofs.units.Units.unit.Goals as goal

pub index-dw_unit-requires : goal.index-dw_unit-requires
index-dw_unit-requires g c =
    let s = c.self.inside in
    let o = c.sources.inside in
    let i = subst (λ (x : Scope). AreUnits x s.caches.items s.stop) (sym c.sources.view_is) c.self.invariant in
    let p = c.in-Finds.place in
    let within = (place_if_stored s.caches.items s.stop p (search rules) i.stop).unit in
    let views = views_of_entries _ o.units.items s.caches.items (all_entries i) in
    let many = as_many_views o.dwarf.value o.units.items s.caches.items views in
    omega (arith, many, within)

pub index-cache-requires : goal.index-cache-requires
index-cache-requires g c =
    let s = c.self.inside in
    let p = c.in-Finds.place in
    let within = (place_if_stored s.caches.items s.stop p (search rules) c.self.invariant.stop).unit in
    omega (arith, within)

pub returns : goal.returns
returns g c =
    let s = c.self.inside in
    let o = c.sources.inside in
    let i = subst (λ (x : Scope). AreUnits x s.caches.items s.stop) (sym c.sources.view_is) c.self.invariant in
    let p = c.in-Finds.place in
    let within = (place_if_stored s.caches.items s.stop p (search rules) i.stop).unit in
    let views = views_of_entries _ o.units.items s.caches.items (all_entries i) in
    let many = as_many_views o.dwarf.value o.units.items s.caches.items views in
    let told = rw c.deref.ensures at c.readable.ensures.gives in
    let own = view_at o.dwarf.value o.units.items s.caches.items p.unit c.index-dw_unit.result.now c.index-cache.result.now views within (search rules) (search rules) in
    let known = ap (λ w. option_map parts_of (readable_view w)) (verdict_or_is o.dwarf.value c.index-dw_unit.result.now c.index-cache.result.now.entries.view own) in
    let found = parts_at o.dwarf.value o.units.items s.caches.items p.unit c.index-dw_unit.result.now c.index-cache.result.now (omega (arith, many, within)) within (search rules) (search rules) in
    let last : s.stop ≡ stops.Finds p = search rules in
    rw (sym c.self.view_is, sym c.sources.view_is) (record { gives = told ∙ ap (λ (w : CachedUnit g.row.R.Denot). option_map parts_of (readable_view (verdict_or o.dwarf.value c.index-dw_unit.result.now w.entries.view.state))) c.cache.view_is ∙ known ∙ found ∙ ap (λ l. unit_found o.dwarf.value o.units.items (answers_in s.caches.items) (as_stop s.caches.items l)) (sym last) })
