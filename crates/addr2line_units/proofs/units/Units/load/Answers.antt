use Rattle.addr2line_units.proofs.Common.{◌≡◌, arith, rules, sym, OutOfMemory, subst, AreUnits, Scope}
use Rattle.std.proofs.lemmas.Grind.{common_steps}
use Rattle.addr2line_units.proofs.UnitsStateLemmas.{load_there, waits_if_stored}
use Rattle.addr2line_units.proofs.UnitViewLemmas.{open_has_load, refused_load}
use Rattle.addr2line_units.proofs.FramesWaitLemmas.{as_many_views, views_of_entries, waiting_there, waits_within}
use Rattle.addr2line_units.proofs.UnitsAtLemmas.{all_entries}
use Rattle.addr2line_units.proofs.units.Units.load.Goals as goal

pub index-dw_unit-requires : goal.index-dw_unit-requires
index-dw_unit-requires g c =
    let s = c.self.inside in
    let o = c.sources.inside in
    let i = subst (λ (x : Scope). AreUnits x s.caches.items s.stop) (sym c.sources.view_is) c.self.invariant in
    let views = views_of_entries _ o.units.items s.caches.items (all_entries i) in
    let waits = waits_if_stored s.caches.items s.stop c.args.number (rw (sym c.self.view_is) at c.requires.waits) i.stop in
    let many = as_many_views o.dwarf.value o.units.items s.caches.items views in
    let within = waits_within s.caches.items c.args.number waits in
    omega (arith, many, within)

pub returns-in_err-load-clause-refused : goal.returns-in_err-load-clause-refused
returns-in_err-load-clause-refused g c =
    let s = c.self.inside in
    let o = c.sources.inside in
    let i = subst (λ (x : Scope). AreUnits x s.caches.items s.stop) (sym c.sources.view_is) c.self.invariant in
    let views = views_of_entries _ o.units.items s.caches.items (all_entries i) in
    let waits = waits_if_stored s.caches.items s.stop c.args.number (rw (sym c.self.view_is) at c.requires.waits) i.stop in
    let waiting = waiting_there o.dwarf.value o.units.items s.caches.items c.args.number c.index-dw_unit.result.now views waits (search rules) in
    let memory : c.in_err-load.field-0.0 ≡ OutOfMemory = refused_load _ _ _ _ _ waiting c.in_err-load.ensures.gives in
    grind (arith, common_steps)

pub unreachable-requires : goal.unreachable-requires
unreachable-requires g c =
    let s = c.self.inside in
    let o = c.sources.inside in
    let i = subst (λ (x : Scope). AreUnits x s.caches.items s.stop) (sym c.sources.view_is) c.self.invariant in
    let views = views_of_entries _ o.units.items s.caches.items (all_entries i) in
    let waits = waits_if_stored s.caches.items s.stop c.args.number (rw (sym c.self.view_is) at c.requires.waits) i.stop in
    let waiting = waiting_there o.dwarf.value o.units.items s.caches.items c.args.number c.index-dw_unit.result.now views waits (search rules) in
    let gives = rw c.in-None.is at c.in_ok-load.ensures.gives in
    open_has_load o.dwarf.value c.args.number c.index-dw_unit.result.now waiting gives

pub returns-clause-gives : goal.returns-clause-gives
returns-clause-gives g c =
    let s = c.self.inside in
    let o = c.sources.inside in
    let i = subst (λ (x : Scope). AreUnits x s.caches.items s.stop) (sym c.sources.view_is) c.self.invariant in
    let views = views_of_entries _ o.units.items s.caches.items (all_entries i) in
    let waits = waits_if_stored s.caches.items s.stop c.args.number (rw (sym c.self.view_is) at c.requires.waits) i.stop in
    let many = as_many_views o.dwarf.value o.units.items s.caches.items views in
    let within = waits_within s.caches.items c.args.number waits in
    let gives = rw c.in-Some.is at c.in_ok-load.ensures.gives in
    rw (sym c.self.view_is, sym c.sources.view_is) (load_there o.dwarf.value o.units.items c.args.number c.index-dw_unit.result.now (omega (arith, many, within)) (search rules) c.in-Some.load gives)
