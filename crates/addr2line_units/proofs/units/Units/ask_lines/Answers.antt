use Rattle.addr2line_units.proofs.Common.{CachedUnit, get_or, Err, Ok, Option, Some, arith, refl, subst, sym, ◌∙◌, ◌≡◌, ◌≢◌, OutOfMemory, err_from_is_err_and, false, option_map, location_of_row, lines_take_memory, as_stop, cached_files, indexed_unit, location_in, row_stop, stop_at, set, FindsNothing}
use Rattle.addr2line_lines.specs.declared.row.Row.{Row}
use Rattle.addr2line_units.specs.UnitAfter.{AfterLinesOf}
use Rattle.addr2line_units.specs.EntriesOwn.{looked_at_unit}
use Rattle.addr2line_units.specs.UnitLinesCached.{location_or}
use Rattle.addr2line_units.specs.declared.frames.Asks.TheVariants as lookups
use Rattle.addr2line_units.proofs.LocationsAtLemmas.{fault_after, none_after_row, none_row, row_after, row_fault, row_lendable, row_told}
use Rattle.addr2line_units.proofs.UnitLinesLemmas.{lines_fault, lines_follow, location_is, memory_after, no_memory_after, own_after, steps_are}
use Rattle.addr2line_units.proofs.UnitsAtLemmas.{cache_within, its_entries, its_lines, its_unit, none_got, sections_seen, unit_got, units_with, units_with_lines}
use Rattle.addr2line_units.proofs.units.Units.ask_lines.Goals as goal

pub returns-in_default : goal.returns-in_default
returns-in_default g c =
    let s = c.self.inside in
    let i = c.self.invariant in
    let was = as_stop s.caches.items s.stop in
    let none = none_got c.scope-scope.ensures.gives c.as_slice.ensures.gives c.args.number c.in_default.ensures.lookup.0 in
    record {
      gives = subst (λ y. stop_at lookups.Location c.args.probe y c.args.number ≡ Ok FindsNothing) c.self.view_is (none_row i c.args.number s.steps was none c.args.probe);
      after = rw (sym c.self.view_is) (none_after_row i c.args.number s.steps was none g.R.Reader.shares c.args.probe);
    }

pub index_mut-cache-requires : goal.index_mut-cache-requires
index_mut-cache-requires g c =
    let within = cache_within c.self.invariant c.args.number (unit_got c.scope-scope.ensures.gives c.as_slice.ensures.gives c.args.number c.in-Some.ensures.lookup.0 c.in-Some.ensures.lookup.1) in
    omega (arith, within)

pub invariant_of-self-in_err-row : goal.invariant_of-self-in_err-row
invariant_of-self-in_err-row g c =
    let i = c.self.invariant in
    let n = c.args.number in
    let there = unit_got c.scope-scope.ensures.gives c.as_slice.ensures.gives n c.in-Some.ensures.lookup.0 c.in-Some.ensures.lookup.1 in
    let v : CachedUnit g.row.R.Denot = record { lines = c.cache.inside.lines; entries = c.cache.inside.entries; unit = looked_at_unit c.cache.inside.unit.value } in
    let at = subst (λ (y : CachedUnit g.row.R.Denot). y ≡ get_or c.self.inside.caches.items c.args.number y) (sym c.cache.view_is) c.index_mut-cache.ensures.value in
    let a = lines_follow (subst (λ d. AfterLinesOf g.R.Reader.shares d c.in-Some.dw_unit.now c.find_row.result v.lines c.find_row.new.self) (sections_seen c.scope-scope.ensures.gives) c.find_row.ensures.after.lines) in
    units_with_lines i n there at _ (own_after (its_lines i n there at) a) refl refl

pub returns-in_err-row : goal.returns-in_err-row
returns-in_err-row g c =
    let s = c.self.inside in
    let n = c.args.number in
    let i = c.self.invariant in
    let was = as_stop s.caches.items s.stop in
    let there = unit_got c.scope-scope.ensures.gives c.as_slice.ensures.gives c.args.number c.in-Some.ensures.lookup.0 c.in-Some.ensures.lookup.1 in
    let v : CachedUnit g.row.R.Denot = record { lines = c.cache.inside.lines; entries = c.cache.inside.entries; unit = looked_at_unit c.cache.inside.unit.value } in
    let at = subst (λ (y : CachedUnit g.row.R.Denot). y ≡ get_or c.self.inside.caches.items c.args.number y) (sym c.cache.view_is) c.index_mut-cache.ensures.value in
    let u = c.in-Some.dw_unit.now in
    let l = c.find_row.new.self in
    let is = sections_seen c.scope-scope.ensures.gives in
    let p = err_from_is_err_and c.from_residual.result c.from_residual.ensures.1 in
    let e = c.in_err-row.ensures in
    let x = c.in_err-row.field-0.0 in
    let d = s.sources.file.sections in
    let unit = indexed_unit u v.lines in
    let own = its_lines i n there at in
    let a = lines_follow (subst (λ d. AfterLinesOf {X = Option Row} g.R.Reader.shares d u (Err x) v.lines l) is e.after.lines) in
    let fault : (x ≢ OutOfMemory → location_in d c.args.probe (Some unit) ≡ Err x) = (λ ne. sym (location_is d unit v.lines.lines own c.args.probe) ∙ subst (λ d. location_or d u c.args.probe v.lines.lines ≡ Err x) is (e.gives ne)) in
    let counts = steps_are d unit l.lines (own_after own a) e.after.steps in
    let alone : (lines_take_memory g.R.Reader.shares u ≡ false → location_in d c.args.probe (Some unit) ≡ Err x) = (λ takes. lines_fault d c.args.probe unit x (no_memory_after own a takes)) in
    rw (p.1, p.2) (record {
      gives = λ ne. subst (λ y. stop_at lookups.Location c.args.probe y n ≡ Err x) c.self.view_is (row_fault i n s.steps was there at l a.stay c.args.probe x (fault ne));
      after = rw (sym c.self.view_is) (fault_after i n s.steps was there at l a.stay g.R.Reader.shares (Err x) c.find_row.new.steps a.known (memory_after own a) counts c.args.probe x refl fault alone);
    })

pub invariant_of-self-2 : goal.invariant_of-self-2
invariant_of-self-2 g c =
    let s = c.self.inside in
    let n = c.args.number in
    let i = c.self.invariant in
    let was = as_stop s.caches.items s.stop in
    let there = unit_got c.scope-scope.ensures.gives c.as_slice.ensures.gives c.args.number c.in-Some.ensures.lookup.0 c.in-Some.ensures.lookup.1 in
    let v : CachedUnit g.row.R.Denot = record { lines = c.cache.inside.lines; entries = c.cache.inside.entries; unit = looked_at_unit c.cache.inside.unit.value } in
    let at = subst (λ (y : CachedUnit g.row.R.Denot). y ≡ get_or c.self.inside.caches.items c.args.number y) (sym c.cache.view_is) c.index_mut-cache.ensures.value in
    let u = c.in-Some.dw_unit.now in
    let l = c.find_row.new.self in
    let is = sections_seen c.scope-scope.ensures.gives in
    let e = c.in_ok-row.ensures in
    let row = c.in_ok-row.row in
    let d = s.sources.file.sections in
    let own = its_lines i n there at in
    let a = lines_follow (subst (λ d. AfterLinesOf g.R.Reader.shares d u (Ok row) v.lines l) is e.after.lines) in
    let found = sym (location_is d (indexed_unit u v.lines) v.lines.lines own c.args.probe) ∙ subst (λ d. location_or d u c.args.probe v.lines.lines ≡ Ok (option_map (location_of_row (cached_files l.lines)) row)) is e.gives in
    let right = own_after own a in
    rw c.row_stop.ensures.gives (units_with i n there (record v { lines = l }) (record { lines = right; entries = its_entries i n there at; unit = its_unit i n there at }) (row_lendable i n s.steps was there at l a.stay c.args.probe row right a.known found))

pub returns : goal.returns
returns g c =
    let s = c.self.inside in
    let n = c.args.number in
    let i = c.self.invariant in
    let was = as_stop s.caches.items s.stop in
    let there = unit_got c.scope-scope.ensures.gives c.as_slice.ensures.gives c.args.number c.in-Some.ensures.lookup.0 c.in-Some.ensures.lookup.1 in
    let v : CachedUnit g.row.R.Denot = record { lines = c.cache.inside.lines; entries = c.cache.inside.entries; unit = looked_at_unit c.cache.inside.unit.value } in
    let at = subst (λ (y : CachedUnit g.row.R.Denot). y ≡ get_or c.self.inside.caches.items c.args.number y) (sym c.cache.view_is) c.index_mut-cache.ensures.value in
    let u = c.in-Some.dw_unit.now in
    let l = c.find_row.new.self in
    let is = sections_seen c.scope-scope.ensures.gives in
    let e = c.in_ok-row.ensures in
    let row = c.in_ok-row.row in
    let d = s.sources.file.sections in
    let unit = indexed_unit u v.lines in
    let own = its_lines i n there at in
    let a = lines_follow (subst (λ d. AfterLinesOf g.R.Reader.shares d u (Ok row) v.lines l) is e.after.lines) in
    let found = sym (location_is d unit v.lines.lines own c.args.probe) ∙ subst (λ d. location_or d u c.args.probe v.lines.lines ≡ Ok (option_map (location_of_row (cached_files l.lines)) row)) is e.gives in
    let counts = steps_are d unit l.lines (own_after own a) e.after.steps in
    rw c.row_stop.ensures.gives (record {
      gives = subst (λ y. stop_at lookups.Location c.args.probe y n ≡ Ok (as_stop (set s.caches.items n (record v { lines = l })) (row_stop n row))) c.self.view_is (row_told i n s.steps was there at l a.stay c.args.probe row found);
      after = rw (sym c.self.view_is) (row_after i n s.steps was there at l a.stay g.R.Reader.shares (Ok row) c.find_row.new.steps a.known (memory_after own a) counts c.args.probe row refl);
    })
