use Rattle.addr2line_units.proofs.Common.{CachedUnit, None, Some, ap, refl, rules, sym, ◌∙◌, ◌≡◌, option_map, slice_get_read, location_of_row, as_stop, function_of_place, functions_at, language_at, cached_files, lines_at, lines_in_cache, location_found}
use Rattle.addr2line_units.specs.Common.{as_location}
use Rattle.addr2line_units.specs.declared.frames.FramesStop.TheVariants as stops
use Rattle.addr2line_units.proofs.LocationsWalkLemmas.{first_found}
use Rattle.addr2line_units.proofs.UnitsStateLemmas.{place_if_stored}
use Rattle.addr2line_units.proofs.units.Units.location.Goals as goal

pub returns-in_err-place : goal.returns-in_err-place
returns-in_err-place g c =
    let s = c.self.inside in
    let cs = s.caches.items in
    let p = c.in-Finds.place in
    let last : s.stop ≡ stops.Finds p = search rules in
    let none : c.from_residual.result ≡ None = search rules in
    let row : p.row ≡ None = search rules in
    let see = location_of_row (cached_files (lines_at cs p.unit)) in
    rw (sym c.self.view_is) (record {
      gives = ap (option_map as_location) none ∙ ap (option_map see) (sym row) ∙ sym (first_found (cached_files (lines_at cs p.unit)) (language_at cs p.unit) (option_map (function_of_place (functions_at cs p.unit)) p.function) (option_map see p.row))
          ∙ ap (λ l. location_found (as_stop cs l)) (sym last);
    })

pub returns : goal.returns
returns g c =
    let s = c.self.inside in
    let cs = s.caches.items in
    let p = c.in-Finds.place in
    let last : s.stop ≡ stops.Finds p = search rules in
    let row : p.row ≡ Some c.in_ok-place.field-0 = search rules in
    let within = (place_if_stored cs s.stop p last c.self.invariant.stop).unit in
    let at = slice_get_read cs _ p.unit c.index-cache.result.now refl within (search rules) in
    let see = location_of_row (cached_files (lines_at cs p.unit)) in
    rw (sym c.self.view_is) (record {
      gives = ap Some (c.location_of.ensures.gives ∙ ap (λ (u : CachedUnit g.row.R.Denot). location_of_row (cached_files u.lines.lines) c.in_ok-place.field-0) c.cache.view_is ∙ ap (λ u. location_of_row (cached_files (lines_in_cache u)) c.in_ok-place.field-0) (sym at)) ∙ ap (option_map see) (sym row)
          ∙ sym (first_found (cached_files (lines_at cs p.unit)) (language_at cs p.unit) (option_map (function_of_place (functions_at cs p.unit)) p.function) (option_map see p.row)) ∙ ap (λ l. location_found (as_stop cs l)) (sym last);
    })
