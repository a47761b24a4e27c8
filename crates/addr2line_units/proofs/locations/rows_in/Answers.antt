use Rattle.addr2line_units.proofs.Common.{CachedUnit, ap, ltb-false, ltb-true, refl, sym, ◌∙◌, slice_get_past, slice_get_read, cached_spans, lines_at, lines_in_cache}
use Rattle.addr2line_units.proofs.locations.rows_in.Goals as goal

pub returns-in-Some : goal.returns-in-Some
returns-in-Some g c =
    let found = c.in-Some.ensures.lookup in
    let at = slice_get_read c.deref.result.now _ c.args.range.unit c.in-Some.cache.now refl (ltb-true _ _ (sym found.0)) found.1 in
    record { gives = c.rows_of.ensures.gives ∙ ap (λ (u : CachedUnit g.row.R.Denot). cached_spans c.args.range.range c.args.low c.args.high u.lines.lines) c.cache.view_is ∙ ap (λ u. cached_spans c.args.range.range c.args.low c.args.high (lines_in_cache u)) (sym at) ∙ ap (λ caches. cached_spans c.args.range.range c.args.low c.args.high (lines_at caches c.args.range.unit)) c.deref.ensures.value }

pub returns-in-None : goal.returns-in-None
returns-in-None g c =
    let found = c.in-None.ensures.lookup in
    let at = slice_get_past c.deref.result.now c.args.range.unit (ltb-false _ _ (sym found.0)) in
    record { gives = ap (λ u. cached_spans c.args.range.range c.args.low c.args.high (lines_in_cache u)) (sym at) ∙ ap (λ caches. cached_spans c.args.range.range c.args.low c.args.high (lines_at caches c.args.range.unit)) c.deref.ensures.value }
