use Rattle.addr2line_units.proofs.Common.{sym, ◌∙◌, ranges_left}
use Rattle.addr2line_units.proofs.UnitsCachedLemmas.{lines_right}
use Rattle.addr2line_units.proofs.UnitsStateLemmas.{spans_cached}
use Rattle.addr2line_units.proofs.units.Units.find_location_range.Goals as goal

pub returns : goal.returns
returns g c =
    let s = c.self.inside in
    let parsed = rw (sym c.self.view_is) at c.requires.parsed in
    rw (sym c.self.view_is) (record {
      gives = c.new.ensures.gives ∙ sym (spans_cached s.sources.file.sections c.args.low c.args.high s.sources.file.units s.caches.items (ranges_left c.args.ranges) (lines_right s.sources s.sources.file.units s.caches.items c.self.invariant.caches) parsed);
    })
