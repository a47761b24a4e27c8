use Rattle.addr2line_units.proofs.Common.{Some, ap, subst, sym, ◌∙◌}
use Rattle.addr2line_units.specs.UnitAfter.{AfterCheck}
use Rattle.addr2line_units.specs.EntriesOwn.{looked_at_unit}
use Rattle.addr2line_units.specs.UnitsCached.{AreOfUnit}
use Rattle.addr2line_units.proofs.EntriesLemmas.{keeps_checked}
use Rattle.addr2line_units.proofs.EntriesOwnLemmas.{own_entries, own_then}
use Rattle.addr2line_units.proofs.UnitsAtLemmas.{sections_seen}
use Rattle.addr2line_units.proofs.entries.UnitCache.check_split.Goals as goal

pub invariant_of-self : goal.invariant_of-self
invariant_of-self g c =
    let s = c.self.inside in
    let scope = c.args.sources.now in
    let u = c.args.dw_unit.now in
    let of_unit = subst (AreOfUnit scope u) (sym c.self.view_is) c.requires.unit in
    let own = own_entries scope u (record { lines = s.lines; entries = s.entries; unit = looked_at_unit s.unit.value }) of_unit c.self.invariant in
    let after = subst (λ d. AfterCheck d u s.entries c.check_split.new.self) (c.deref.ensures ∙ sections_seen c.sources.view_is) c.check_split.ensures.after in
    let is = ap looked_at_unit c.of-2.ensures ∙ ap (λ x. Some (record { scope = x; unit = c.of.result.value })) c.of-sources.ensures ∙ ap (λ x. Some (record { scope = scope; unit = x })) c.of.ensures in
    own_then scope u (looked_at_unit c.of-2.result.value) c.check_split.new.self is (keeps_checked scope u s.entries c.check_split.new.self own after).entries
