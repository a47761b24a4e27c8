use Rattle.addr2line_units.proofs.Common.{length, rules, subst, ◌≡◌, CountsUnits, as_stop}
use Rattle.addr2line_units.proofs.UnitsAtLemmas.{counts}
use Rattle.addr2line_units.proofs.units.Units.len.Goals as goal

pub returns : goal.returns
returns g c =
    let s = c.self.inside in
    let many : c.len.result ≡ length s.caches.items = search rules in
    record { gives = subst (CountsUnits c.len.result) c.self.view_is (counts c.self.invariant s.steps (as_stop s.caches.items s.stop) many) }
