use Rattle.addr2line_units.proofs.Common.{◌<◌, some_at, subst, sym, as_stop}
use Rattle.addr2line_units.proofs.LoadsLemmas.{known_forget}
use Rattle.addr2line_units.proofs.UnitsNumberLemmas.{forgotten_there, kept_forgetting}
use Rattle.addr2line_units.proofs.UnitsAtLemmas.{counted_records, units_forgotten}
use Rattle.addr2line_units.proofs.units.Units.forget.Goals as goal

pub invariant_of-self-2 : goal.invariant_of-self-2
invariant_of-self-2 g c =
    let s = c.self.inside in
    let n = c.args.token.number in
    let unit = some_at s.sources.file.units n (subst (λ m. n < m) (counted_records _ c.len.ensures.gives) c.if-token-len.false) in
    let at = c.index_mut-cache.ensures.value in
    units_forgotten c.self.invariant n unit.1 at _ c.forget.ensures.after.lines c.forget.ensures.after.unit c.is_own.ensures.known

pub returns-clause-gives : goal.returns-clause-gives
returns-clause-gives g c =
    let s = c.self.inside in
    let n = c.args.token.number in
    let unit = some_at s.sources.file.units n (subst (λ m. n < m) (counted_records _ c.len.ensures.gives) c.if-token-len.false) in
    rw (sym c.self.view_is) (sym (known_forget s.sources.file.units n unit.0 unit.1))

pub returns-clause-after : goal.returns-clause-after
returns-clause-after g c =
    let s = c.self.inside in
    let n = c.args.token.number in
    let unit = some_at s.sources.file.units n (subst (λ m. n < m) (counted_records _ c.len.ensures.gives) c.if-token-len.false) in
    let at = c.index_mut-cache.ensures.value in
    rw (sym c.self.view_is) (forgotten_there c.self.invariant n unit.1 at _ c.forget.ensures.after.lines s.steps (as_stop s.caches.items s.stop)
    (kept_forgetting c.self.invariant n unit.1 at _ c.forget.ensures.after.lines c.forget.ensures.after))
