use Rattle.addr2line_units.proofs.Common.{subst, sym, ◌∙◌, ◌≡◌, true, false, err_from_is_err_and, waits}
use Rattle.addr2line_units.specs.EntriesOwn.{AreOwnEntries, CachedUnit, looked_at_unit}
use Rattle.addr2line_units.proofs.EntriesLemmas.{checked_keeps}
use Rattle.addr2line_units.proofs.EntriesFrameLemmas.{here_after, here_gives, no_function_after, no_function_gives, no_lines_after, no_lines_gives, waits_after, waits_gives}
use Rattle.addr2line_units.proofs.EntriesOwnLemmas.{of_unit_looked_at, own_entries}
use Rattle.addr2line_units.proofs.UnitsAtLemmas.{sections_seen}
use Rattle.addr2line_units.proofs.entries.UnitCache.find_frames.Goals as goal

pub returns-then-is_open-clause-gives : goal.returns-then-is_open-clause-gives
returns-then-is_open-clause-gives g c =
    let shares = g.R.Reader.shares in
    let S = c.args.sources.now in
    let u = c.args.dw_unit.now in
    let was = c.args.self.now in
    let mid = c.check_split.new.self in
    let looked = c.check_split.ensures.after in
    let own = subst (λ (k : CachedUnit g.row.R.Denot). AreOwnEntries k.unit k.entries) c.self.view_is c.self.invariant in
    let check = checked_keeps S u was.entries mid.entries (own_entries S u mid (of_unit_looked_at S u mid looked.unit) own) looked.entries in
    let waiting = subst (λ (k : CachedUnit g.row.R.Denot). waits k.entries.view.state ≡ true) c.self.view_is (sym c.is_open.ensures.gives ∙ c.if-is_open.true) in
    waits_gives shares S u c.args.probe was mid looked check waiting

pub returns-then-is_open-clause-after : goal.returns-then-is_open-clause-after
returns-then-is_open-clause-after g c =
    let shares = g.R.Reader.shares in
    let S = c.args.sources.now in
    let u = c.args.dw_unit.now in
    let was = c.args.self.now in
    let mid = c.check_split.new.self in
    let looked = c.check_split.ensures.after in
    let own = subst (λ (k : CachedUnit g.row.R.Denot). AreOwnEntries k.unit k.entries) c.self.view_is c.self.invariant in
    let check = checked_keeps S u was.entries mid.entries (own_entries S u mid (of_unit_looked_at S u mid looked.unit) own) looked.entries in
    let waiting = subst (λ (k : CachedUnit g.row.R.Denot). waits k.entries.view.state ≡ true) c.self.view_is (sym c.is_open.ensures.gives ∙ c.if-is_open.true) in
    waits_after shares S u c.args.probe was mid looked check waiting c.args.steps.now

pub returns-in_err-function-clause-gives : goal.returns-in_err-function-clause-gives
returns-in_err-function-clause-gives g c =
    let shares = g.R.Reader.shares in
    let S = c.args.sources.now in
    let u = c.args.dw_unit.now in
    let was = c.args.self.now in
    let mid = c.check_split.new.self in
    let looked = c.check_split.ensures.after in
    let own = subst (λ (k : CachedUnit g.row.R.Denot). AreOwnEntries k.unit k.entries) c.self.view_is c.self.invariant in
    let check = checked_keeps S u was.entries mid.entries (own_entries S u mid (of_unit_looked_at S u mid looked.unit) own) looked.entries in
    let shut = subst (λ (k : CachedUnit g.row.R.Denot). waits k.entries.view.state ≡ false) c.self.view_is (sym c.is_open.ensures.gives ∙ c.if-is_open.false) in
    let p = err_from_is_err_and c.from_residual.result c.from_residual.ensures.1 in
    let e = c.in_err-function.ensures in
    rw (p.1, p.2) (no_function_gives shares S u c.args.probe was mid looked check shut c.find_function.new.self c.in_err-function.field-0.0 e.after e.gives)

pub returns-in_err-function-clause-after : goal.returns-in_err-function-clause-after
returns-in_err-function-clause-after g c =
    let shares = g.R.Reader.shares in
    let S = c.args.sources.now in
    let u = c.args.dw_unit.now in
    let was = c.args.self.now in
    let mid = c.check_split.new.self in
    let looked = c.check_split.ensures.after in
    let own = subst (λ (k : CachedUnit g.row.R.Denot). AreOwnEntries k.unit k.entries) c.self.view_is c.self.invariant in
    let check = checked_keeps S u was.entries mid.entries (own_entries S u mid (of_unit_looked_at S u mid looked.unit) own) looked.entries in
    let shut = subst (λ (k : CachedUnit g.row.R.Denot). waits k.entries.view.state ≡ false) c.self.view_is (sym c.is_open.ensures.gives ∙ c.if-is_open.false) in
    let p = err_from_is_err_and c.from_residual.result c.from_residual.ensures.1 in
    let e = c.in_err-function.ensures in
    rw (p.1, p.2) (no_function_after shares S u c.args.probe was mid looked check shut c.find_function.new.self c.in_err-function.field-0.0 e.after e.gives c.args.steps.now)

pub returns-in_err-row-clause-gives : goal.returns-in_err-row-clause-gives
returns-in_err-row-clause-gives g c =
    let shares = g.R.Reader.shares in
    let S = c.args.sources.now in
    let u = c.args.dw_unit.now in
    let was = c.args.self.now in
    let mid = c.check_split.new.self in
    let looked = c.check_split.ensures.after in
    let own = subst (λ (k : CachedUnit g.row.R.Denot). AreOwnEntries k.unit k.entries) c.self.view_is c.self.invariant in
    let check = checked_keeps S u was.entries mid.entries (own_entries S u mid (of_unit_looked_at S u mid looked.unit) own) looked.entries in
    let shut = subst (λ (k : CachedUnit g.row.R.Denot). waits k.entries.view.state ≡ false) c.self.view_is (sym c.is_open.ensures.gives ∙ c.if-is_open.false) in
    let k : CachedUnit g.row.R.Denot = record { lines = c.self-2.inside.lines; entries = c.self-2.inside.entries; unit = looked_at_unit c.self-2.inside.unit.value } in
    let f = rw (sym c.self-2.view_is) at c.in_ok-function.ensures in
    let p = err_from_is_err_and c.from_residual-in_err-row.result c.from_residual-in_err-row.ensures.1 in
    let e = rw (c.deref.ensures ∙ sections_seen c.sources.view_is) at c.in_err-row.ensures in
    rw (p.1, p.2) (no_lines_gives shares S u c.args.probe was mid looked check shut k c.in_ok-function.function f.after f.gives c.find_row.new.self c.in_err-row.field-0.0 e.after.lines e.gives)

pub returns-in_err-row-clause-after : goal.returns-in_err-row-clause-after
returns-in_err-row-clause-after g c =
    let shares = g.R.Reader.shares in
    let S = c.args.sources.now in
    let u = c.args.dw_unit.now in
    let was = c.args.self.now in
    let mid = c.check_split.new.self in
    let looked = c.check_split.ensures.after in
    let own = subst (λ (k : CachedUnit g.row.R.Denot). AreOwnEntries k.unit k.entries) c.self.view_is c.self.invariant in
    let check = checked_keeps S u was.entries mid.entries (own_entries S u mid (of_unit_looked_at S u mid looked.unit) own) looked.entries in
    let shut = subst (λ (k : CachedUnit g.row.R.Denot). waits k.entries.view.state ≡ false) c.self.view_is (sym c.is_open.ensures.gives ∙ c.if-is_open.false) in
    let k : CachedUnit g.row.R.Denot = record { lines = c.self-2.inside.lines; entries = c.self-2.inside.entries; unit = looked_at_unit c.self-2.inside.unit.value } in
    let f = rw (sym c.self-2.view_is) at c.in_ok-function.ensures in
    let p = err_from_is_err_and c.from_residual-in_err-row.result c.from_residual-in_err-row.ensures.1 in
    let e = rw (c.deref.ensures ∙ sections_seen c.sources.view_is) at c.in_err-row.ensures in
    rw (p.1, p.2) (no_lines_after shares S u c.args.probe was mid looked check shut k c.in_ok-function.function f.after f.gives c.find_row.new.self c.in_err-row.field-0.0 e.after.lines e.gives e.after.steps.raised)

pub returns-clause-gives : goal.returns-clause-gives
returns-clause-gives g c =
    let shares = g.R.Reader.shares in
    let S = c.args.sources.now in
    let u = c.args.dw_unit.now in
    let was = c.args.self.now in
    let mid = c.check_split.new.self in
    let looked = c.check_split.ensures.after in
    let own = subst (λ (k : CachedUnit g.row.R.Denot). AreOwnEntries k.unit k.entries) c.self.view_is c.self.invariant in
    let check = checked_keeps S u was.entries mid.entries (own_entries S u mid (of_unit_looked_at S u mid looked.unit) own) looked.entries in
    let shut = subst (λ (k : CachedUnit g.row.R.Denot). waits k.entries.view.state ≡ false) c.self.view_is (sym c.is_open.ensures.gives ∙ c.if-is_open.false) in
    let k : CachedUnit g.row.R.Denot = record { lines = c.self-2.inside.lines; entries = c.self-2.inside.entries; unit = looked_at_unit c.self-2.inside.unit.value } in
    let f = rw (sym c.self-2.view_is) at c.in_ok-function.ensures in
    let e = rw (c.deref.ensures ∙ sections_seen c.sources.view_is) at c.in_ok-row.ensures in
    here_gives shares S u c.args.probe was mid looked check shut k c.in_ok-function.function f.after f.gives c.find_row.new.self c.in_ok-row.row e.after.lines e.gives

pub returns-clause-after : goal.returns-clause-after
returns-clause-after g c =
    let shares = g.R.Reader.shares in
    let S = c.args.sources.now in
    let u = c.args.dw_unit.now in
    let was = c.args.self.now in
    let mid = c.check_split.new.self in
    let looked = c.check_split.ensures.after in
    let own = subst (λ (k : CachedUnit g.row.R.Denot). AreOwnEntries k.unit k.entries) c.self.view_is c.self.invariant in
    let check = checked_keeps S u was.entries mid.entries (own_entries S u mid (of_unit_looked_at S u mid looked.unit) own) looked.entries in
    let shut = subst (λ (k : CachedUnit g.row.R.Denot). waits k.entries.view.state ≡ false) c.self.view_is (sym c.is_open.ensures.gives ∙ c.if-is_open.false) in
    let k : CachedUnit g.row.R.Denot = record { lines = c.self-2.inside.lines; entries = c.self-2.inside.entries; unit = looked_at_unit c.self-2.inside.unit.value } in
    let f = rw (sym c.self-2.view_is) at c.in_ok-function.ensures in
    let e = rw (c.deref.ensures ∙ sections_seen c.sources.view_is) at c.in_ok-row.ensures in
    here_after shares S u c.args.probe was mid looked check shut k c.in_ok-function.function f.after f.gives c.find_row.new.self c.in_ok-row.row e.after.lines e.gives e.after.steps.raised
