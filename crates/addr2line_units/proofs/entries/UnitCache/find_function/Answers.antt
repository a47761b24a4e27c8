use Rattle.addr2line_units.proofs.Common.{◌≡◌, ◌∙◌, Err, None, Ok, Some, ap, false≢true, refl, subst, sym, err_from_is_err_and, as_scope, AreFunctionsOf, FunctionTable, LazyFunctions, cached_functions, were_read}
use Rattle.addr2line_units.specs.declared.entries.FunctionPlace.{FunctionPlace}
use Rattle.addr2line_units.specs.declared.entries.LazyFunctions.TheVariants as lazy
use Rattle.std.specs.Box.{with_value}
use Rattle.addr2line_lines.specs.CachedNames.{AreNamesIn}
use Rattle.addr2line_units.proofs.EntriesFindLemmas.{absent_after, absent_gives, cached_right, chain_after, chain_gives, detail_after, detail_gives, faulty_after, faulty_gives, nowhere_after, nowhere_gives, place_after, place_gives, uncached_after, uncached_gives}
use Rattle.addr2line_units.proofs.EntriesViewedLemmas.{faulty, viewed}
use Rattle.addr2line_units.proofs.entries.UnitCache.find_function.Goals as goal

pub returns-in_err-unit : goal.returns-in_err-unit
returns-in_err-unit g c =
    let p = err_from_is_err_and c.from_residual.result c.from_residual.ensures.1 in
    let is = faulty g.R.Reader.shares c.args.dw_unit.now c.sources.view_is c.self.view_is c.requires.unit c.self.invariant c.requires.decided c.deref.ensures c.in_err-unit.field-0.0 c.in_err-unit.ensures.gives in
    rw (p.1, p.2) (record { gives = λ ne. is.finds c.args.probe; after = is.found c.args.probe })

pub invariant_of-self : goal.invariant_of-self
invariant_of-self g c =
    let shares = g.R.Reader.shares in
    let s = c.self.inside in
    let x = c.in_ok-unit.unit.unit.now in
    let inner = as_scope c.scope_of-scope.result in
    let v = viewed shares c.args.dw_unit.now c.sources.view_is c.self.view_is c.requires.unit c.self.invariant c.requires.decided c.deref.ensures c.in_ok-unit.unit.dwarf.now x inner c.in_ok-unit.ensures.gives c.scope.ensures.gives c.scope_of-scope.ensures.gives in
    let old = s.entries.functions in
    let mid = c.cache.new.self in
    let cache = c.in_err-cache.ensures.after in
    let e = c.in_err-cache.field-0.0 in
    v.own mid (uncached_after shares inner x c.args.probe old mid e cache v.functions).functions

pub returns-in_err-cache : goal.returns-in_err-cache
returns-in_err-cache g c =
    let shares = g.R.Reader.shares in
    let s = c.self.inside in
    let x = c.in_ok-unit.unit.unit.now in
    let inner = as_scope c.scope_of-scope.result in
    let v = viewed shares c.args.dw_unit.now c.sources.view_is c.self.view_is c.requires.unit c.self.invariant c.requires.decided c.deref.ensures c.in_ok-unit.unit.dwarf.now x inner c.in_ok-unit.ensures.gives c.scope.ensures.gives c.scope_of-scope.ensures.gives in
    let old = s.entries.functions in
    let mid = c.cache.new.self in
    let cache = c.in_err-cache.ensures.after in
    let e = c.in_err-cache.field-0.0 in
    let p = err_from_is_err_and c.from_residual-in_err-cache.result c.from_residual-in_err-cache.ensures.1 in
    let done = v.found c.args.probe (Err e) mid (uncached_gives shares inner x c.args.probe old mid e cache) (uncached_after shares inner x c.args.probe old mid e cache v.functions) in
    rw (p.1, p.2) (record { gives = done.0; after = done.1 })

pub invariant_of-self-in-Faulty : goal.invariant_of-self-in-Faulty
invariant_of-self-in-Faulty g c =
    let shares = g.R.Reader.shares in
    let s = c.self.inside in
    let x = c.in_ok-unit.unit.unit.now in
    let inner = as_scope c.scope_of-scope.result in
    let v = viewed shares c.args.dw_unit.now c.sources.view_is c.self.view_is c.requires.unit c.self.invariant c.requires.decided c.deref.ensures c.in_ok-unit.unit.dwarf.now x inner c.in_ok-unit.ensures.gives c.scope.ensures.gives c.scope_of-scope.ensures.gives in
    let old = s.entries.functions in
    let mid = c.cache.new.self in
    let cache = c.in_ok-cache.ensures.after in
    let is = c.in-Faulty.is in
    v.own (lazy.Faulty c.in-Faulty.error) (faulty_after shares inner x c.args.probe old mid v.functions cache c.in-Faulty.error is).functions

pub returns-in-Faulty : goal.returns-in-Faulty
returns-in-Faulty g c =
    let shares = g.R.Reader.shares in
    let s = c.self.inside in
    let x = c.in_ok-unit.unit.unit.now in
    let inner = as_scope c.scope_of-scope.result in
    let v = viewed shares c.args.dw_unit.now c.sources.view_is c.self.view_is c.requires.unit c.self.invariant c.requires.decided c.deref.ensures c.in_ok-unit.unit.dwarf.now x inner c.in_ok-unit.ensures.gives c.scope.ensures.gives c.scope_of-scope.ensures.gives in
    let old = s.entries.functions in
    let mid = c.cache.new.self in
    let cache = c.in_ok-cache.ensures.after in
    let is = c.in-Faulty.is in
    let done = v.found c.args.probe (Err c.in-Faulty.error) (lazy.Faulty c.in-Faulty.error) (λ _. faulty_gives shares inner x c.args.probe old mid v.functions cache c.in-Faulty.error is) (faulty_after shares inner x c.args.probe old mid v.functions cache c.in-Faulty.error is) in
    record { gives = done.0; after = done.1 }

pub invariant_of-self-in-Absent : goal.invariant_of-self-in-Absent
invariant_of-self-in-Absent g c =
    let shares = g.R.Reader.shares in
    let s = c.self.inside in
    let x = c.in_ok-unit.unit.unit.now in
    let inner = as_scope c.scope_of-scope.result in
    let v = viewed shares c.args.dw_unit.now c.sources.view_is c.self.view_is c.requires.unit c.self.invariant c.requires.decided c.deref.ensures c.in_ok-unit.unit.dwarf.now x inner c.in_ok-unit.ensures.gives c.scope.ensures.gives c.scope_of-scope.ensures.gives in
    let old = s.entries.functions in
    let mid = c.cache.new.self in
    let cache = c.in_ok-cache.ensures.after in
    let is = c.in-Absent.is in
    v.own mid (absent_after shares inner x c.args.probe old mid v.functions cache is).functions

pub returns-in-Absent : goal.returns-in-Absent
returns-in-Absent g c =
    let shares = g.R.Reader.shares in
    let s = c.self.inside in
    let x = c.in_ok-unit.unit.unit.now in
    let inner = as_scope c.scope_of-scope.result in
    let v = viewed shares c.args.dw_unit.now c.sources.view_is c.self.view_is c.requires.unit c.self.invariant c.requires.decided c.deref.ensures c.in_ok-unit.unit.dwarf.now x inner c.in_ok-unit.ensures.gives c.scope.ensures.gives c.scope_of-scope.ensures.gives in
    let old = s.entries.functions in
    let mid = c.cache.new.self in
    let cache = c.in_ok-cache.ensures.after in
    let is = c.in-Absent.is in
    let done = v.found c.args.probe (Ok None) mid (absent_gives shares inner x c.args.probe old mid v.functions cache is) (absent_after shares inner x c.args.probe old mid v.functions cache is) in
    record { gives = done.0; after = done.1 }

pub invariant_of-self-in-Unread : goal.invariant_of-self-in-Unread
invariant_of-self-in-Unread g c =
    let cache = c.in_ok-cache.ensures.after in
    absurd (false≢true (sym (ap were_read c.in-Unread.is) ∙ cache.read))

pub returns-in-Unread : goal.returns-in-Unread
returns-in-Unread g c =
    let cache = c.in_ok-cache.ensures.after in
    absurd (false≢true (sym (ap were_read c.in-Unread.is) ∙ cache.read))

pub invariant_of-self-in_default : goal.invariant_of-self-in_default
invariant_of-self-in_default g c =
    let shares = g.R.Reader.shares in
    let s = c.self.inside in
    let x = c.in_ok-unit.unit.unit.now in
    let inner = as_scope c.scope_of-scope.result in
    let v = viewed shares c.args.dw_unit.now c.sources.view_is c.self.view_is c.requires.unit c.self.invariant c.requires.decided c.deref.ensures c.in_ok-unit.unit.dwarf.now x inner c.in_ok-unit.ensures.gives c.scope.ensures.gives c.scope_of-scope.ensures.gives in
    let old = s.entries.functions in
    let mid = c.cache.new.self in
    let cache = c.in_ok-cache.ensures.after in
    let t = c.in-Read.functions in
    let is = c.in-Read.is in
    let at = rw c.deref-2.ensures at c.in_default.ensures in
    v.own (lazy.Read t) (nowhere_after shares inner x c.args.probe old mid v.functions cache t is at.gives).functions

pub returns-in_default : goal.returns-in_default
returns-in_default g c =
    let shares = g.R.Reader.shares in
    let s = c.self.inside in
    let x = c.in_ok-unit.unit.unit.now in
    let inner = as_scope c.scope_of-scope.result in
    let v = viewed shares c.args.dw_unit.now c.sources.view_is c.self.view_is c.requires.unit c.self.invariant c.requires.decided c.deref.ensures c.in_ok-unit.unit.dwarf.now x inner c.in_ok-unit.ensures.gives c.scope.ensures.gives c.scope_of-scope.ensures.gives in
    let old = s.entries.functions in
    let mid = c.cache.new.self in
    let cache = c.in_ok-cache.ensures.after in
    let t = c.in-Read.functions in
    let is = c.in-Read.is in
    let at = rw c.deref-2.ensures at c.in_default.ensures in
    let done = v.found c.args.probe (Ok None) (lazy.Read t) (nowhere_gives shares inner x c.args.probe old mid v.functions cache t is at.found) (nowhere_after shares inner x c.args.probe old mid v.functions cache t is at.gives) in
    record { gives = done.0; after = done.1 }

pub invariant_of-self-in_err-read : goal.invariant_of-self-in_err-read
invariant_of-self-in_err-read g c =
    let shares = g.R.Reader.shares in
    let s = c.self.inside in
    let x = c.in_ok-unit.unit.unit.now in
    let inner = as_scope c.scope_of-scope.result in
    let v = viewed shares c.args.dw_unit.now c.sources.view_is c.self.view_is c.requires.unit c.self.invariant c.requires.decided c.deref.ensures c.in_ok-unit.unit.dwarf.now x inner c.in_ok-unit.ensures.gives c.scope.ensures.gives c.scope_of-scope.ensures.gives in
    let old = s.entries.functions in
    let mid = c.cache.new.self in
    let cache = c.in_ok-cache.ensures.after in
    let t = c.in-Read.functions in
    let is = c.in-Read.is in
    let at = rw c.deref-2.ensures at c.in-Some.ensures in
    let e = c.in_err-read.field-0.0 in
    let r = rw c.deref_mut.ensures.value at c.in_err-read.ensures in
    v.own (lazy.Read (with_value t c.read.new.self)) (detail_after shares inner x c.args.probe old mid v.functions cache t is c.in-Some.place (sym at.gives) at.found at.within c.read.new.self e r.after).functions

pub returns-in_err-read : goal.returns-in_err-read
returns-in_err-read g c =
    let shares = g.R.Reader.shares in
    let s = c.self.inside in
    let x = c.in_ok-unit.unit.unit.now in
    let inner = as_scope c.scope_of-scope.result in
    let v = viewed shares c.args.dw_unit.now c.sources.view_is c.self.view_is c.requires.unit c.self.invariant c.requires.decided c.deref.ensures c.in_ok-unit.unit.dwarf.now x inner c.in_ok-unit.ensures.gives c.scope.ensures.gives c.scope_of-scope.ensures.gives in
    let old = s.entries.functions in
    let mid = c.cache.new.self in
    let cache = c.in_ok-cache.ensures.after in
    let t = c.in-Read.functions in
    let is = c.in-Read.is in
    let at = rw c.deref-2.ensures at c.in-Some.ensures in
    let e = c.in_err-read.field-0.0 in
    let r = rw c.deref_mut.ensures.value at c.in_err-read.ensures in
    let p = err_from_is_err_and c.from_residual-in_err-read.result c.from_residual-in_err-read.ensures.1 in
    let done = v.found c.args.probe (Err e) (lazy.Read (with_value t c.read.new.self)) (detail_gives shares inner x c.args.probe old mid v.functions cache t is c.in-Some.place (sym at.gives) at.found at.within c.read.new.self e r.after) (detail_after shares inner x c.args.probe old mid v.functions cache t is c.in-Some.place (sym at.gives) at.found at.within c.read.new.self e r.after) in
    rw (p.1, p.2) (record { gives = done.0; after = done.1 })

pub invariant_of-self-in_err-inlined : goal.invariant_of-self-in_err-inlined
invariant_of-self-in_err-inlined g c =
    let shares = g.R.Reader.shares in
    let s = c.self.inside in
    let x = c.in_ok-unit.unit.unit.now in
    let inner = as_scope c.scope_of-scope.result in
    let v = viewed shares c.args.dw_unit.now c.sources.view_is c.self.view_is c.requires.unit c.self.invariant c.requires.decided c.deref.ensures c.in_ok-unit.unit.dwarf.now x inner c.in_ok-unit.ensures.gives c.scope.ensures.gives c.scope_of-scope.ensures.gives in
    let old = s.entries.functions in
    let mid = c.cache.new.self in
    let cache = c.in_ok-cache.ensures.after in
    let t = c.in-Read.functions in
    let is = c.in-Read.is in
    let at = rw c.deref-2.ensures at c.in-Some.ensures in
    let r = rw c.deref_mut.ensures.value at c.in_ok-read.ensures in
    let e = c.in_err-inlined.field-0.0 in
    let same : c.in-Read-functions.functions.value ≡ c.read.new.self = sym (ap (λ (f : LazyFunctions g.row.R.Denot). cached_functions f) c.in-Read-functions.is) in
    let chain = rw same at (rw c.deref-3.ensures at c.in_err-inlined.ensures.gives) in
    v.own (lazy.Read (with_value t c.read.new.self)) (chain_after shares inner x c.args.probe old mid v.functions cache t is c.in-Some.place (sym at.gives) at.found at.within c.read.new.self r.after e chain).functions

pub returns-in_err-inlined : goal.returns-in_err-inlined
returns-in_err-inlined g c =
    let shares = g.R.Reader.shares in
    let s = c.self.inside in
    let x = c.in_ok-unit.unit.unit.now in
    let inner = as_scope c.scope_of-scope.result in
    let v = viewed shares c.args.dw_unit.now c.sources.view_is c.self.view_is c.requires.unit c.self.invariant c.requires.decided c.deref.ensures c.in_ok-unit.unit.dwarf.now x inner c.in_ok-unit.ensures.gives c.scope.ensures.gives c.scope_of-scope.ensures.gives in
    let old = s.entries.functions in
    let mid = c.cache.new.self in
    let cache = c.in_ok-cache.ensures.after in
    let t = c.in-Read.functions in
    let is = c.in-Read.is in
    let at = rw c.deref-2.ensures at c.in-Some.ensures in
    let r = rw c.deref_mut.ensures.value at c.in_ok-read.ensures in
    let e = c.in_err-inlined.field-0.0 in
    let same : c.in-Read-functions.functions.value ≡ c.read.new.self = sym (ap (λ (f : LazyFunctions g.row.R.Denot). cached_functions f) c.in-Read-functions.is) in
    let chain = rw same at (rw c.deref-3.ensures at c.in_err-inlined.ensures.gives) in
    let p = err_from_is_err_and c.from_residual-in_err-inlined.result c.from_residual-in_err-inlined.ensures.1 in
    let done = v.found c.args.probe (Err e) (lazy.Read (with_value t c.read.new.self)) (chain_gives shares inner x c.args.probe old mid v.functions cache t is c.in-Some.place (sym at.gives) at.found at.within c.read.new.self r.after e chain) (chain_after shares inner x c.args.probe old mid v.functions cache t is c.in-Some.place (sym at.gives) at.found at.within c.read.new.self r.after e chain) in
    rw (p.1, p.2) (record { gives = done.0; after = done.1 })

pub invariant_of-self-2 : goal.invariant_of-self-2
invariant_of-self-2 g c =
    let shares = g.R.Reader.shares in
    let s = c.self.inside in
    let x = c.in_ok-unit.unit.unit.now in
    let inner = as_scope c.scope_of-scope.result in
    let v = viewed shares c.args.dw_unit.now c.sources.view_is c.self.view_is c.requires.unit c.self.invariant c.requires.decided c.deref.ensures c.in_ok-unit.unit.dwarf.now x inner c.in_ok-unit.ensures.gives c.scope.ensures.gives c.scope_of-scope.ensures.gives in
    let old = s.entries.functions in
    let mid = c.cache.new.self in
    let cache = c.in_ok-cache.ensures.after in
    let t = c.in-Read.functions in
    let is = c.in-Read.is in
    let at = rw c.deref-2.ensures at c.in-Some.ensures in
    let r = rw c.deref_mut.ensures.value at c.in_ok-read.ensures in
    let same : c.in-Read-functions.functions.value ≡ c.read.new.self = sym (ap (λ (f : LazyFunctions g.row.R.Denot). cached_functions f) c.in-Read-functions.is) in
    let chain = rw same at (rw c.deref-3.ensures at c.in_ok-inlined.ensures) in
    let found : FunctionPlace = record { place = c.in-Some.place; inlined = c.in_ok-inlined.inlined } in
    v.own (lazy.Read (with_value t c.read.new.self)) (place_after shares inner x c.args.probe old mid v.functions cache t is c.in-Some.place (sym at.gives) at.found at.within c.read.new.self r.after found refl chain.gives chain.within).functions

pub returns : goal.returns
returns g c =
    let shares = g.R.Reader.shares in
    let s = c.self.inside in
    let x = c.in_ok-unit.unit.unit.now in
    let inner = as_scope c.scope_of-scope.result in
    let v = viewed shares c.args.dw_unit.now c.sources.view_is c.self.view_is c.requires.unit c.self.invariant c.requires.decided c.deref.ensures c.in_ok-unit.unit.dwarf.now x inner c.in_ok-unit.ensures.gives c.scope.ensures.gives c.scope_of-scope.ensures.gives in
    let old = s.entries.functions in
    let mid = c.cache.new.self in
    let cache = c.in_ok-cache.ensures.after in
    let t = c.in-Read.functions in
    let is = c.in-Read.is in
    let at = rw c.deref-2.ensures at c.in-Some.ensures in
    let r = rw c.deref_mut.ensures.value at c.in_ok-read.ensures in
    let same : c.in-Read-functions.functions.value ≡ c.read.new.self = sym (ap (λ (f : LazyFunctions g.row.R.Denot). cached_functions f) c.in-Read-functions.is) in
    let chain = rw same at (rw c.deref-3.ensures at c.in_ok-inlined.ensures) in
    let found : FunctionPlace = record { place = c.in-Some.place; inlined = c.in_ok-inlined.inlined } in
    let done = v.found c.args.probe (Ok (Some found)) (lazy.Read (with_value t c.read.new.self)) (place_gives shares inner x c.args.probe old mid v.functions cache t is c.in-Some.place (sym at.gives) at.found at.within c.read.new.self r.after found refl chain.gives) (place_after shares inner x c.args.probe old mid v.functions cache t is c.in-Some.place (sym at.gives) at.found at.within c.read.new.self r.after found refl chain.gives chain.within) in
    record { gives = done.0; after = done.1 }

pub read-requires-clause-unit : goal.read-requires-clause-unit
read-requires-clause-unit g c =
    let shares = g.R.Reader.shares in
    let s = c.self.inside in
    let x = c.in_ok-unit.unit.unit.now in
    let inner = as_scope c.scope_of-scope.result in
    let v = viewed shares c.args.dw_unit.now c.sources.view_is c.self.view_is c.requires.unit c.self.invariant c.requires.decided c.deref.ensures c.in_ok-unit.unit.dwarf.now x inner c.in_ok-unit.ensures.gives c.scope.ensures.gives c.scope_of-scope.ensures.gives in
    let old = s.entries.functions in
    let mid = c.cache.new.self in
    let cache = c.in_ok-cache.ensures.after in
    subst (λ (t : FunctionTable). AreNamesIn inner x t.names) (sym c.deref_mut.ensures.value) (subst (AreFunctionsOf inner x) c.in-Read.is (cached_right shares inner x (Ok tt) old mid v.functions cache)).names
