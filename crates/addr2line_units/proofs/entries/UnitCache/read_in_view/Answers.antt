use Rattle.addr2line_units.proofs.Common.{were_read, cached_fault, LazyFunctions, ◌≡◌, ◌∙◌, refl, ap, sym, subst, Ok, Err, err_from_is_err_and, as_scope, FunctionTable, Result, Error, ExactlyUnlessOom, ExactlyUnlessOomIf, ReadingDepth, all_read_once, functions_fault, read_of_functions, reading_takes_memory, false≢true, on_ok_weaker}
use Rattle.addr2line_units.specs.declared.parses.ReadingDepth.TheVariants as depths
use Rattle.addr2line_units.specs.declared.entries.LazyFunctions.TheVariants as lazy
use Rattle.std.specs.Box.{with_value}
use Rattle.addr2line_lines.specs.CachedNames.{AreNamesIn}
use Rattle.addr2line_lines.proofs.ReadLemmas.{first_fault_is, own_right, read_in_turn}
use Rattle.addr2line_units.proofs.EntriesFunctionLemmas.{exactly_weaker, fault_is, reading_before, stay_read, table_more}
use Rattle.addr2line_units.proofs.EntriesKnownTableLemmas.{to_fault_cached, to_fault_known}
use Rattle.addr2line_units.proofs.EntriesLemmas.{exactly_unless_oom}
use Rattle.addr2line_units.proofs.LoadsLemmas.{exactly_this}
use Rattle.addr2line_units.proofs.EntriesViewedLemmas.{faulty, viewed}
use Rattle.addr2line_units.proofs.EntriesKeeps.{KeepsReadFunctions}
use Rattle.addr2line_units.proofs.ParsesAfterLemmas.{details_after}
use Rattle.addr2line_units.proofs.ParsesReadyLemmas.{had_not_oom, not_oom, ready_same, ready_then}
use Rattle.addr2line_units.proofs.ParsesViewLemmas.{faulty_after, faulty_gives, kept_by_cache, none_after, none_gives, reads_details, mid_after, mid_gives, now_right, table_now, unread_after, unread_gives}
use Rattle.addr2line_units.proofs.entries.UnitCache.read_in_view.Goals.{in-Functions, in_default}
use Rattle.addr2line_units.proofs.entries.UnitCache.read_in_view.Goals as goal

pub returns-in_err-unit : goal.returns-in_err-unit
returns-in_err-unit g c =
    let p = err_from_is_err_and c.from_residual.result c.from_residual.ensures.1 in
    let is = faulty g.R.Reader.shares c.args.dw_unit.now c.sources.view_is c.self.view_is c.requires.unit c.self.invariant c.requires.decided c.deref.ensures c.in_err-unit.field-0.0 c.in_err-unit.ensures.gives in
    rw (p.1, p.2) (record { gives = λ ne. is.reads c.args.depth; after = is.read c.args.depth })

pub invariant_of-self : goal.invariant_of-self
invariant_of-self g c =
    let s = c.self.inside in
    let x = c.in_ok-unit.unit.unit.now in
    let inner = as_scope c.scope_of-scope.result in
    let v = viewed g.R.Reader.shares c.args.dw_unit.now c.sources.view_is c.self.view_is c.requires.unit c.self.invariant c.requires.decided c.deref.ensures c.in_ok-unit.unit.dwarf.now x inner c.in_ok-unit.ensures.gives c.scope.ensures.gives c.scope_of-scope.ensures.gives in
    let keeps = unread_after g.R.Reader.shares inner x s.entries.functions c.cache.new.self v.functions c.args.depth c.in_err-cache.field-0.0 c.in_err-cache.ensures.after in
    v.own c.cache.new.self keeps.functions

pub returns-in_err-cache : goal.returns-in_err-cache
returns-in_err-cache g c =
    let p = err_from_is_err_and c.from_residual-in_err-cache.result c.from_residual-in_err-cache.ensures.1 in
    let s = c.self.inside in
    let x = c.in_ok-unit.unit.unit.now in
    let inner = as_scope c.scope_of-scope.result in
    let v = viewed g.R.Reader.shares c.args.dw_unit.now c.sources.view_is c.self.view_is c.requires.unit c.self.invariant c.requires.decided c.deref.ensures c.in_ok-unit.unit.dwarf.now x inner c.in_ok-unit.ensures.gives c.scope.ensures.gives c.scope_of-scope.ensures.gives in
    let e = c.in_err-cache.field-0.0 in
    rw (p.1, p.2) (record {
      gives = v.gives c.args.depth (Err e) (unread_gives g.R.Reader.shares inner x s.entries.functions c.cache.new.self v.functions c.args.depth e c.in_err-cache.ensures.after);
      after = v.after c.args.depth (Err e) c.cache.new.self (unread_after g.R.Reader.shares inner x s.entries.functions c.cache.new.self v.functions c.args.depth e c.in_err-cache.ensures.after);
    })

pub invariant_of-self-in-Faulty : goal.invariant_of-self-in-Faulty
invariant_of-self-in-Faulty g c =
    let s = c.self.inside in
    let x = c.in_ok-unit.unit.unit.now in
    let inner = as_scope c.scope_of-scope.result in
    let v = viewed g.R.Reader.shares c.args.dw_unit.now c.sources.view_is c.self.view_is c.requires.unit c.self.invariant c.requires.decided c.deref.ensures c.in_ok-unit.unit.dwarf.now x inner c.in_ok-unit.ensures.gives c.scope.ensures.gives c.scope_of-scope.ensures.gives in
    let keeps = faulty_after g.R.Reader.shares inner x s.entries.functions c.cache.new.self v.functions c.in_ok-cache.ensures.after c.in-Faulty.error c.in-Faulty.is c.args.depth in
    v.own (lazy.Faulty c.in-Faulty.error) keeps.functions

pub returns-in-Faulty : goal.returns-in-Faulty
returns-in-Faulty g c =
    let s = c.self.inside in
    let x = c.in_ok-unit.unit.unit.now in
    let inner = as_scope c.scope_of-scope.result in
    let v = viewed g.R.Reader.shares c.args.dw_unit.now c.sources.view_is c.self.view_is c.requires.unit c.self.invariant c.requires.decided c.deref.ensures c.in_ok-unit.unit.dwarf.now x inner c.in_ok-unit.ensures.gives c.scope.ensures.gives c.scope_of-scope.ensures.gives in
    let e = c.in-Faulty.error in
    record {
      gives = v.gives c.args.depth (Err e) (λ ne. faulty_gives g.R.Reader.shares inner x s.entries.functions c.cache.new.self v.functions c.in_ok-cache.ensures.after e c.in-Faulty.is c.args.depth);
      after = v.after c.args.depth (Err e) (lazy.Faulty e) (faulty_after g.R.Reader.shares inner x s.entries.functions c.cache.new.self v.functions c.in_ok-cache.ensures.after e c.in-Faulty.is c.args.depth);
    }

pub invariant_of-self-in-Absent : goal.invariant_of-self-in-Absent
invariant_of-self-in-Absent g c =
    let s = c.self.inside in
    let x = c.in_ok-unit.unit.unit.now in
    let inner = as_scope c.scope_of-scope.result in
    let v = viewed g.R.Reader.shares c.args.dw_unit.now c.sources.view_is c.self.view_is c.requires.unit c.self.invariant c.requires.decided c.deref.ensures c.in_ok-unit.unit.dwarf.now x inner c.in_ok-unit.ensures.gives c.scope.ensures.gives c.scope_of-scope.ensures.gives in
    v.own c.cache.new.self (now_right g.R.Reader.shares inner x s.entries.functions c.cache.new.self v.functions c.in_ok-cache.ensures.after)

pub returns-in-Absent : goal.returns-in-Absent
returns-in-Absent g c =
    let s = c.self.inside in
    let x = c.in_ok-unit.unit.unit.now in
    let inner = as_scope c.scope_of-scope.result in
    let v = viewed g.R.Reader.shares c.args.dw_unit.now c.sources.view_is c.self.view_is c.requires.unit c.self.invariant c.requires.decided c.deref.ensures c.in_ok-unit.unit.dwarf.now x inner c.in_ok-unit.ensures.gives c.scope.ensures.gives c.scope_of-scope.ensures.gives in
    record {
      gives = v.gives c.args.depth (Ok tt) (none_gives g.R.Reader.shares inner x s.entries.functions c.cache.new.self v.functions c.in_ok-cache.ensures.after c.in-Absent.is c.args.depth);
      after = v.after c.args.depth (Ok tt) c.cache.new.self (subst (λ (f : LazyFunctions g.row.R.Denot). KeepsReadFunctions g.R.Reader.shares c.args.depth inner x (Ok tt) s.entries.functions f) (sym c.in-Absent.is) (none_after g.R.Reader.shares inner x s.entries.functions c.cache.new.self v.functions c.in_ok-cache.ensures.after c.in-Absent.is c.args.depth));
    }

pub invariant_of-self-in-Unread : goal.invariant_of-self-in-Unread
invariant_of-self-in-Unread g c = absurd (false≢true (sym (ap were_read c.in-Unread.is) ∙ c.in_ok-cache.ensures.after.read))

pub returns-in-Unread : goal.returns-in-Unread
returns-in-Unread g c = absurd (false≢true (sym (ap were_read c.in-Unread.is) ∙ c.in_ok-cache.ensures.after.read))

pub invariant_of-self-then-matches : goal.invariant_of-self-then-matches
invariant_of-self-then-matches g c =
    let s = c.self.inside in
    let x = c.in_ok-unit.unit.unit.now in
    let inner = as_scope c.scope_of-scope.result in
    let v = viewed g.R.Reader.shares c.args.dw_unit.now c.sources.view_is c.self.view_is c.requires.unit c.self.invariant c.requires.decided c.deref.ensures c.in_ok-unit.unit.dwarf.now x inner c.in_ok-unit.ensures.gives c.scope.ensures.gives c.scope_of-scope.ensures.gives in
    v.own c.cache.new.self (now_right g.R.Reader.shares inner x s.entries.functions c.cache.new.self v.functions c.in_ok-cache.ensures.after)

pub returns-then-matches : goal.returns-then-matches
returns-then-matches g c =
    let s = c.self.inside in
    let x = c.in_ok-unit.unit.unit.now in
    let inner = as_scope c.scope_of-scope.result in
    let v = viewed g.R.Reader.shares c.args.dw_unit.now c.sources.view_is c.self.view_is c.requires.unit c.self.invariant c.requires.decided c.deref.ensures c.in_ok-unit.unit.dwarf.now x inner c.in_ok-unit.ensures.gives c.scope.ensures.gives c.scope_of-scope.ensures.gives in
    let depth : c.args.depth ≡ depths.Functions = elim c.match-matches.branch [ in-Functions w ↦ w.in-Functions.is | in_default w ↦ absurd (false≢true (sym w.matches-is ∙ c.if-matches.true)) ] in
    let keeps = mid_after g.R.Reader.shares inner x s.entries.functions c.cache.new.self v.functions c.in_ok-cache.ensures.after in
    rw c.fault.ensures.gives (record {
      gives = v.gives c.args.depth _ (subst (λ (r : ReadingDepth). ExactlyUnlessOom (λ y. y) (cached_fault c.cache.new.self) (read_of_functions r inner x)) (sym depth) (exactly_this _ _ (mid_gives g.R.Reader.shares inner x s.entries.functions c.cache.new.self v.functions c.in_ok-cache.ensures.after)));
      after = v.after c.args.depth _ c.cache.new.self (subst (λ (r : ReadingDepth). KeepsReadFunctions g.R.Reader.shares r inner x (cached_fault c.cache.new.self) s.entries.functions c.cache.new.self) (sym depth) keeps);
    })

pub read_all-requires-clause-unit : goal.read_all-requires-clause-unit
read_all-requires-clause-unit g c =
    let s = c.self.inside in
    let x = c.in_ok-unit.unit.unit.now in
    let inner = as_scope c.scope_of-scope.result in
    let v = viewed g.R.Reader.shares c.args.dw_unit.now c.sources.view_is c.self.view_is c.requires.unit c.self.invariant c.requires.decided c.deref.ensures c.in_ok-unit.unit.dwarf.now x inner c.in_ok-unit.ensures.gives c.scope.ensures.gives c.scope_of-scope.ensures.gives in
    subst (λ (t : FunctionTable). AreNamesIn inner x t.names) (sym c.deref_mut.ensures.value) (table_now g.R.Reader.shares inner x s.entries.functions c.cache.new.self v.functions c.in_ok-cache.ensures.after c.in-Read.functions c.in-Read.is).names

pub invariant_of-self-2 : goal.invariant_of-self-2
invariant_of-self-2 g c =
    let s = c.self.inside in
    let x = c.in_ok-unit.unit.unit.now in
    let inner = as_scope c.scope_of-scope.result in
    let v = viewed g.R.Reader.shares c.args.dw_unit.now c.sources.view_is c.self.view_is c.requires.unit c.self.invariant c.requires.decided c.deref.ensures c.in_ok-unit.unit.dwarf.now x inner c.in_ok-unit.ensures.gives c.scope.ensures.gives c.scope_of-scope.ensures.gives in
    let shares = g.R.Reader.shares in
    let before = s.entries.functions in
    let mid = c.cache.new.self in
    let a = c.in_ok-cache.ensures.after in
    let kept = kept_by_cache shares inner x before mid v.functions a in
    let t = c.in-Read.functions in
    let new = c.read_all.new.self in
    let result = c.read_all.result in
    let table = table_now shares inner x before mid v.functions a t c.in-Read.is in
    let e = rw c.deref_mut.ensures.value at c.read_all.ensures in
    let read = read_in_turn shares inner x result t.value new e.after in
    v.own (lazy.Read (with_value t new)) (table_more inner x t.value new table read.more (own_right inner x t.value.functions new.functions read.details table.details))

pub returns : goal.returns
returns g c =
    let s = c.self.inside in
    let x = c.in_ok-unit.unit.unit.now in
    let inner = as_scope c.scope_of-scope.result in
    let v = viewed g.R.Reader.shares c.args.dw_unit.now c.sources.view_is c.self.view_is c.requires.unit c.self.invariant c.requires.decided c.deref.ensures c.in_ok-unit.unit.dwarf.now x inner c.in_ok-unit.ensures.gives c.scope.ensures.gives c.scope_of-scope.ensures.gives in
    let shares = g.R.Reader.shares in
    let before = s.entries.functions in
    let mid = c.cache.new.self in
    let a = c.in_ok-cache.ensures.after in
    let kept = kept_by_cache shares inner x before mid v.functions a in
    let t = c.in-Read.functions in
    let new = c.read_all.new.self in
    let result = c.read_all.result in
    let table = table_now shares inner x before mid v.functions a t c.in-Read.is in
    let e = rw c.deref_mut.ensures.value at c.read_all.ensures in
    let read = read_in_turn shares inner x result t.value new e.after in
    let depth : c.args.depth ≡ depths.Details = elim c.match-matches.branch [ in-Functions w ↦ absurd (false≢true (sym c.if-matches.false ∙ w.matches-is)) | in_default w ↦ reads_details c.args.depth w.in_default.not-Functions ] in
    let may = (all_read_once inner x t.value.functions).takes_memory shares in
    let gives = exactly_weaker may (reading_takes_memory shares inner x before) (λ x. x) result (functions_fault inner x)
    (reading_before before mid kept shares inner x t c.in-Read.is table)
    (subst (λ (r : Result (Unit {0}) Error). ExactlyUnlessOomIf may (λ x. x) result r) (first_fault_is inner x t.value.functions table.details ∙ sym (fault_is inner x t.value table)) read.gives) in
    let keeps = details_after shares inner x before (lazy.Read (with_value t new)) (table_more inner x t.value new table read.more (own_right inner x t.value.functions new.functions read.details table.details)) result v.functions gives
    (stay_read before mid kept t (with_value t new) c.in-Read.is read.more) (on_ok_weaker result (λ _. refl) read.known) read.known
    (λ ne. to_fault_known new.functions (read.whole (not_oom result ne))) (λ ready. had_not_oom result (read.memory (to_fault_cached new.functions ready)))
    (λ ready. read.exact (to_fault_cached t.value.functions (ready_then depths.Details before mid kept ready (lazy.Read t) c.in-Read.is)) ∙ first_fault_is inner x t.value.functions table.details ∙ sym (fault_is inner x t.value table))
    (λ ready. ap (λ y. lazy.Read (with_value t y)) (read.same (to_fault_cached t.value.functions (ready_then depths.Details before mid kept ready (lazy.Read t) c.in-Read.is))) ∙ sym c.in-Read.is ∙ ready_same depths.Details before mid kept ready) in
    record {
      gives = v.gives c.args.depth result (subst (λ (r : ReadingDepth). ExactlyUnlessOom (λ y. y) result (read_of_functions r inner x)) (sym depth) (exactly_unless_oom (reading_takes_memory shares inner x before) (λ y. y) result (functions_fault inner x) gives));
      after = v.after c.args.depth result (lazy.Read (with_value t new)) (subst (λ (r : ReadingDepth). KeepsReadFunctions shares r inner x result before (lazy.Read (with_value t new))) (sym depth) keeps);
    }
