-- Whose entries are cached (on specs/EntriesOwn.antt and specs/UnitsCached.antt).
use Rattle.addr2line_units.proofs.Common.{◌≡◌, ◌∙◌, ap, sym, refl, subst, true, false, Option, Some, None, is_some, IfSome, IfOk, Result, Ok, Err, Error, Sections, UnitRecord, Scope, EntriesCache, ViewState, AreEntriesOf, AreFresh, first_answer_of, AreFunctionsOf, AreLinesOf, IsCacheOf, is_decided, verdict_in, was_checked, View, verdict, view_scope}
use Rattle.addr2line_units.specs.declared.unit.ViewState.TheVariants as states
use Rattle.addr2line_units.specs.UnitAfter.{WasLookedAt}
use Rattle.addr2line_lines.specs.References.{UnitInScope}
use Rattle.addr2line_units.specs.EntriesOwn.{AreOwnEntries, CachedUnit}
use Rattle.addr2line_units.specs.UnitsCached.{AreOfUnit}
use Rattle.addr2line_units.proofs.LoadsAnswerLemmas.{decided_was_checked, unread_are}
use Rattle.addr2line_units.proofs.UnitViewLemmas.{unchecked_has_none}

-- of a unit that wasn't looked at nothing is cached
no_verdict : {R : Type 0} (d : Sections) (u : UnitRecord) (s : ViewState R) → was_checked s ≡ false → verdict_in d u s ≡ None
no_verdict d u states.Undecided e = refl
no_verdict d u states.Open e = absurd cc
no_verdict d u states.Main e = absurd cc
no_verdict d u (states.Unnamed f) e = absurd cc
no_verdict d u (states.Answered a) e = absurd cc

-- what nobody has asked for is that of every unit
pub fresh_are_of : {R : Type 0} (scope : Scope) (u : UnitRecord) (v : EntriesCache R) → AreFresh v → AreEntriesOf scope u v
fresh_are_of {R} scope u v fresh = record {
  view = record {
    verdict = subst (λ (kept : Option (Option (Result View Error))). IfSome kept (λ k. k ≡ verdict scope.file.sections u (first_answer_of v))) (sym (no_verdict scope.file.sections u v.view.state fresh.view)) tt;
    waited = λ e. absurd (none_some (ap (λ (a : Option (Option Sections)). is_some a) (sym (unchecked_has_none v.view.state fresh.view)) ∙ e));
  };
  functions = of_verdict (verdict scope.file.sections u (first_answer_of v));
  unread = λ e. fresh.functions;
}
  where
    none_some : false ≡ true → ⊥
    none_some e = cc

    of_verdict : (view : Option (Result View Error)) → IfSome view (λ x. IfOk x (λ y. AreFunctionsOf (view_scope scope y) y.unit v.functions))
    of_verdict None = tt
    of_verdict (Some (Err e)) = tt
    of_verdict (Some (Ok y)) = unread_are (view_scope scope y) y.unit v.functions fresh.functions

abbrev this : Scope → UnitRecord → UnitInScope
this scope u = record { scope = scope; unit = u }

module _ {R : Type 0} (scope : Scope) (u : UnitRecord) where
  -- entries of the unit that was looked at are those of a unit that it is
  pub own_entries : (c : CachedUnit R) → AreOfUnit scope u c → AreOwnEntries c.unit c.entries → AreEntriesOf scope u c.entries
  own_entries c of_unit own = by c.unit own of_unit
    where
      by : (x : Option UnitInScope) → AreOwnEntries x c.entries → IfSome x (λ y. y ≡ this scope u) → AreEntriesOf scope u c.entries
      by None own e = fresh_are_of scope u c.entries own
      by (Some x) own e = subst (λ (y : UnitInScope). AreEntriesOf y.scope y.unit c.entries) e own

  -- a unit that is decided was looked at
  pub decided_was_looked_at : (c : CachedUnit R) → AreOfUnit scope u c → AreOwnEntries c.unit c.entries → is_decided c.entries.view.state ≡ true → WasLookedAt scope u c
  decided_was_looked_at c of_unit own decided = by c.unit own of_unit
    where
      by : (x : Option UnitInScope) → AreOwnEntries x c.entries → IfSome x (λ y. y ≡ this scope u) → x ≡ Some (this scope u)
      by None own e = absurd (let no : true ≡ false = sym (decided_was_checked c.entries.view.state decided) ∙ own.view in cc)
      by (Some x) own e = ap Some e

  -- the unit that was looked at is this one
  pub of_unit_looked_at : (c : CachedUnit R) → WasLookedAt scope u c → AreOfUnit scope u c
  of_unit_looked_at c is = subst (λ (o : Option UnitInScope). IfSome o (λ x. x ≡ this scope u)) (sym is) refl

  -- what is right of it is its own, and the other way round
  pub own_then : (x : Option UnitInScope) (v : EntriesCache R) → x ≡ Some (this scope u) → AreEntriesOf scope u v → AreOwnEntries x v
  own_then x v is right = subst (λ o. AreOwnEntries o v) (sym is) right

  pub looked_at_is_cache : (c : CachedUnit R) → WasLookedAt scope u c → AreOwnEntries c.unit c.entries → AreLinesOf scope.file.sections u c.lines.lines → IsCacheOf scope u c
  looked_at_is_cache c is own lines = record { lines = lines; entries = subst (λ o. AreOwnEntries o c.entries) is own; unit = of_unit_looked_at c is }
