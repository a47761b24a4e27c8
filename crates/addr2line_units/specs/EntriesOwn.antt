-- Whose entries are cached, as the private functions see it.
-- Own: the functions of a view that is known are read when they are first asked for, and cached
-- then, their fault too, until the unit is forgotten; so is each detail. OutOfMemory is never
-- cached.
use Rattle.std.specs.Prelude.{◌≡◌, false, Option, Some, None, IfOk, IfSome}
use Rattle.addr2line_units.specs.Common.{Sections, UnitRecord, Scope}
use Rattle.addr2line_lines.specs.References.{UnitInScope, in_scope}
use Rattle.addr2line_units.specs.declared.entries.EntriesCache.{EntriesCache}
use Rattle.addr2line_units.specs.declared.entries.LookedAt.{LookedAt}
use Rattle.addr2line_units.specs.declared.entries.LookedAt.TheVariants as looked
use Rattle.addr2line_units.specs.declared.unit.LinesCache.{LinesCache}
use Rattle.addr2line_units.specs.EntriesFunctions.{AreFunctionsOf, were_read}
use Rattle.addr2line_units.specs.UnitView.{verdict, view_scope}
use Rattle.addr2line_units.specs.UnitViewCached.{IsViewOf, answer_of_view, has_view, was_checked}

-- the first answer of a unit
abbrev pub first_answer_of : {R : Type 0} → EntriesCache R → Option (Option Sections)
first_answer_of v = answer_of_view v.view

-- what is cached is the view of the unit and the functions of that view, which are read only where
-- it is known and has no fault
pub record AreEntriesOf {R : Type 0} (scope : Scope) (u : UnitRecord) (v : EntriesCache R)
    : Type 0 where
  pub view : IsViewOf scope.file.sections u v.view
  pub functions : IfSome (verdict scope.file.sections u (first_answer_of v)) (λ view.
      IfOk view (λ x. AreFunctionsOf (view_scope scope x) x.unit v.functions))
  pub unread : has_view v.view.state ≡ false → were_read v.functions ≡ false

-- nobody has asked for anything yet
pub record AreFresh {R : Type 0} (v : EntriesCache R) : Type 0 where
  pub view : was_checked v.view.state ≡ false
  pub functions : were_read v.functions ≡ false

-- the unit that was looked at, if one was
abbrev pub looked_at_unit : {R : Type 0} → LookedAt R → Option UnitInScope
looked_at_unit looked.Nothing = None
looked_at_unit (looked.Unit sources dw_unit) = Some (in_scope sources.value dw_unit.value)

-- what is cached of a unit: its lines with its language, its entries, and the unit that was looked
-- at for these
pub record CachedUnit (R : Type 0) : Type 0 where
  pub lines : LinesCache
  pub entries : EntriesCache R
  pub unit : Option UnitInScope

-- the entries are those of the unit that was looked at; where none was, nobody has asked for any
abbrev pub AreOwnEntries : {R : Type 0} → Option UnitInScope → EntriesCache R → Type 0
AreOwnEntries None v = AreFresh v
AreOwnEntries (Some x) v = AreEntriesOf x.scope x.unit v
