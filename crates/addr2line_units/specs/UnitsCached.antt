-- What is cached of all units of a context, as the private functions see it: a cache beside each
-- unit, their first answers, and which units wait.
use Rattle.std.specs.Prelude.{◌≡◌, ℕ, Bool, false, List, map, None, IfSome, option_map, slice_get, unwrap_or}
use Rattle.std.specs.List.{AllZip}
use Rattle.addr2line_units.specs.Common.{Sections, UnitRecord, Scope}
use Rattle.addr2line_units.specs.EntriesOwn.{AreEntriesOf, AreFresh, CachedUnit, first_answer_of}
use Rattle.addr2line_units.specs.UnitViewCached.{waits}
use Rattle.addr2line_units.specs.UnitLinesCached.{AreLinesOf, HaveLinesOf}
use Rattle.addr2line_units.specs.UnitView.{FirstAnswers}

-- the entries that are cached are of this unit, if one was looked at
abbrev pub AreOfUnit : {R : Type 0} → Scope → UnitRecord → CachedUnit R → Type 0
AreOfUnit scope u c = IfSome c.unit (λ x. x ≡ record { scope = scope; unit = u })

-- the lines and the entries that are cached of a unit are its own
pub record IsCacheOf {R : Type 0} (scope : Scope) (u : UnitRecord) (c : CachedUnit R)
    : Type 0 where
  pub lines : AreLinesOf scope.file.sections u c.lines.lines
  pub entries : AreEntriesOf scope u c.entries
  pub unit : AreOfUnit scope u c

-- a unit wasn't looked at yet: nobody has asked for any of its entries
pub record IsFresh {R : Type 0} (c : CachedUnit R) : Type 0 where
  pub unit : c.unit ≡ None
  pub entries : AreFresh c.entries

-- beside each unit stands its cache
abbrev pub HaveCachesOf : {R : Type 0} → Scope → List UnitRecord → List (CachedUnit R) → Type 0
HaveCachesOf scope us caches = AllZip (IsCacheOf scope) us caches

-- no unit was looked at yet
abbrev pub AreFreshOf : {R : Type 0} → List UnitRecord → List (CachedUnit R) → Type 0
AreFreshOf us caches = AllZip (λ _ c. IsFresh c) us caches

-- beside each unit stands its cache: its lines, and it wasn't looked at yet
pub record HaveNewCaches {R : Type 0} (d : Sections) (us : List UnitRecord)
    (cs : List (CachedUnit R)) : Type 0 where
  pub lines : HaveLinesOf d us cs
  pub fresh : AreFreshOf us cs

-- the first answers of units
abbrev pub answers_in : {R : Type 0} → List (CachedUnit R) → FirstAnswers
answers_in caches = map (λ c. first_answer_of c.entries) caches

-- whether the unit of a number was looked at and waits for an answer
abbrev pub waits_at : {R : Type 0} → List (CachedUnit R) → ℕ → Bool
waits_at caches n =
    unwrap_or (option_map (λ c. waits c.entries.view.state) (slice_get caches n)) false
