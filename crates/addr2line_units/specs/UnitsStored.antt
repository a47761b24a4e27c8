-- That what is cached of the units of a context is their own, as the private functions see it.
use Rattle.std.specs.Prelude.{ℕ, List}
use Rattle.addr2line_units.specs.Common.{Scope}
use Rattle.addr2line_units.specs.declared.frames.FramesStop.{FramesStop}
use Rattle.addr2line_units.specs.EntriesOwn.{CachedUnit}
use Rattle.addr2line_units.specs.FramesCached.{IsLendable}
use Rattle.addr2line_units.specs.UnitLinesCached.{indexed_units, parsed_units}
use Rattle.addr2line_units.specs.UnitsCached.{HaveCachesOf, answers_in}
use Rattle.addr2line_units.specs.FramesLookup.{LookupStop}
use Rattle.addr2line_units.specs.EntriesKnownCached.{known_in}
use Rattle.addr2line_units.specs.UnitsState.{UnitsState}

-- units by what is cached of them
abbrev pub as_units_state : {R : Type 0} → Scope → List (CachedUnit R) → ℕ → LookupStop → UnitsState
as_units_state scope caches steps stop = record {
  scope = scope;
  units = indexed_units scope.file.units caches;
  answers = answers_in caches;
  parsed = parsed_units caches;
  known = known_in caches;
  steps = steps;
  stop = stop;
}

-- beside each unit stands its cache, and what is stored of the last lookup can be lent
pub record AreUnits {R : Type 0} (scope : Scope) (cs : List (CachedUnit R)) (last : FramesStop)
    : Type 0 where
  pub caches : HaveCachesOf scope scope.file.units cs
  pub stop : IsLendable cs last
