-- Units of which it is known that they have nothing at any address.
use Rattle.std.specs.Prelude.{◌≡◌, ◌&&◌, ℕ, Bool, true, false, Ok}
use Rattle.addr2line_units.specs.declared.entries.LazyFunctions.{LazyFunctions}
use Rattle.addr2line_units.specs.declared.entries.LazyFunctions.TheVariants as functions
use Rattle.addr2line_units.specs.EntriesOwn.{CachedUnit}
use Rattle.addr2line_units.specs.declared.frames.Asks.TheVariants.{Frames}
use Rattle.addr2line_units.specs.declared.frames.OnFault.{OnFault}
use Rattle.addr2line_units.specs.declared.unit.LazyLines.{LazyLines}
use Rattle.addr2line_units.specs.declared.unit.LazyLines.TheVariants as lines
use Rattle.addr2line_units.specs.UnitsAsked.{stop_at}
use Rattle.addr2line_units.specs.FramesLookup.{FindsNothing}
use Rattle.addr2line_units.specs.UnitViewCached.{has_view}
use Rattle.addr2line_units.specs.UnitsState.{UnitsState, has_all_at}

-- whether it is known that a view has no functions
abbrev pub has_no_functions : {R : Type 0} → LazyFunctions R → Bool
has_no_functions functions.Absent = true
has_no_functions _ = false

-- whether it is known that a unit has no lines
abbrev pub has_no_lines : LazyLines → Bool
has_no_lines lines.Absent = true
has_no_lines _ = false

-- whether it is known that a unit has nothing at any address: neither functions, in a view that has
-- no fault, nor lines
abbrev pub has_nothing : {R : Type 0} → CachedUnit R → Bool
has_nothing c = has_no_functions c.entries.functions
    && (has_no_lines c.lines.lines && has_view c.entries.view.state)

-- no lookup of frames finds anything in the unit of a number, and nothing is left to read there
pub record HasNothingAt (s : UnitsState) (n : ℕ) : Type 0 where
  pub stop : (faults : OnFault) (probe : ℕ)
      → stop_at (Frames faults) probe s n ≡ Ok FindsNothing
  pub known : (probe : ℕ) → has_all_at probe s n ≡ true
