-- Addresses for which no unit is open (on specs/Loads.antt of addr2line).
use Rattle.addr2line_c.proofs.Common.{◌≡◌, ◌∙◌, ℕ, Bool, false, List, [], ◌∷◌, Option, Some, None, Result, Ok, Err, ap, refl, sym, Error, result_map, SplitLoad}
use Rattle.std.specs.Prelude.{IsOk, slice_get}
use Rattle.gimli.specs.Sections.{Sections}
use Rattle.gimli.specs.Unit.{UnitRecord}
use Rattle.addr2line_units.specs.declared.index.UnitRange.{UnitRange}
use Rattle.addr2line_units.specs.FramesLookup.{answer_of}
use Rattle.addr2line_units.specs.IndexCover.{cover}
use Rattle.addr2line_units.specs.Loads.{NoneOpen, before_others, is_open_at, load_of_number}
use Rattle.addr2line_units.specs.LoadsLaws.{loads_of}
use Rattle.addr2line_units.specs.UnitsIndex.{UnitIndex, index_units}
use Rattle.addr2line_units.specs.UnitsRanged.{unit_records}
use Rattle.addr2line_units.specs.UnitView.{FirstAnswers, awaited_load, is_open}
use Rattle.addr2line_units.proofs.Facts.{no_answer}
use Rattle.addr2line_units.proofs.LoadsLemmas.{open_awaits}
use Rattle.addr2line.specs.Context.{ContextState}
use Rattle.addr2line.specs.Loads.{NoneOpenAt}
use Rattle.addr2line.specs.Lookups.{loads_at}

module _ (d : Sections) (us : List UnitRecord) (answers : FirstAnswers) where
  -- a unit that isn't open has no load
  shut_load : (n : ℕ) → is_open_at d us answers n ≡ false → load_of_number d us answers n ≡ None
  shut_load n shut = by (slice_get us n) shut
    where
      by : (o : Option UnitRecord) → ◌≡◌ {A = Bool} (elim o [ None ↦ false | Some u ↦ is_open d u (answer_of answers n) ]) false
          → ◌≡◌ {A = Option SplitLoad} (elim o [ None ↦ None | Some u ↦ awaited_load d n u (answer_of answers n) ]) None
      by None e = refl
      by (Some u) e = no_answer (awaited_load d n u (answer_of answers n)) (sym (open_awaits d n u (answer_of answers n)) ∙ e)

  -- along ranges that lead to no open unit there are no loads
  shut_loads : (ranges : List UnitRange) → NoneOpen d us answers ranges → loads_of d us answers ranges ≡ []
  shut_loads [] shut = refl
  shut_loads (r ∷ ranges) shut = ap (λ o. before_others o (loads_of d us answers ranges)) (shut_load r.unit shut.0)
      ∙ shut_loads ranges shut.1

-- where no unit that covers the probe is open, it waits for no load
pub no_loads : (c : ContextState) (probe : ℕ) → NoneOpenAt c probe → loads_at c.sections c.answers probe ≡ []
no_loads c probe shut = by (index_units c.sections) shut
  where
    by : (r : Result UnitIndex Error) → ((m : UnitIndex) → r ≡ Ok m → NoneOpen c.sections (unit_records m.units) c.answers (cover probe m.ranges))
        → ◌≡◌ {A = List SplitLoad} (elim r [ Err e ↦ [] | Ok m ↦ loads_of c.sections (unit_records m.units) c.answers (cover probe m.ranges) ]) []
    by (Err e) h = refl
    by (Ok m) h = shut_loads c.sections (unit_records m.units) c.answers (cover probe m.ranges) (h m refl)

-- a list of loads that wasn't refused
pub list_not_refused : {X Y : Type 0} (items : X → Y) (r : Result X Error) (e : Error) → r ≡ Err e
    → IsOk (result_map items r) → ⊥
list_not_refused items (Ok x) e is ok = absurd cc
list_not_refused items (Err f) e is ok = absurd cc
