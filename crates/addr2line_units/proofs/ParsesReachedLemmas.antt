-- Lookups after a parse of all functions and their details (on specs/ParsesLaws.antt).
use Rattle.addr2line_units.proofs.Common.{◌≡◌, ◌∙◌, ℕ, zero, suc, ◌==◌, ◌⊎◌, inl, inr, Bool, true, false, List, [], ◌∷◌, length, map, Option, Some, None, option_map, Result, Ok, Err, ap, sym, refl, subst, arith, Error, ◌>>=◌, fault_of, Sections, UnitRecord, Detail, detail_at, FunctionRange, entries_of, function_begin, function_end, function_offset, functions_of, once_before, LineTable, location_at, Scope, read_all, unit_lines, OnFault, UnitRange, FoundFunction, FrameRecord, found_frames, found_function, function_at, function_from, after_fault, asked_frames, frames_of_number, or_stop, stop_along, answers_after_parse, read_of_unit, read_of_units, read_of_view, unless_fault, details_at, functions_fault, all_lines, lines_of_unit, FramesResult, frames_by, frames_in, function_by, function_in, IndexedUnit, unit_records, FirstAnswers, View, decided_answer, is_open, verdict, view_scope}
use Rattle.std.specs.Prelude.{is_none, if◌then◌else◌}
use Rattle.std.proofs.lemmas.Bool.{eqb-true}
use Rattle.addr2line_lines.specs.Shortest.{shortest}
use Rattle.gimli_read.proofs.TopmostLemmas.{In}
use Rattle.addr2line_lines.proofs.ShortestLemmas.{shortest_holds}
use Rattle.addr2line_units.specs.declared.parses.ReadingDepth.TheVariants.{Details}
use Rattle.addr2line_units.specs.ParsesLaws.{IsReached}
use Rattle.addr2line_units.proofs.EntriesFunctionLemmas.{function_is}
use Rattle.addr2line_units.proofs.ParsesLemmas.{decided_verdict}
use Rattle.addr2line_units.proofs.Facts.{err_ok, rest_ok}
use Rattle.addr2line_units.specs.EntriesFrames.{frames_by_lines}

-- where the entry of a range begins is among those of all
once_in : (offset : ℕ) (offsets : List ℕ) (z : ℕ) → (offset ≡ z) ⊎ In z offsets → In z (once_before offset offsets)
once_in offset [] z h = h
once_in offset (next ∷ offsets) z h = by_test (offset == next) refl
  where
    by_test : (b : Bool) → (offset == next) ≡ b → In z (if b then next ∷ offsets else offset ∷ next ∷ offsets)
    by_test true e = elim h [ inl k ↦ inl (sym (eqb-true offset next e) ∙ k) | inr i ↦ i ]
    by_test false e = h

entry_in : (ranges : List FunctionRange) (f : FunctionRange) → In f ranges → In f.offset (entries_of ranges)
entry_in [] f h = absurd h
entry_in (r ∷ ranges) f h = once_in r.offset (entries_of ranges) f.offset (elim h [ inl e ↦ inl (ap (λ (x : FunctionRange). x.offset) e) | inr i ↦ inr (entry_in ranges f i) ])

module _ (scope : Scope) (view : UnitRecord) where
  -- where no detail has a fault each can be read
  detail_ok : (offsets : List ℕ) (z : ℕ) → details_at scope view offsets ≡ Ok tt → In z offsets → (detail : Detail) × (detail_at scope view z ≡ Ok detail)
  detail_ok [] z e h = absurd h
  detail_ok (offset ∷ offsets) z e h = by_detail (detail_ok offsets z) (detail_at scope view offset) refl e
    where
      by_detail : (details_at scope view offsets ≡ Ok tt → In z offsets → (detail : Detail) × (detail_at scope view z ≡ Ok detail)) → (r : Result Detail Error) → detail_at scope view offset ≡ r → (r >>= λ _. details_at scope view offsets) ≡ Ok tt → (detail : Detail) × (detail_at scope view z ≡ Ok detail)
      by_detail more (Ok detail) q e = elim h [ inl s ↦ (detail, ap (detail_at scope view) (sym s) ∙ q) | inr i ↦ more e i ]
      by_detail more (Err x) q e = absurd cc

  -- where functions and details have no fault, no lookup of a function has
  function_ok : (probe : ℕ) → functions_fault scope view ≡ Ok tt → (found : Option FoundFunction) × (function_at scope view probe ≡ Ok found)
  function_ok probe e = by_functions (functions_of scope.file.sections view) refl e
    where
      by_shortest : (ranges : List FunctionRange) → details_at scope view (entries_of ranges) ≡ Ok tt → (o : Option FunctionRange) → shortest function_begin function_end function_offset probe ranges ≡ o
          → (found : Option FoundFunction) × (function_from scope view probe (option_map function_offset o) ≡ Ok found)
      by_shortest ranges e None q = (None, refl)
      by_shortest ranges e (Some f) q =
          let detail = detail_ok (entries_of ranges) f.offset e (entry_in ranges f (shortest_holds function_begin function_end function_offset probe ranges f q).0) in
          (Some (found_function probe f.offset detail.0), ap (λ (r : Result Detail Error). r >>= λ d. Ok (Some (found_function probe f.offset d))) detail.1)

      by_functions : (r : Result (List FunctionRange) Error) → functions_of scope.file.sections view ≡ r → (r >>= λ ranges. details_at scope view (entries_of ranges)) ≡ Ok tt
          → (found : Option FoundFunction) × (function_at scope view probe ≡ Ok found)
      by_functions (Ok ranges) q e =
          let found = by_shortest ranges e (shortest function_begin function_end function_offset probe ranges) refl in
          (found.0, function_is scope view probe (Ok ranges) q ∙ found.1)
      by_functions (Err x) q e = absurd cc

-- where no lines have a fault those of each unit can be read
lines_first : (d : Sections) (u : IndexedUnit) (us : List IndexedUnit) → fault_of (all_lines d (u ∷ us)) ≡ Ok tt → ((table : LineTable) × (unit_lines d u.unit ≡ Ok table)) × (fault_of (all_lines d us) ≡ Ok tt)
lines_first d u us e = by_lines (lines_of_unit d u) refl (map (lines_of_unit d) us) e
  where
    by_lines : (l : Result LineTable Error) → lines_of_unit d u ≡ l → (rest : List (Result LineTable Error)) → fault_of (read_all (l ∷ rest)) ≡ Ok tt → ((table : LineTable) × (unit_lines d u.unit ≡ Ok table)) × (fault_of (read_all rest) ≡ Ok tt)
    by_lines (Ok x) q rest h = ((x, q), rest_ok x (read_all rest) h)
    by_lines (Err x) q rest h = absurd (err_ok x h)

module _ (scope : Scope) (probe : ℕ) where
  -- the frames in a unit whose view, functions, details and lines can be read
  unit_reached : (u : IndexedUnit) (answer : Option (Option Sections)) (view : Result View Error) → verdict scope.file.sections u.unit answer ≡ Some view → read_of_view Details scope (Some view) ≡ Ok tt → (table : LineTable) → unit_lines scope.file.sections u.unit ≡ Ok table
      → (frames : List FrameRecord) × (frames_in scope u answer probe ≡ Ok (Some frames))
  unfolding frames_by_lines
  unit_reached u answer (Err x) e read table lines = absurd cc
  unit_reached u answer (Ok v) e read table lines =
      let found = function_ok (view_scope scope v) v.unit probe read in
      let function : function_in scope u.unit answer probe ≡ Ok found.0 = ap (function_by scope probe) e ∙ found.1 in
      let closed : is_open scope.file.sections u.unit answer ≡ false = ap is_none e in (
        found_frames table.files u.language found.0 (location_at probe table),
        ap (λ (b : Bool). if b then Ok None else (frames_by u.language (unit_lines scope.file.sections u.unit) probe (function_in scope u.unit answer probe) >>= λ frames. Ok (Some frames))) closed
            ∙ ap (λ (r : Result (Option FoundFunction) Error). frames_by u.language (unit_lines scope.file.sections u.unit) probe r >>= λ frames. Ok (Some frames)) function
            ∙ ap (λ (r : Result LineTable Error). (r >>= λ t. Ok (found_frames t.files u.language found.0 (location_at probe t))) >>= λ frames. Ok (Some frames)) lines,
      )

  number_reached : (units : List IndexedUnit) (answers : FirstAnswers) (n : ℕ) → length units ≡ length answers → read_of_units Details scope (unit_records units) answers ≡ Ok tt → fault_of (all_lines scope.file.sections units) ≡ Ok tt
      → (frames : List FrameRecord) × (frames_of_number scope units (answers_after_parse Details scope (unit_records units) answers) probe n ≡ Ok (Some frames))
  number_reached [] answers n many read lines = ([], refl)
  number_reached (u ∷ us) [] n many read lines = absurd (omega arith)
  number_reached (u ∷ us) (a ∷ answers) n many read lines = by_unit (λ rest k. number_reached us answers k (omega arith) rest (lines_first scope.file.sections u us lines).1) (read_of_unit Details scope u.unit a) refl read n
    where
      by_unit : (read_of_units Details scope (unit_records us) answers ≡ Ok tt → (k : ℕ) → (frames : List FrameRecord) × (frames_of_number scope us (answers_after_parse Details scope (unit_records us) answers) probe k ≡ Ok (Some frames))) → (r : Result (Unit {0}) Error) → read_of_unit Details scope u.unit a ≡ r → (r >>= λ _. read_of_units Details scope (unit_records us) answers) ≡ Ok tt → (n : ℕ)
          → (frames : List FrameRecord) × (frames_of_number scope (u ∷ us) (answers_after_parse Details scope (u.unit ∷ unit_records us) (a ∷ answers)) probe n ≡ Ok (Some frames))
      by_unit more (Ok x) e rest zero =
          let view = decided_verdict scope.file.sections u.unit a in
          let first = lines_first scope.file.sections u us lines in
          unit_reached u (decided_answer scope.file.sections u.unit a None) view.0 view.1 (sym (ap (read_of_view Details scope) view.1) ∙ e) first.0.0 first.0.1
      by_unit more (Ok x) e rest (suc n) =
          let frames = more rest n in
          (frames.0, ap (λ (r : Result (Unit {0}) Error). frames_of_number scope us (unless_fault r (answers_after_parse Details scope (unit_records us) answers) answers) probe n) e ∙ frames.1)
      by_unit more (Err x) e rest n = absurd cc

-- a lookup along units that all have frames, or none, neither waits nor has a fault
stop_reached : (frames : ℕ → FramesResult) → ((n : ℕ) → (fs : List FrameRecord) × (frames n ≡ Ok (Some fs))) → (ranges : List UnitRange) → IsReached (stop_along frames ranges)
stop_reached frames all [] = tt
stop_reached frames all (r ∷ ranges) = subst (λ (x : FramesResult). IsReached (x >>= or_stop r.unit (stop_along frames ranges))) (sym (all r.unit).1) (by_frames (stop_reached frames all ranges) (all r.unit).0)
  where
    by_frames : IsReached (stop_along frames ranges) → (fs : List FrameRecord) → IsReached (or_stop r.unit (stop_along frames ranges) (Some fs))
    by_frames more [] = more
    by_frames more (f ∷ fs) = tt

-- after a parse of all functions and details without a fault, where all lines can be read too, no
-- lookup waits or has a fault
pub reached_all : (faults : OnFault) (scope : Scope) (units : List IndexedUnit) (answers : FirstAnswers) (probe : ℕ) (ranges : List UnitRange) → length units ≡ length answers
    → read_of_units Details scope (unit_records units) answers ≡ Ok tt → fault_of (all_lines scope.file.sections units) ≡ Ok tt
    → IsReached (stop_along (asked_frames faults scope units (answers_after_parse Details scope (unit_records units) answers) probe) ranges)
reached_all faults scope units answers probe ranges many read lines = stop_reached _ each ranges
  where
    each : (n : ℕ) → (frames : List FrameRecord) × (asked_frames faults scope units (answers_after_parse Details scope (unit_records units) answers) probe n ≡ Ok (Some frames))
    each n = let s = number_reached scope probe units answers n many read lines in (s.0, ap (after_fault faults) s.1)
