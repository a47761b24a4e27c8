-- Lookups of which none is answered to each load (on specs/SkipLaws.antt).
use Rattle.addr2line.proofs.Common.{◌≡◌, ◌≢◌, ℕ, zero, suc, ◌<◌, ◌≤◌, arith, false, List, length, Option, None, Result, Ok, Err, refl, sym, ap, subst, ◌∙◌, length-map, Error, ◌>>=◌, Sections, UnitRecord, OnFault, Stop, Skip, cover, LookupStop, Waits, Finds, FindsNothing, is_waiting, with_answer, UnitIndex, index_units, IndexedUnit, unit_records, FirstAnswers, SplitLoad, View, fewer_left, answered, answers_given, where_waiting, ended_with, found_at, frames_value, loads_at, lookup_stop, unit_value, view_found, with_none}
use Rattle.addr2line_units.specs.LoadsLaws as laws
use Rattle.addr2line.proofs.HistoryLawLemmas.{answers_are, as_many, loads_are, waits_for_listed}
use Rattle.addr2line.proofs.SkipLemmas.{decided_found, none_after}
use Rattle.addr2line.specs.SkipLaws.{SkippedGivesSame, SkippedWaitsForNone}
use Rattle.addr2line.specs.Skips.{nones, skipped_answers}

module _ (faults : OnFault) (d : Sections) (m : UnitIndex) (probe : ℕ) (e : index_units d ≡ Ok m) where
  abbrev us : List UnitRecord
  us = unit_records m.units

  abbrev listed : FirstAnswers → List SplitLoad
  listed answers = laws.loads_of d us answers (cover probe m.ranges)

  -- fewer loads are listed once none is the answer to the one that a lookup waits for
  fewer : (answers : FirstAnswers) (k : ℕ) → length us ≡ length answers → lookup_stop faults d answers probe ≡ Ok (Waits k)
      → length (loads_at d (answered d answers k None) probe) < length (loads_at d answers probe)
  fewer answers k many waits =
      let now_is : loads_at d (answered d answers k None) probe ≡ listed (with_answer d us answers k None) =
      loads_are faults d m probe e (answered d answers k None) ∙ ap listed (answers_are faults d m probe e answers k None) in
      subst (λ l. length l < length (loads_at d answers probe)) (sym now_is)
      (subst (λ l. length (listed (with_answer d us answers k None)) < length l) (sym (loads_are faults d m probe e answers))
      (fewer_left d us answers k None (cover probe m.ranges) many (waits_for_listed faults d m probe e answers k waits)))

  many_still : (answers : FirstAnswers) (k : ℕ) → length us ≡ length answers → length us ≡ length (answered d answers k None)
  many_still answers k many =
      many ∙ sym (ap (λ (a : FirstAnswers). length a) (answers_are faults d m probe e answers k None) ∙ as_many faults d m probe e answers k None)

  -- so often as there are loads, and the lookup waits for none
  ends : (n : ℕ) (answers : FirstAnswers) → length us ≡ length answers → length (loads_at d answers probe) ≤ n
      → is_waiting (lookup_stop faults d (answers_given faults d probe answers (nones n)) probe) ≡ false
  ends zero answers many few = by (lookup_stop faults d answers probe) refl
    where
      by : (s : Result LookupStop Error) → lookup_stop faults d answers probe ≡ s → is_waiting s ≡ false
      by (Ok (Waits k)) q = let less = fewer answers k many q in absurd (omega (arith, few, less))
      by (Ok (Finds k frames)) q = refl
      by (Ok FindsNothing) q = refl
      by (Err x) q = refl
  ends (suc n) answers many few = by (λ k. ends n (answered d answers k None)) (lookup_stop faults d answers probe) refl
    where
      by : ((k : ℕ) → length us ≡ length (answered d answers k None) → length (loads_at d (answered d answers k None) probe) ≤ n
          → is_waiting (lookup_stop faults d (answers_given faults d probe (answered d answers k None) (nones n)) probe) ≡ false)
          → (s : Result LookupStop Error) → lookup_stop faults d answers probe ≡ s
          → is_waiting (lookup_stop faults d (where_waiting (λ k. answers_given faults d probe (answered d answers k None) (nones n)) answers s) probe) ≡ false
      by further (Ok (Waits k)) q =
          let less = fewer answers k many q in
          further k (many_still answers k many) (omega (arith, few, less))
      by further (Ok (Finds k frames)) q = ap is_waiting q
      by further (Ok FindsNothing) q = ap is_waiting q
      by further (Err x) q = ap is_waiting q

-- of units without an answer none is the answer, before and after
none_given : (faults : OnFault) (d : Sections) (probe n : ℕ) (answers : FirstAnswers)
    → with_none (answers_given faults d probe answers (nones n)) ≡ with_none answers
none_given faults d probe zero answers = refl
none_given faults d probe (suc n) answers = by (λ k. none_given faults d probe n (answered d answers k None)) (lookup_stop faults d answers probe)
  where
    by : ((k : ℕ) → with_none (answers_given faults d probe (answered d answers k None) (nones n)) ≡ with_none (answered d answers k None))
        → (s : Result LookupStop Error) → with_none (where_waiting (λ k. answers_given faults d probe (answered d answers k None) (nones n)) answers s) ≡ with_none answers
    by further (Ok (Waits k)) = further k ∙ none_after d answers k
    by further (Ok (Finds k frames)) = refl
    by further (Ok FindsNothing) = refl
    by further (Err x) = refl

pub skipped_waits_for_none : SkippedWaitsForNone
skipped_waits_for_none faults d m probe answers e many =
    let all : length (loads_at d answers probe) ≤ length (loads_at d answers probe) = omega arith in
    ends faults d m probe e (length (loads_at d answers probe)) answers (length-map m.units (λ (u : IndexedUnit). u.unit) ∙ many) all

-- what doesn't wait gives something, or a fault
some_found : {V : Type 0} (value_at : LookupStop → V) (s : Result LookupStop Error) → is_waiting s ≡ false → (s >>= λ x. Ok (ended_with (value_at x) x)) ≢ Ok None
some_found value_at (Err x) w h = absurd cc
some_found value_at (Ok (Waits k)) w h = absurd cc
some_found value_at (Ok (Finds k frames)) w h = absurd cc
some_found value_at (Ok FindsNothing) w h = absurd cc

pub skipped_gives_same : SkippedGivesSame
skipped_gives_same d m probe answers e many = (same_found Stop frames_value, same_found Skip unit_value)
  where
    left : OnFault → FirstAnswers
    left faults = skipped_answers faults d probe answers

    same_found : {V : Type 0} (faults : OnFault) (value_of : LookupStop → Option View → V) → found_at faults value_of d (left faults) probe ≡ found_at faults value_of d (with_none answers) probe
    same_found faults value_of =
        sym (decided_found faults value_of d (left faults) probe (some_found (λ s. value_of s (view_found d (left faults) s)) (lookup_stop faults d (left faults) probe) (skipped_waits_for_none faults d m probe answers e many)))
        ∙ ap (λ a. found_at faults value_of d a probe) (none_given faults d probe (length (loads_at d answers probe)) answers)
