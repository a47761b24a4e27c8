-- What is known of the entries of units (on specs/EntriesKnown.antt and specs/EntriesKnownCached.antt).
use Rattle.addr2line_units.proofs.Common.{◌≡◌, ◌∙◌, ap, sym, refl, ℕ, Bool, true, false, List, [], ◌∷◌, map, Option, Some, None, option_map, unwrap_or, slice_get, Result, Ok, Err, if◌then◌else◌, slice_get-map, Error, UnitRecord, LazyFunctions, CachedUnit, ViewState, has_answered, has_entries, has_entries_by, cached_has_function, is_cached_fault, no_functions, AreFreshOf, was_checked, known_answer, known_by, known_fault, known_functions, known_in, AllKnown, KnownEntries, NothingKnown, is_known_at, knows_at}
use Rattle.addr2line_units.specs.declared.entries.LazyFunctions.TheVariants as lazy
use Rattle.addr2line_units.specs.declared.unit.ViewState.TheVariants as states
use Rattle.addr2line_units.proofs.EntriesKnownTableLemmas.{table_known}
use Rattle.addr2line_units.proofs.UnitsCaches.{has_entries_at}

fault_known : (probe : ℕ) (e : Error) → is_known_at probe (known_fault e) ≡ is_cached_fault e
fault_known probe e = by (is_cached_fault e)
  where
    by : (b : Bool) → is_known_at probe (if b then AllKnown else NothingKnown) ≡ b
    by true = refl
    by false = refl

module _ {R : Type 0} (probe : ℕ) where
  functions_known : (f : LazyFunctions R) → is_known_at probe (known_functions f) ≡ cached_has_function probe f
  functions_known lazy.Unread = refl
  functions_known lazy.Absent = table_known probe no_functions
  functions_known (lazy.Read t) = table_known probe t.value
  functions_known (lazy.Faulty e) = fault_known probe e

  answer_known : {X : Type 0} (r : Result X Error) (f : LazyFunctions R) → is_known_at probe (known_answer r f) ≡ has_answered probe r f
  answer_known (Ok x) f = functions_known f
  answer_known (Err e) f = fault_known probe e

  view_known : (s : ViewState R) (f : LazyFunctions R) → is_known_at probe (known_by s f) ≡ has_entries_by probe s f
  view_known states.Undecided f = refl
  view_known states.Open f = refl
  view_known states.Main f = functions_known f
  view_known (states.Unnamed e) f = fault_known probe e
  view_known (states.Answered a) f = answer_known a.unit f

  -- what is known of the entries of the unit of a number
  pub known_is : (views : List (CachedUnit R)) (n : ℕ) → knows_at (known_in views) probe n ≡ has_entries_at probe views n
  known_is views n = ap (λ o. unwrap_or (option_map (is_known_at probe) o) true) (slice_get-map (λ (v : CachedUnit _). known_by v.entries.view.state v.entries.functions) views n) ∙ fused (slice_get views n)
    where
      fused : (o : Option (CachedUnit R)) → unwrap_or (option_map (is_known_at probe) (option_map (λ v. known_by v.entries.view.state v.entries.functions) o)) true ≡ unwrap_or (option_map (λ v. has_entries probe v.entries) o) true
      fused None = refl
      fused (Some v) = view_known v.entries.view.state v.entries.functions

pub known_unchanged : {R : Type 0} (old new : List (CachedUnit R)) (n : ℕ) → slice_get new n ≡ slice_get old n → slice_get (known_in new) n ≡ slice_get (known_in old) n
known_unchanged old new n e = slice_get-map (λ (v : CachedUnit _). known_by v.entries.view.state v.entries.functions) new n ∙ ap (λ (o : Option (CachedUnit _)). option_map (λ v. known_by v.entries.view.state v.entries.functions) o) e ∙ sym (slice_get-map (λ (v : CachedUnit _). known_by v.entries.view.state v.entries.functions) old n)

-- nothing is known of a unit of which nobody has asked for anything
fresh_unknown : {R : Type 0} (s : ViewState R) (f : LazyFunctions R) → was_checked s ≡ false → known_by s f ≡ NothingKnown
fresh_unknown states.Undecided f e = refl
fresh_unknown states.Open f e = absurd cc
fresh_unknown states.Main f e = absurd cc
fresh_unknown (states.Unnamed x) f e = absurd cc
fresh_unknown (states.Answered a) f e = absurd cc

pub nothing_known : {R : Type 0} (us : List UnitRecord) (vs : List (CachedUnit R)) → AreFreshOf us vs → known_in vs ≡ map (λ _. NothingKnown) us
nothing_known [] [] fresh = refl
nothing_known [] (v ∷ vs) fresh = absurd fresh
nothing_known (u ∷ us) [] fresh = absurd fresh
nothing_known (u ∷ us) (v ∷ vs) fresh =
    ap (λ k. k ∷ known_in vs) (fresh_unknown v.entries.view.state v.entries.functions fresh.0.entries.view)
    ∙ ap (λ (ks : List KnownEntries). NothingKnown ∷ ks) (nothing_known us vs fresh.1)
