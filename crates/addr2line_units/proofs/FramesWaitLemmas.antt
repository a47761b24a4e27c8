-- The unit that a lookup of frames waits for has no answer yet (on specs/FramesLookup.antt and
-- specs/UnitsCached.antt).
use Rattle.addr2line_units.proofs.Common.{◌≡◌, ℕ, zero, suc, ◌<◌, arith, get_or, Bool, true, false, ◌&&◌, ◌||◌, List, [], ◌∷◌, length, slice_get, Option, Some, None, Result, Ok, Err, ap, refl, sym, subst, ◌∙◌, Error, ◌>>=◌, Sections, UnitRecord, Scope, OnFault, Stop, Skip, UnitRange, CachedUnit, EntriesCache, ViewState, indexed_units, FrameRecord, LookupStop, Waits, Finds, FindsNothing, after_fault, asked_frames, ends_lookup, frames_of_number, holds_along, or_stop, stop_along, has_entries, first_answer_of, HaveEntriesOf, answers_in, waits_at, was_checked, FramesResult, frames_by, frames_in, frames_by_lines, unit_lines, function_in, IndexedUnit, is_open, verdict, first_so, second_so}
use Rattle.std.specs.Prelude.{IfOk, IfSome, if◌then◌else◌}
use Rattle.addr2line_units.specs.declared.unit.ViewState.TheVariants as states
use Rattle.addr2line_units.proofs.LoadsAnswerLemmas.{got_unit, checked_waits}
use Rattle.addr2line_units.proofs.UnitViewLemmas.{waiting_is_open}
use Rattle.addr2line_units.proofs.UnitsCaches.{HaveViewsOf, has_entries_at, has_frames_at}

number_of : LookupStop → ℕ → ℕ
number_of (Waits n) d = n
number_of (Finds n frames) d = d
number_of FindsNothing d = d

pub same_number : (n k : ℕ) → ◌≡◌ {A = Result LookupStop Error} (Ok (Waits n)) (Ok (Waits k)) → n ≡ k
unfolding number_of
same_number n k e = let s : ◌≡◌ {A = LookupStop} (Waits n) (Waits k) = cc in ap (λ x. number_of x 0) s

-- a lookup that waits for a unit was told so by it, and of it holds what holds along the ranges
module _ (holds : ℕ → Bool) (frames : ℕ → FramesResult) (n : ℕ) where
  told : (k : ℕ) (rest : Result LookupStop Error) (more : Bool) (r : FramesResult) → frames k ≡ r → (holds k && (ends_lookup r || more)) ≡ true → (r >>= or_stop k rest) ≡ Ok (Waits n)
      → (rest ≡ Ok (Waits n) → more ≡ true → (frames n ≡ Ok None) × (holds n ≡ true)) → (frames n ≡ Ok None) × (holds n ≡ true)
  told k rest more (Err x) e h w further = absurd cc
  told k rest more (Ok None) e h w further =
      let same = same_number k n w in
      (subst (λ j. frames j ≡ Ok None) same e, subst (λ j. holds j ≡ true) same (first_so (holds k) true h))
  told k rest more (Ok (Some [])) e h w further = further w (second_so (holds k) more h)
  told k rest more (Ok (Some (f ∷ fs))) e h w further = absurd cc

  pub told_along : (ranges : List UnitRange) → holds_along holds frames ranges ≡ true → stop_along frames ranges ≡ Ok (Waits n) → (frames n ≡ Ok None) × (holds n ≡ true)
  told_along [] h w = absurd cc
  told_along (r ∷ ranges) h w =
      told r.unit (stop_along frames ranges) (holds_along holds frames ranges) (frames r.unit) refl h w (λ v m. told_along ranges m v)

pub told_by_unit : (faults : OnFault) (r : FramesResult) → after_fault faults r ≡ Ok None → r ≡ Ok None
told_by_unit faults (Ok x) e = e
told_by_unit Stop (Err x) e = absurd cc
told_by_unit Skip (Err x) e = absurd cc

-- only a unit that is open has no frames yet
pub open_of_none : (scope : Scope) (u : IndexedUnit) (answer : Option (Option Sections)) (probe : ℕ) → frames_in scope u answer probe ≡ Ok None → is_open scope.file.sections u.unit answer ≡ true
unfolding frames_by_lines
open_of_none scope u answer probe e = of_open (is_open scope.file.sections u.unit answer) (frames_by u.language (unit_lines scope.file.sections u.unit) probe (function_in scope u.unit answer probe)) e
  where
    of_open : (b : Bool) (r : Result (List FrameRecord) Error) → (if b then Ok None else (r >>= λ frames. Ok (Some frames))) ≡ Ok None → b ≡ true
    of_open true r k = refl
    of_open false (Ok x) k = absurd cc
    of_open false (Err x) k = absurd cc

pub known_was_checked : {R : Type 0} (probe : ℕ) (v : EntriesCache R) → has_entries probe v ≡ true → was_checked v.view.state ≡ true
known_was_checked probe v e = by v.view.state e
  where
    by : (s : ViewState _) → has_entries probe (record { view = record { state = s }; functions = v.functions }) ≡ true → was_checked s ≡ true
    by states.Undecided k = absurd cc
    by states.Open k = refl
    by states.Main k = refl
    by (states.Unnamed x) k = refl
    by (states.Answered a) k = refl

-- of a unit that is open and was looked at the view waits
module _ {R : Type 0} (scope : Scope) (probe : ℕ) where
  pub waits_there : (us : List UnitRecord) (vs : List (CachedUnit R)) (n : ℕ) → HaveEntriesOf scope us vs
      → frames_of_number scope (indexed_units us vs) (answers_in vs) probe n ≡ Ok None → has_entries_at probe vs n ≡ true → waits_at vs n ≡ true
  waits_there [] vs n own e h = absurd cc
  waits_there (u ∷ us) [] n own e h = absurd cc
  waits_there (u ∷ us) (v ∷ vs) zero own e h =
      let open_is = open_of_none scope (record { unit = u; language = v.lines.lang }) (first_answer_of v.entries) probe e in
      checked_waits scope.file.sections u v.entries.view own.0.view (known_was_checked probe v.entries h) ∙ open_is
  waits_there (u ∷ us) (v ∷ vs) (suc n) own e h = waits_there us vs n own.1 e h

  -- so it is where a lookup waits
  pub waits_where_told : (faults : OnFault) (us : List UnitRecord) (vs : List (CachedUnit R)) (asks_lines : ℕ → Bool) (ranges : List UnitRange) (n : ℕ) → HaveEntriesOf scope us vs
      → holds_along (has_frames_at asks_lines probe vs) (asked_frames faults scope (indexed_units us vs) (answers_in vs) probe) ranges ≡ true
      → stop_along (asked_frames faults scope (indexed_units us vs) (answers_in vs) probe) ranges ≡ Ok (Waits n) → waits_at vs n ≡ true
  waits_where_told faults us vs asks_lines ranges n own h w =
      let t = told_along (has_frames_at asks_lines probe vs) (asked_frames faults scope (indexed_units us vs) (answers_in vs) probe) n ranges h w in
      waits_there us vs n own (told_by_unit faults (frames_of_number scope (indexed_units us vs) (answers_in vs) probe n) t.0)
      (first_so (has_entries_at probe vs n) _ t.1)

-- beside each unit stands its view
pub views_of_entries : {R : Type 0} (scope : Scope) (us : List UnitRecord) (vs : List (CachedUnit R)) → HaveEntriesOf scope us vs → HaveViewsOf scope.file.sections us vs
views_of_entries scope [] [] h = tt
views_of_entries scope [] (v ∷ vs) h = absurd h
views_of_entries scope (u ∷ us) [] h = absurd h
views_of_entries scope (u ∷ us) (v ∷ vs) h = (h.0.view, views_of_entries scope us vs h.1)

-- the number of a unit that waits is one of a unit
pub waits_within : {R : Type 0} (vs : List (CachedUnit R)) (n : ℕ) → waits_at vs n ≡ true → n < length vs
waits_within [] n h = absurd cc
waits_within (v ∷ vs) zero h = omega arith
waits_within (v ∷ vs) (suc n) h = let k = waits_within vs n h in omega (arith, k)

pub as_many_views : {R : Type 0} (d : Sections) (us : List UnitRecord) (vs : List (CachedUnit R)) → HaveViewsOf d us vs → length us ≡ length vs
as_many_views d [] [] h = refl
as_many_views d [] (v ∷ vs) h = absurd h
as_many_views d (u ∷ us) [] h = absurd h
as_many_views d (u ∷ us) (v ∷ vs) h = ap suc (as_many_views d us vs h.1)

-- a unit that waits is open
pub waiting_there : {R : Type 0} (d : Sections) (us : List UnitRecord) (vs : List (CachedUnit R)) (n : ℕ) (u : UnitRecord) → HaveViewsOf d us vs → waits_at vs n ≡ true → u ≡ get_or us n u → verdict d u None ≡ None
waiting_there d us [] n u own w e = absurd cc
waiting_there d [] (y ∷ vs) n u own w e = absurd own
waiting_there d (x ∷ us) (y ∷ vs) zero u own w e = subst (λ z. verdict d z None ≡ None) (sym e) (waiting_is_open d x y.entries.view.state w own.0)
waiting_there d (x ∷ us) (y ∷ vs) (suc n) u own w e = waiting_there d us vs n u own.1 w e

-- what holds of the unit of a number, where a call answers
pub of_unit_at : {X : Type 0} (us : List UnitRecord) (n : ℕ) (u : UnitRecord) (r : Result X Error) (P : X → UnitRecord → Type 0) → n < length us → u ≡ get_or us n u → IfOk r (λ x. P x u)
    → IfOk r (λ x. IfSome (slice_get us n) (P x))
of_unit_at us n u (Ok x) P h e p = subst (λ o. IfSome o (P x)) (sym (got_unit us n u h e)) p
of_unit_at us n u (Err x) P h e p = tt
