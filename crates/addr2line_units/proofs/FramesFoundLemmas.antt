-- The unit in which a lookup of frames has found something (on specs/FramesLookup.antt and
-- specs/UnitsCached.antt).
use Rattle.addr2line_units.proofs.Common.{◌≡◌, ℕ, Bool, true, false, ◌&&◌, ◌||◌, List, [], ◌∷◌, Option, Some, None, Result, Ok, Err, ap, refl, subst, Error, ◌>>=◌, ExactlyUnlessOom, WasNotRefused, Sections, UnitRecord, Scope, OnFault, Stop, Skip, FramesStop, UnitRange, CachedUnit, indexed_units, FrameRecord, LookupStop, Waits, Finds, FindsNothing, after_fault, asked_frames, ends_lookup, holds_along, or_stop, stop_along, HaveEntriesOf, answers_in, IsLendable, as_stop, FramesResult, frames_by, frames_in, function_in, IndexedUnit, FirstAnswers, is_open, frames_by_lines, unit_lines, first_so, second_so, or_right}
use Rattle.std.specs.Prelude.{IfOk, if◌then◌else◌}
use Rattle.addr2line_units.specs.declared.frames.FramesStop.TheVariants as stops
use Rattle.addr2line_units.proofs.FramesWaitLemmas.{waits_where_told}
use Rattle.addr2line_units.proofs.UnitsCaches.{IsStopIn, has_frames_at}

number_of : LookupStop → ℕ → ℕ
number_of (Waits n) d = d
number_of (Finds n frames) d = n
number_of FindsNothing d = d

same_number : (n k : ℕ) (fs gs : List FrameRecord) → ◌≡◌ {A = Result LookupStop Error} (Ok (Finds n fs)) (Ok (Finds k gs)) → n ≡ k
unfolding number_of
same_number n k fs gs e = let s : ◌≡◌ {A = LookupStop} (Finds n fs) (Finds k gs) = cc in ap (λ x. number_of x 0) s

-- whether there are frames
unfoldable pub has_frames : FramesResult → Bool
has_frames (Ok (Some (f ∷ frames))) = true
has_frames (Ok (Some [])) = false
has_frames (Ok None) = false
has_frames (Err e) = false

-- a lookup that has found something in a unit was told so by it, and of it holds what holds along
-- the ranges
module _ (holds : ℕ → Bool) (frames : ℕ → FramesResult) (n : ℕ) (fs : List FrameRecord) where
  told : (k : ℕ) (rest : Result LookupStop Error) (more : Bool) (r : FramesResult) → frames k ≡ r → (holds k && (ends_lookup r || more)) ≡ true → (r >>= or_stop k rest) ≡ Ok (Finds n fs)
      → (rest ≡ Ok (Finds n fs) → more ≡ true → (has_frames (frames n) ≡ true) × (holds n ≡ true)) → (has_frames (frames n) ≡ true) × (holds n ≡ true)
  unfolding has_frames
  told k rest more (Err x) e h w further = absurd cc
  told k rest more (Ok None) e h w further = absurd cc
  told k rest more (Ok (Some [])) e h w further = further w (second_so (holds k) more h)
  told k rest more (Ok (Some (g ∷ gs))) e h w further =
      let same = same_number k n (g ∷ gs) fs w in
      (subst (λ j. has_frames (frames j) ≡ true) same (ap has_frames e), subst (λ j. holds j ≡ true) same (first_so (holds k) true h))

  pub found_along : (ranges : List UnitRange) → holds_along holds frames ranges ≡ true → stop_along frames ranges ≡ Ok (Finds n fs) → (has_frames (frames n) ≡ true) × (holds n ≡ true)
  found_along [] h w = absurd cc
  found_along (r ∷ ranges) h w =
      told r.unit (stop_along frames ranges) (holds_along holds frames ranges) (frames r.unit) refl h w (λ v m. found_along ranges m v)

pub always_along : (frames : ℕ → FramesResult) (ranges : List UnitRange) → holds_along (λ _. true) frames ranges ≡ true
always_along frames [] = refl
always_along frames (r ∷ ranges) = or_right (ends_lookup (frames r.unit)) _ (always_along frames ranges)

pub found_by_unit : (faults : OnFault) (r : FramesResult) → has_frames (after_fault faults r) ≡ true → has_frames r ≡ true
unfolding has_frames
found_by_unit faults (Ok x) e = e
found_by_unit Stop (Err x) e = e
found_by_unit Skip (Err x) e = absurd cc

-- only a unit that is decided has frames
pub decided_by_frames : (scope : Scope) (u : IndexedUnit) (answer : Option (Option Sections)) (probe : ℕ) → has_frames (frames_in scope u answer probe) ≡ true → is_open scope.file.sections u.unit answer ≡ false
unfolding frames_by_lines has_frames
decided_by_frames scope u answer probe e = of_open (is_open scope.file.sections u.unit answer) (frames_by u.language (unit_lines scope.file.sections u.unit) probe (function_in scope u.unit answer probe)) e
  where
    of_open : (b : Bool) (r : Result (List FrameRecord) Error) → has_frames (if b then Ok None else (r >>= λ frames. Ok (Some frames))) ≡ true → b ≡ false
    of_open true r k = absurd cc
    of_open false r k = refl

-- what a lookup has come to can be lent, where all is known that it asks for
module _ {R : Type 0} (scope : Scope) (probe : ℕ) where
  pub lendable_if_told : (faults : OnFault) (us : List UnitRecord) (vs : List (CachedUnit R)) (units : List IndexedUnit) (answers : FirstAnswers) (asks_lines : ℕ → Bool)
      (ranges : List UnitRange) (r : Result FramesStop Error) → HaveEntriesOf scope us vs → units ≡ indexed_units us vs → answers ≡ answers_in vs → IfOk r (IsStopIn vs)
      → ExactlyUnlessOom (as_stop vs) r (stop_along (asked_frames faults scope units answers probe) ranges)
      → (WasNotRefused r → holds_along (has_frames_at asks_lines probe vs) (asked_frames faults scope units answers probe) ranges ≡ true) → IfOk r (IsLendable vs)
  lendable_if_told faults us vs units answers asks_lines ranges (Err x) own e f there gives ready = tt
  lendable_if_told faults us vs units answers asks_lines ranges (Ok stops.FindsNothing) own e f there gives ready = tt
  lendable_if_told faults us vs units answers asks_lines ranges (Ok (stops.Finds p)) own e f there gives ready = there
  lendable_if_told faults us vs units answers asks_lines ranges (Ok (stops.Waits n)) own e f there gives ready =
      waits_where_told scope probe faults us vs asks_lines ranges n own
      (subst (λ a. holds_along (has_frames_at asks_lines probe vs) (asked_frames faults scope (indexed_units us vs) a probe) ranges ≡ true) f
      (subst (λ xs. holds_along (has_frames_at asks_lines probe vs) (asked_frames faults scope xs answers probe) ranges ≡ true) e (ready tt)))
      (subst (λ a. stop_along (asked_frames faults scope (indexed_units us vs) a probe) ranges ≡ Ok (Waits n)) f
      (subst (λ xs. stop_along (asked_frames faults scope xs answers probe) ranges ≡ Ok (Waits n)) e gives))
