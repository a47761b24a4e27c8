-- Lookups of frames along ranges (on specs/FramesLookup.antt and specs/FramesCached.antt).
use Rattle.addr2line_units.proofs.Common.{◌≡◌, ◌≢◌, ℕ, inl, inr, Bool, true, false, ◌&&◌, ◌||◌, List, [], ◌∷◌, Option, Some, None, Result, Ok, Err, refl, ap, sym, subst, ◌∙◌, DwLang, Error, OutOfMemory, ◌>>=◌, ExactlyUnlessOom, WasNotRefused, Section, InlinedEntry, Location, OnFault, Stop, Skip, FramesStop, UnitRange, CachedUnit, FrameRecord, frames_from, LookupStop, Finds, after_fault, ends_lookup, holds_along, or_stop, stop_along, found_after_fault, as_stop, stop_of_found, ParsesOnly, FramesResult, first_so}
use Rattle.std.specs.Prelude.{IfOk}
use Rattle.addr2line_units.specs.declared.frames.FramesStop.TheVariants as stops
use Rattle.addr2line_units.specs.declared.entries.UnitFrames.{UnitFrames}
use Rattle.addr2line_units.specs.declared.entries.UnitFrames.TheVariants as found
use Rattle.addr2line_units.proofs.UnitsCaches.{AreFoundAt, IsStopIn, frames_found_at}

-- a fault that a lookup passes over
module _ (faults : OnFault) where
  pub gives_after : (see : UnitFrames → Option (List FrameRecord)) (r : Result UnitFrames Error) (given : FramesResult) → see (found.Here None None) ≡ Some []
      → ExactlyUnlessOom see r given → ExactlyUnlessOom see (found_after_fault faults r) (after_fault faults given)
  gives_after see r given nothing h = of_faults faults r h
    where
      passed : (e : Error) → ExactlyUnlessOom see (Err e) given → ExactlyUnlessOom see (found_after_fault Skip (Err e)) (after_fault Skip given)
      passed OutOfMemory h = λ ne. absurd (ne refl)
      passed _ h = ap (after_fault Skip) (h (λ q. absurd cc)) ∙ ap (λ x. Ok x) (sym nothing)

      of_faults : (f : OnFault) (r : Result UnitFrames Error) → ExactlyUnlessOom see r given → ExactlyUnlessOom see (found_after_fault f r) (after_fault f given)
      of_faults Stop (Ok x) h = ap (after_fault Stop) h
      of_faults Stop (Err e) h = λ ne. ap (after_fault Stop) (h ne)
      of_faults Skip (Ok x) h = ap (after_fault Skip) h
      of_faults Skip (Err e) h = passed e h

  pub oom_before : (r : Result UnitFrames Error) → WasNotRefused (found_after_fault faults r) → WasNotRefused r
  oom_before r h = of_faults faults r h
    where
      passed : (e : Error) → WasNotRefused (found_after_fault Skip (Err e)) → e ≢ OutOfMemory
      passed OutOfMemory h = h
      passed _ h = λ q. absurd cc

      of_faults : (f : OnFault) (r : Result UnitFrames Error) → WasNotRefused (found_after_fault f r) → WasNotRefused r
      of_faults Stop (Ok x) h = tt
      of_faults Stop (Err e) h = h
      of_faults Skip (Ok x) h = tt
      of_faults Skip (Err e) h = passed e h

  pub oom_after : (r : Result UnitFrames Error) → WasNotRefused r → WasNotRefused (found_after_fault faults r)
  oom_after r h = of_faults faults r h
    where
      passed : (e : Error) → e ≢ OutOfMemory → WasNotRefused (found_after_fault Skip (Err e))
      passed OutOfMemory h = h
      passed _ h = tt

      of_faults : (f : OnFault) (r : Result UnitFrames Error) → WasNotRefused r → WasNotRefused (found_after_fault f r)
      of_faults Stop (Ok x) h = tt
      of_faults Stop (Err e) h = h
      of_faults Skip (Ok x) h = tt
      of_faults Skip (Err e) h = passed e h

  -- a refusal that isn't passed over is that of the unit
  pub refused_before : (r : Result UnitFrames Error) (x : Error) → found_after_fault faults r ≡ Err x → r ≡ Err x
  refused_before r x h = of_faults faults r h
    where
      passed : (e : Error) → found_after_fault Skip (Err e) ≡ Err x → ◌≡◌ {A = Result UnitFrames Error} (Err e) (Err x)
      passed OutOfMemory h = h
      passed _ h = absurd cc

      of_faults : (f : OnFault) (r : Result UnitFrames Error) → found_after_fault f r ≡ Err x → r ≡ Err x
      of_faults Stop (Ok y) h = h
      of_faults Stop (Err e) h = h
      of_faults Skip (Ok y) h = h
      of_faults Skip (Err e) h = passed e h

  pub there_after : {R : Type 0} (cs : List (CachedUnit R)) (n : ℕ) (r : Result UnitFrames Error) → IfOk r (AreFoundAt cs n) → IfOk (found_after_fault faults r) (AreFoundAt cs n)
  there_after cs n r h = of_faults faults r h
    where
      passed : (e : Error) → IfOk (found_after_fault Skip (Err e)) (AreFoundAt cs n)
      passed OutOfMemory = tt
      passed _ = tt

      of_faults : (f : OnFault) (r : Result UnitFrames Error) → IfOk r (AreFoundAt cs n) → IfOk (found_after_fault f r) (AreFoundAt cs n)
      of_faults Stop (Ok x) h = h
      of_faults Stop (Err e) h = h
      of_faults Skip (Ok x) h = h
      of_faults Skip (Err e) h = passed e

-- along ranges
module _ (frames : ℕ → FramesResult) (r : UnitRange) (rest : List UnitRange) where
  pub goes_on : frames r.unit ≡ Ok (Some []) → stop_along frames (r ∷ rest) ≡ stop_along frames rest
  goes_on e = ap (λ x. x >>= or_stop r.unit (stop_along frames rest)) e

  pub faults_there : (f : Error) → frames r.unit ≡ Err f → stop_along frames (r ∷ rest) ≡ Err f
  faults_there f e = ap (λ x. x >>= or_stop r.unit (stop_along frames rest)) e

  pub holds_first : (holds : ℕ → Bool) → holds_along holds frames (r ∷ rest) ≡ true → holds r.unit ≡ true
  holds_first holds e = first_so (holds r.unit) _ e

  pub holds_rest : (holds : ℕ → Bool) → ends_lookup (frames r.unit) ≡ false → holds_along holds frames (r ∷ rest) ≡ true → holds_along holds frames rest ≡ true
  holds_rest holds e k = of_bools (holds r.unit) (ends_lookup (frames r.unit)) (holds_along holds frames rest) e k
    where
      of_bools : (a b c : Bool) → b ≡ false → (a && (b || c)) ≡ true → c ≡ true
      of_bools true false c e k = k
      of_bools true true c e k = cc
      of_bools false b c e k = cc

  pub holds_both : (holds : ℕ → Bool) → holds r.unit ≡ true → holds_along holds frames rest ≡ true → holds_along holds frames (r ∷ rest) ≡ true
  holds_both holds a c = of_bools (holds r.unit) (ends_lookup (frames r.unit)) (holds_along holds frames rest) a c
    where
      of_bools : (a b c : Bool) → a ≡ true → c ≡ true → (a && (b || c)) ≡ true
      of_bools true true c e k = refl
      of_bools true false c e k = k
      of_bools false b c e k = e

  pub holds_ended : (holds : ℕ → Bool) → holds r.unit ≡ true → ends_lookup (frames r.unit) ≡ true → holds_along holds frames (r ∷ rest) ≡ true
  holds_ended holds a b = of_bools (holds r.unit) (ends_lookup (frames r.unit)) (holds_along holds frames rest) a b
    where
      of_bools : (a b c : Bool) → a ≡ true → b ≡ true → (a && (b || c)) ≡ true
      of_bools true true c e k = refl
      of_bools true false c e k = cc
      of_bools false b c e k = e

-- a function that is found has frames
has_frame : (files : List (List ℕ)) (language : Option DwLang) (offset : ℕ) (name : Option Section) (es : List InlinedEntry) (location : Option Location) (n : ℕ) (rest : Result LookupStop Error)
    → or_stop n rest (Some (frames_from files language offset name es location)) ≡ Ok (Finds n (frames_from files language offset name es location))
has_frame files language offset name [] location n rest = refl
has_frame files language offset name (e ∷ es) location n rest = refl

frame_ends : (files : List (List ℕ)) (language : Option DwLang) (offset : ℕ) (name : Option Section) (es : List InlinedEntry) (location : Option Location)
    → ends_lookup (Ok (Some (frames_from files language offset name es location))) ≡ true
frame_ends files language offset name [] location = refl
frame_ends files language offset name (e ∷ es) location = refl

-- what a lookup comes to in the unit of a number
module _ {R : Type 0} (cs : List (CachedUnit R)) (n : ℕ) where
  pub stop_there : (f : UnitFrames) (stop : FramesStop) → stop_of_found n f ≡ Some stop → AreFoundAt cs n f → IsStopIn cs stop
  stop_there found.Open stop e h = let same : stops.Waits n ≡ stop = cc in subst (IsStopIn cs) same tt
  stop_there (found.Here None None) stop e h = cc
  stop_there (found.Here None (Some row)) stop e h =
      let same : stops.Finds (record { unit = n; function = None; row = Some row }) ≡ stop = cc in subst (IsStopIn cs) same h
  stop_there (found.Here (Some p) row) stop e h =
      let same : stops.Finds (record { unit = n; function = Some p; row = row }) ≡ stop = cc in subst (IsStopIn cs) same h

  pub stop_is : (f : UnitFrames) (stop : FramesStop) (rest : Result LookupStop Error) → stop_of_found n f ≡ Some stop → or_stop n rest (frames_found_at cs n f) ≡ Ok (as_stop cs stop)
  stop_is found.Open stop rest e = let same : stops.Waits n ≡ stop = cc in ap (λ s. Ok (as_stop cs s)) same
  stop_is (found.Here None None) stop rest e = cc
  stop_is (found.Here None (Some row)) stop rest e =
      let same : stops.Finds (record { unit = n; function = None; row = Some row }) ≡ stop = cc in ap (λ s. Ok (as_stop cs s)) same
  stop_is (found.Here (Some p) row) stop rest e =
      let same : stops.Finds (record { unit = n; function = Some p; row = row }) ≡ stop = cc in
      has_frame _ _ _ _ _ _ n rest ∙ ap (λ s. Ok (as_stop cs s)) same

  pub stop_ends : (f : UnitFrames) (stop : FramesStop) → stop_of_found n f ≡ Some stop → ends_lookup (Ok (frames_found_at cs n f)) ≡ true
  stop_ends found.Open stop e = refl
  stop_ends (found.Here None None) stop e = cc
  stop_ends (found.Here None (Some row)) stop e = refl
  stop_ends (found.Here (Some p) row) stop e = frame_ends _ _ _ _ _ _

  -- where the lookup goes on there are no frames
  pub no_stop : (f : UnitFrames) → stop_of_found n f ≡ None → frames_found_at cs n f ≡ Some []
  no_stop found.Open e = cc
  no_stop (found.Here None None) e = refl
  no_stop (found.Here None (Some row)) e = cc
  no_stop (found.Here (Some p) row) e = cc

-- what is parsed by one more step is parsed by all of them
pub parses_more : (IsAsked IsStep : ℕ → Type 0) (first mid now : List Bool) → ParsesOnly IsAsked first mid → ParsesOnly IsStep mid now → ((n : ℕ) → IsStep n → IsAsked n) → ParsesOnly IsAsked first now
parses_more IsAsked IsStep first mid now before step asked n e = elim (step n e) [ inl p ↦ before n p | inr q ↦ inr (asked n q) ]
