-- Functions and views of which all is known that a parse reads, up to the first fault (on
-- specs/Parses.antt).
use Rattle.addr2line_units.proofs.Common.{◌≡◌, ◌≢◌, ◌∙◌, ℕ, zero, suc, Bool, true, List, [], ◌∷◌, Option, Some, Result, Ok, Err, refl, ap, sym, subst, Error, OutOfMemory, ◌>>=◌, WasNotRefused, Sections, UnitRecord, FunctionRange, entries_of, functions_of, Scope, LazyFunctions, ReadingDepth, ViewState, AreReadBefore, IsReadyFor, first_decided, read_of_number, details_at, functions_fault, were_read, is_decided, as_sections, unboxed, verdict_in, view_by, known_answer, known_by, known_fault, known_functions, AllKnown, NothingKnown, FirstAnswers, View}
use Rattle.std.specs.Prelude.{IfSome, if◌then◌else◌, Box}
use Rattle.std.specs.declared.alloc.Global.{Global}
use Rattle.addr2line_units.specs.declared.entries.LazyFunctions.TheVariants as lazy
use Rattle.addr2line_units.specs.declared.unit.ViewState.TheVariants as states
use Rattle.addr2line_units.proofs.EntriesPlaceLemmas.{cached_unless_oom}
use Rattle.addr2line_units.proofs.ParsesLemmas.{unit_again}

pub not_oom : {X : Type 0} (r : Result X Error) → WasNotRefused r → r ≢ Err OutOfMemory
not_oom (Ok x) h = λ e. cc
not_oom (Err e) h = λ q. h (let same : e ≡ OutOfMemory = cc in same)

-- a fault that is cached is known
pub ready_fault : (r : ReadingDepth) (e : Error) → e ≢ OutOfMemory → IsReadyFor r (known_fault e)
ready_fault r e ne = subst (λ (b : Bool). IsReadyFor r (if b then AllKnown else NothingKnown)) (sym (cached_unless_oom e ne)) tt

-- a fault that is known isn't OutOfMemory
pub known_not_oom : (r : ReadingDepth) (e : Error) → IsReadyFor r (known_fault e) → e ≢ OutOfMemory
known_not_oom r OutOfMemory h = absurd h
known_not_oom r _ h = λ q. absurd cc

-- an answer that isn't OutOfMemory
pub had_not_oom : {X : Type 0} (r : Result X Error) → r ≢ Err OutOfMemory → WasNotRefused r
had_not_oom (Ok x) h = tt
had_not_oom (Err e) h = λ q. h (ap (λ x. Err x) q)

module _ {R : Type 0} (r : ReadingDepth) where
  -- functions that are known were read
  pub ready_were_read : (f : LazyFunctions R) → IsReadyFor r (known_functions f) → were_read f ≡ true
  ready_were_read lazy.Unread h = absurd h
  ready_were_read lazy.Absent h = refl
  ready_were_read (lazy.Read t) h = refl
  ready_were_read (lazy.Faulty e) h = refl

-- the fault of functions is that of a parse with details
pub fault_of_functions : (scope : Scope) (view : UnitRecord) (e : Error) → functions_of scope.file.sections view ≡ Err e → functions_fault scope view ≡ Err e
fault_of_functions scope view e h = ap (λ (r : Result (List FunctionRange) Error). r >>= λ ranges. details_at scope view (entries_of ranges)) h

-- functions that were known and stay as they are
module _ {R : Type 0} (r : ReadingDepth) (old mid : LazyFunctions R) (kept : were_read old ≡ true → (mid ≡ old)) (ready : IsReadyFor r (known_functions old)) where
  pub ready_same : mid ≡ old
  ready_same = kept (ready_were_read r old ready)

  pub ready_then : (new : LazyFunctions R) → mid ≡ new → IsReadyFor r (known_functions new)
  ready_then new e = subst (λ (f : LazyFunctions R). IsReadyFor r (known_functions f)) (sym ready_same ∙ e) ready

-- what is known of a unit whose view is decided, by the view
module _ {R : Type 0} (d : Sections) (u : UnitRecord) (here : Option (Result View Error)) where
  pub fault_by_view : (x : Error) (s : ViewState R) (f : LazyFunctions R) → is_decided s ≡ true → IfSome (verdict_in d u s) (λ cached. cached ≡ here) → here ≡ Some (Err x) → known_by s f ≡ known_fault x
  fault_by_view x states.Undecided f k right e = cc
  fault_by_view x states.Open f k right e = cc
  fault_by_view x states.Main f k right e = let no = right ∙ e in absurd cc
  fault_by_view x (states.Unnamed y) f k right e = let both = right ∙ e in let same : y ≡ x = cc in ap known_fault same
  fault_by_view x (states.Answered a) f k right e = by_unit a.unit (right ∙ e)
    where
      by_unit : (r : Result (Option (Box UnitRecord Global)) Error) → Some (unboxed r >>= λ y. Ok (view_by d u (as_sections a) y)) ≡ Some (Err x) → known_answer r f ≡ known_fault x
      by_unit (Ok y) q = absurd cc
      by_unit (Err y) q = let same : y ≡ x = cc in ap known_fault same

  pub functions_by_view : (v : View) (s : ViewState R) (f : LazyFunctions R) → is_decided s ≡ true → IfSome (verdict_in d u s) (λ cached. cached ≡ here) → here ≡ Some (Ok v) → known_by s f ≡ known_functions f
  functions_by_view v states.Undecided f k right e = cc
  functions_by_view v states.Open f k right e = cc
  functions_by_view v states.Main f k right e = refl
  functions_by_view v (states.Unnamed y) f k right e = let no = right ∙ e in absurd cc
  functions_by_view v (states.Answered a) f k right e = by_unit a.unit (right ∙ e)
    where
      by_unit : (r : Result (Option (Box UnitRecord Global)) Error) → Some (unboxed r >>= λ y. Ok (view_by d u (as_sections a) y)) ≡ Some (Ok v) → known_answer r f ≡ known_functions f
      by_unit (Ok y) q = refl
      by_unit (Err y) q = absurd cc

-- what is read of a unit is the same where units are decided, up to some number
pub number_decided : (r : ReadingDepth) (scope : Scope) (us : List UnitRecord) (answers : FirstAnswers) (n m : ℕ) → read_of_number r scope us (first_decided scope.file.sections n us answers) m ≡ read_of_number r scope us answers m
number_decided r scope us answers zero m = refl
number_decided r scope [] answers (suc n) m = refl
number_decided r scope (u ∷ us) [] (suc n) m = refl
number_decided r scope (u ∷ us) (a ∷ answers) (suc n) zero = unit_again r scope u a
number_decided r scope (u ∷ us) (a ∷ answers) (suc n) (suc m) = number_decided r scope us answers n m

-- what could be read before a unit, can be read then
pub before_decided : (r : ReadingDepth) (scope : Scope) (us : List UnitRecord) (old new : FirstAnswers) (n k : ℕ) → new ≡ first_decided scope.file.sections n us old → AreReadBefore r scope us old k → AreReadBefore r scope us new k
before_decided r scope us old new n k is before m l = ap (λ a. read_of_number r scope us a m) is ∙ number_decided r scope us old n m ∙ before m l
