-- Lookups of an address that no unit covers (on specs/Context.antt and specs/AfterLookups.antt).
use Rattle.addr2line.proofs.Common.{◌≡◌, ℕ, Bool, true, false, [], Option, Result, Ok, Err, is_ok, ap, refl, subst, sym, ◌∙◌, Error, ◌>>=◌, ExactlyUnlessOom, WasNotRefused, LookupResult, Load, Output, OnFault, cover, FindsNothing, LookupStop, Waits, holds_along, is_waiting, stop_along, IfLoad, IfOutput, IsOkOutput, UnitIndex, index_units, View, AfterFrames, AfterFramesOver, IsKnownFew, has_few_of, ContextState, IsUncovered, asked_of, ended_with, lookup_stop, stop_in, view_found, found_of_context}
use Rattle.addr2line_lines.proofs.Facts.{ok_is}

-- which units cover an address is told by the sections alone
pub still_uncovered : (probe : ℕ) (old new : ContextState) → new.sections ≡ old.sections → IsUncovered new probe → IsUncovered old probe
still_uncovered probe old new s u = (u.0, ap index_units (sym s) ∙ u.1, u.2)

-- all is known that a lookup asks for there
pub uncovered_few : (faults : OnFault) (probe : ℕ) (c : ContextState) → IsUncovered c probe → IsKnownFew faults c probe
uncovered_few faults probe c u = λ m e.
    let none = subst (λ (x : UnitIndex). cover probe x.ranges ≡ []) (ok_is _ _ (sym u.1 ∙ e)) u.2 in
    ap (λ ranges. holds_along (has_few_of c probe m) (asked_of faults c.sections c.answers probe m) ranges) none

module _ (faults : OnFault) (probe : ℕ) (c : ContextState) (u : IsUncovered c probe) where
  pub uncovered_stop : lookup_stop faults c.sections c.answers probe ≡ Ok FindsNothing
  uncovered_stop =
      ap (λ r. r >>= stop_in faults c.sections c.answers probe) u.1
      ∙ ap (λ ranges. stop_along (asked_of faults c.sections c.answers probe u.0) ranges) u.2

  -- a lookup of it is refused no memory
  uncovered_told : {X : Type 0} (r : Result X Error) (new : ContextState) → AfterFrames faults probe r c new → WasNotRefused r
  uncovered_told r new a =
      a.memory (uncovered_few faults probe new (still_uncovered probe new c (sym a.sections) u)) (ap is_waiting uncovered_stop)

  -- and it ends without a fault
  pub uncovered_ends : {L V X D S : Type 0} (shares : Bool) (see : X → V) (given : Result V Error) → is_ok given ≡ true → (new : ContextState) (result : LookupResult L (Result X Error) D S)
      → IfLoad result (λ _. (n : ℕ) × (lookup_stop faults c.sections c.answers probe ≡ Ok (Waits n))) → IfOutput result (λ o. AfterFramesOver shares faults probe o c new) → IfOutput result (λ o. ExactlyUnlessOom see o given) → IsOkOutput result
  uncovered_ends shares see given ok new (Load x) load after output =
      let f : true ≡ false = sym (ap is_waiting load.1) ∙ ap is_waiting uncovered_stop in
      absurd cc
  uncovered_ends shares see given ok new (Output (Ok x)) load after output = refl
  uncovered_ends shares see given ok new (Output (Err e)) load after output =
      let f : false ≡ true = sym (ap is_ok (output (uncovered_told (Err e) new after.after))) ∙ ok in
      absurd cc

-- what it gives there
pub uncovered_ok : {V : Type 0} (faults : OnFault) (value_of : LookupStop → Option View → V) (probe : ℕ) (c : ContextState) → IsUncovered c probe → is_ok (found_of_context faults value_of c probe) ≡ true
uncovered_ok faults value_of probe c u =
    ap (λ r. is_ok (r >>= λ s. Ok (ended_with (value_of s (view_found c.sections c.answers s)) s))) (uncovered_stop faults probe c u)
