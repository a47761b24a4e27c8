-- What is known of units that were read, and of units that aren't open (on specs/EntriesStayKnown.antt).
use Rattle.addr2line_units.proofs.Common.{◌≡◌, ◌⊎◌, inl, inr, ℕ, zero, suc, ◌≤◌, arith, Bool, true, false, List, [], ◌∷◌, length, Option, Some, refl, ◌∙◌, Sections, UnitRecord, Scope, is_open_at, LazyFunctions, ReadingDepth, CachedUnit, ViewState, were_read, HaveEntriesOf, answers_in, answer_of, answer_in, is_decided, known_by, known_functions, NothingKnown, AllKnown}
use Rattle.std.specs.Prelude.{if◌then◌else◌}
use Rattle.addr2line_units.specs.declared.entries.LazyFunctions.TheVariants as lazy
use Rattle.addr2line_units.specs.declared.unit.ViewState.TheVariants as states
use Rattle.addr2line_units.proofs.LoadsAnswerLemmas.{checked_waits}
use Rattle.addr2line_units.proofs.FramesWaitLemmas.{known_was_checked}
use Rattle.addr2line_units.specs.EntriesStayKnown.{IsReadBy}
use Rattle.addr2line_units.proofs.EntriesLemmas.{checked_decides}
use Rattle.addr2line_units.proofs.UnitsCaches.{decided_at, has_entries_at}

-- no fault was read
pub never_fault : (depth : ReadingDepth) (b : Bool) → IsReadBy depth (if b then AllKnown else NothingKnown) → ⊥
never_fault depth true h = h
never_fault depth false h = h

module _ {R : Type 0} where
  -- of what a parse has read the functions were read, and the view is decided
  pub read_were_read : (depth : ReadingDepth) (f : LazyFunctions R) → IsReadBy depth (known_functions f) → were_read f ≡ true
  read_were_read depth lazy.Unread h = absurd h
  read_were_read depth lazy.Absent h = refl
  read_were_read depth (lazy.Read t) h = refl
  read_were_read depth (lazy.Faulty e) h = refl

  pub read_decided : (depth : ReadingDepth) (s : ViewState R) (f : LazyFunctions R) → IsReadBy depth (known_by s f) → is_decided s ≡ true
  read_decided depth states.Undecided f h = absurd h
  read_decided depth states.Open f h = absurd h
  read_decided depth states.Main f h = refl
  read_decided depth (states.Unnamed e) f h = refl
  read_decided depth (states.Answered a) f h = refl

  -- the view of a unit that isn't open and of which something is known
  pub known_is_decided : (scope : Scope) (probe : ℕ) (us : List UnitRecord) (vs : List (CachedUnit R)) (n : ℕ) → HaveEntriesOf scope us vs → is_open_at scope.file.sections us (answers_in vs) n ≡ false
      → has_entries_at probe vs n ≡ true → (decided_at vs n ≡ true) ⊎ (length us ≤ n)
  known_is_decided scope probe [] [] n own shut e = inr (omega arith)
  known_is_decided scope probe [] (v ∷ vs) n own shut e = absurd own
  known_is_decided scope probe (u ∷ us) [] n own shut e = absurd own
  known_is_decided scope probe (u ∷ us) (v ∷ vs) zero own shut e =
      let checked = known_was_checked probe v.entries e in
      inl (checked_decides v.entries.view.state checked (checked_waits scope.file.sections u v.entries.view own.0.view checked ∙ shut))
  known_is_decided scope probe (u ∷ us) (v ∷ vs) (suc n) own shut e = elim (known_is_decided scope probe us vs n own.1 shut e) [ inl d ↦ inl d | inr m ↦ inr (omega (arith, m)) ]

  -- nothing is asked of a unit that there isn't
  pub none_asked : (probe : ℕ) (vs : List (CachedUnit R)) (n : ℕ) → length vs ≤ n → has_entries_at probe vs n ≡ true
  none_asked probe [] n h = refl
  none_asked probe (v ∷ vs) zero h = absurd (omega (arith, h))
  none_asked probe (v ∷ vs) (suc n) h = none_asked probe vs n (omega (arith, h))

  answered_state : (s : ViewState R) (first : Option Sections) → answer_in s ≡ Some first → is_decided s ≡ true
  answered_state states.Undecided first e = absurd cc
  answered_state states.Open first e = absurd cc
  answered_state states.Main first e = refl
  answered_state (states.Unnamed x) first e = refl
  answered_state (states.Answered a) first e = refl

  -- a unit that has an answer is decided
  pub answered_is_decided : (vs : List (CachedUnit R)) (n : ℕ) (first : Option Sections) → answer_of (answers_in vs) n ≡ Some first → decided_at vs n ≡ true
  answered_is_decided [] n first e = absurd cc
  answered_is_decided (v ∷ vs) zero first e = answered_state v.entries.view.state first e
  answered_is_decided (v ∷ vs) (suc n) first e = answered_is_decided vs n first e
