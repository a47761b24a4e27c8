-- What was known of units stays known (on specs/EntriesStayKnown.antt).
use Rattle.addr2line_units.proofs.Common.{◌≡◌, ◌⊎◌, inl, inr, ℕ, zero, suc, ◌≤◌, arith, true, false, List, [], ◌∷◌, length, slice_get, Option, Some, None, option_map, Result, Ok, Err, refl, sym, ◌∙◌, subst, AllZip, Error, UnitRecord, Detail, AreCachedToFault, IsCachedToFault, IsFunctionMore, IsTableMore, CachedFunction, FunctionTable, Scope, LazyFunctions, ReadingDepth, CachedUnit, EntriesCache, ViewState, IsReadyFor, StayEntries, StayFunctions, HaveEntriesOf, answers_in, was_checked, known_answer, known_by, known_functions, known_in, known_table, KnownEntries, is_known_at, is_open_at}
use Rattle.std.specs.Prelude.{IfSome, unwrap_or}
use Rattle.addr2line_units.specs.declared.entries.LazyFunctions.TheVariants as lazy
use Rattle.addr2line_units.specs.declared.parses.ReadingDepth.TheVariants as depths
use Rattle.addr2line_units.specs.declared.unit.ViewState.TheVariants as states
use Rattle.addr2line_units.proofs.LoadsAnswerLemmas.{checked_waits}
use Rattle.addr2line_units.proofs.UnitsCachedLemmas.{entries_more_at}
use Rattle.addr2line_units.proofs.EntriesKnownLemmas.{known_is}
use Rattle.addr2line_units.proofs.EntriesKnownTableLemmas.{to_fault_cached, to_fault_known}
use Rattle.addr2line_units.specs.EntriesStayKnown.{IsReadyAt, StaysKnown, StaysKnownOf}
use Rattle.addr2line_units.proofs.EntriesLemmas.{checked_decides}
use Rattle.addr2line_units.proofs.UnitsCaches.{StayAllEntries, decided_at}

pub known_of_twice : (n : ℕ) (old mid new : List KnownEntries) → StaysKnownOf n old mid → StaysKnownOf n mid new → StaysKnownOf n old new
known_of_twice n old mid new a b = record {
  at = λ probe e. b.at probe (a.at probe e);
  whole = λ depth h. b.whole depth (a.whole depth h);
}

pub known_twice : (old mid new : List KnownEntries) → StaysKnown old mid → StaysKnown mid new → StaysKnown old new
known_twice old mid new a b n = known_of_twice n old mid new (a n) (b n)

-- what is the same of a unit stays known
pub same_stays_known : (n : ℕ) (old new : List KnownEntries) → slice_get new n ≡ slice_get old n → StaysKnownOf n old new
same_stays_known n old new same = record {
  at = λ probe e. subst (λ o. unwrap_or (option_map (is_known_at probe) o) true ≡ true) (sym same) e;
  whole = λ depth h. subst (λ o. IfSome o (IsReadyFor depth)) (sym same) h;
}

-- details that were cached up to the first fault still are where more is cached
cached_more : (fs gs : List CachedFunction) → AllZip IsFunctionMore fs gs → AreCachedToFault fs → AreCachedToFault gs
cached_more [] [] a h = tt
cached_more [] (g ∷ gs) a h = absurd a
cached_more (f ∷ fs) [] a h = absurd a
cached_more (f ∷ fs) (g ∷ gs) a h = by (λ k. cached_more fs gs a.1 k) f.detail refl h
  where
    by : (AreCachedToFault fs → AreCachedToFault gs) → (o : Option (Result Detail Error)) → f.detail ≡ o → IsCachedToFault o (AreCachedToFault fs) → IsCachedToFault g.detail (AreCachedToFault gs)
    by more None e k = absurd k
    by more (Some (Ok d)) e k = subst (λ o. IsCachedToFault o (AreCachedToFault gs)) (sym (a.0.detail (Ok d) e)) (more k)
    by more (Some (Err x)) e k = subst (λ o. IsCachedToFault o (AreCachedToFault gs)) (sym (a.0.detail (Err x) e)) k

table_whole : (r : ReadingDepth) (t u : FunctionTable) → IsTableMore t u → IsReadyFor r (known_table t) → IsReadyFor r (known_table u)
table_whole depths.Functions t u a h = tt
table_whole depths.Details t u a h = to_fault_known u.functions (cached_more t.functions u.functions a.functions (to_fault_cached t.functions h))

module _ {R : Type 0} where
  functions_whole : (r : ReadingDepth) (f g : LazyFunctions R) → StayFunctions f g → IsReadyFor r (known_functions f) → IsReadyFor r (known_functions g)
  functions_whole r lazy.Unread g a h = absurd h
  functions_whole r lazy.Absent g a h = subst (λ f. IsReadyFor r (known_functions f)) (sym a) h
  functions_whole r (lazy.Read t) lazy.Unread a h = absurd a
  functions_whole r (lazy.Read t) lazy.Absent a h = absurd a
  functions_whole r (lazy.Read t) (lazy.Read u) a h = table_whole r t.value u.value a h
  functions_whole r (lazy.Read t) (lazy.Faulty e) a h = absurd a
  functions_whole r (lazy.Faulty e) g a h = subst (λ f. IsReadyFor r (known_functions f)) (sym a) h

  answer_whole : {X : Type 0} (r : ReadingDepth) (x : Result X Error) (f g : LazyFunctions R) → StayFunctions f g → IsReadyFor r (known_answer x f) → IsReadyFor r (known_answer x g)
  answer_whole r (Ok x) f g a h = functions_whole r f g a h
  answer_whole r (Err e) f g a h = h

  view_whole : (r : ReadingDepth) (s : ViewState R) (f g : LazyFunctions R) → StayFunctions f g → IsReadyFor r (known_by s f) → IsReadyFor r (known_by s g)
  view_whole r states.Undecided f g a h = absurd h
  view_whole r states.Open f g a h = tt
  view_whole r states.Main f g a h = functions_whole r f g a h
  view_whole r (states.Unnamed x) f g a h = h
  view_whole r (states.Answered x) f g a h = answer_whole r x.unit f g a h

  pub whole_was_checked : (r : ReadingDepth) (s : ViewState R) (f : LazyFunctions R) → IsReadyFor r (known_by s f) → was_checked s ≡ true
  whole_was_checked r states.Undecided f h = absurd h
  whole_was_checked r states.Open f h = refl
  whole_was_checked r states.Main f h = refl
  whole_was_checked r (states.Unnamed x) f h = refl
  whole_was_checked r (states.Answered x) f h = refl

  pub entries_whole : (r : ReadingDepth) (v w : EntriesCache R) → StayEntries v w → IsReadyFor r (known_by v.view.state v.functions) → IsReadyFor r (known_by w.view.state w.functions)
  entries_whole r v w a h =
      subst (λ y. IsReadyFor r (known_by y.state w.functions)) (sym (a.view (whole_was_checked r v.view.state v.functions h)))
      (view_whole r v.view.state v.functions w.functions a.functions h)

  all_whole : (r : ReadingDepth) (vs ws : List (CachedUnit R)) → StayAllEntries vs ws → (n : ℕ) → IsReadyAt r (known_in vs) n → IsReadyAt r (known_in ws) n
  all_whole r [] [] a n h = h
  all_whole r [] (w ∷ ws) a n h = absurd a
  all_whole r (v ∷ vs) [] a n h = absurd a
  all_whole r (v ∷ vs) (w ∷ ws) a zero h = entries_whole r v.entries w.entries a.0 h
  all_whole r (v ∷ vs) (w ∷ ws) a (suc n) h = all_whole r vs ws a.1 n h

  -- where what is cached stays, so does what is known
  pub stays_known : (vs ws : List (CachedUnit R)) → StayAllEntries vs ws → StaysKnown (known_in vs) (known_in ws)
  stays_known vs ws a n = record {
    at = λ probe e. known_is probe ws n ∙ entries_more_at probe vs ws a n (sym (known_is probe vs n) ∙ e);
    whole = λ r h. all_whole r vs ws a n h;
  }

  -- a unit that isn't open, and of which all is known, is decided
  pub whole_is_decided : (r : ReadingDepth) (scope : Scope) (us : List UnitRecord) (vs : List (CachedUnit R)) (n : ℕ) → HaveEntriesOf scope us vs → is_open_at scope.file.sections us (answers_in vs) n ≡ false
      → IsReadyAt r (known_in vs) n → (decided_at vs n ≡ true) ⊎ (length us ≤ n)
  whole_is_decided r scope [] [] n own shut h = inr (omega arith)
  whole_is_decided r scope [] (v ∷ vs) n own shut h = absurd own
  whole_is_decided r scope (u ∷ us) [] n own shut h = absurd own
  whole_is_decided r scope (u ∷ us) (v ∷ vs) zero own shut h =
      let checked = whole_was_checked r v.entries.view.state v.entries.functions h in
      inl (checked_decides v.entries.view.state checked (checked_waits scope.file.sections u v.entries.view own.0.view checked ∙ shut))
  whole_is_decided r scope (u ∷ us) (v ∷ vs) (suc n) own shut h = elim (whole_is_decided r scope us vs n own.1 shut h) [ inl d ↦ inl d | inr m ↦ inr (omega (arith, m)) ]

  -- nothing is read of a unit that there isn't
  pub none_whole : (r : ReadingDepth) (vs : List (CachedUnit R)) (n : ℕ) → length vs ≤ n → IsReadyAt r (known_in vs) n
  none_whole r [] n h = tt
  none_whole r (v ∷ vs) zero h = absurd (omega (arith, h))
  none_whole r (v ∷ vs) (suc n) h = none_whole r vs n (omega (arith, h))
