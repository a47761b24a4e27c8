-- What is cached of the entries of all units, one unit after another (on specs/EntriesCached.antt
-- and specs/UnitsCached.antt).
use Rattle.addr2line_units.proofs.Common.{◌≡◌, ◌≢◌, ℕ, zero, suc, ◌<◌, inl, inr, true, List, [], ◌∷◌, length, get_or, slice_get, Option, Some, None, option_and_then, Result, Ok, Err, refl, ap, sym, subst, ◌∙◌, arith, set, AllZip, Error, UnitRecord, Detail, CachedFunction, FunctionTable, cached_detail, function_place_at, IsFunctionMore, IsTableMore, Scope, LazyFunctions, CachedUnit, EntriesCache, ViewState, AreEntriesOf, ReadsEntriesOf, StayEntries, has_answered, has_entries, has_entries_by, first_answer_of, StayFunctions, has_detail, cached_has_function, has_place, cached_functions, no_functions, known_by, known_in, HaveLinesOf, indexed_unit, indexed_units, is_parsed, parsed_units, HaveCachesOf, HaveEntriesOf, IsCacheOf, answers_in, was_checked, functions_same}
use Rattle.std.specs.Prelude.{IfSome}
use Rattle.addr2line_lines.proofs.CachedNameLemmas.{names_same}
use Rattle.addr2line_lines.proofs.NestingLemmas.{grown_not}
use Rattle.addr2line_units.specs.declared.entries.LazyFunctions.TheVariants as lazy
use Rattle.addr2line_units.specs.declared.unit.ViewState.TheVariants as states
use Rattle.addr2line_units.proofs.EntriesFunctionLemmas.{place_stays}
use Rattle.addr2line_units.proofs.UnitsCaches.{HaveSameEntries, HaveSameLines, ReadsOnly, StayAllEntries, has_entries_at}

-- a detail that is cached is cached where more is
more_detail : (a b : Option (Result Detail Error)) → ((d : Result Detail Error) → a ≡ Some d → b ≡ Some d) → has_detail a ≡ true → has_detail b ≡ true
more_detail None b h e = cc
more_detail (Some d) b h e = ap has_detail (h d refl) ∙ e

detail_more : (fs gs : List CachedFunction) → AllZip IsFunctionMore fs gs → (n : ℕ) (d : Result Detail Error)
    → option_and_then (λ (f : CachedFunction). f.detail) (slice_get fs n) ≡ Some d → option_and_then (λ (f : CachedFunction). f.detail) (slice_get gs n) ≡ Some d
detail_more [] gs all n d e = cc
detail_more (f ∷ fs) [] all n d e = absurd all
detail_more (f ∷ fs) (g ∷ gs) all zero d e = all.0.detail d e
detail_more (f ∷ fs) (g ∷ gs) all (suc n) d e = detail_more fs gs all.1 n d e

place_more : (t u : FunctionTable) → IsTableMore t u → (p : Option ℕ) → has_place t p ≡ true → has_place u p ≡ true
place_more t u a None e = refl
place_more t u a (Some n) e = more_detail (cached_detail t n) (cached_detail u n) (detail_more t.functions u.functions a.functions n) e

-- without functions there is none at an address
none_at : (probe n : ℕ) → function_place_at probe no_functions ≡ Some n → ⊥
none_at probe n e = cc

module _ {R : Type 0} where
  stays_same : (f : LazyFunctions R) → StayFunctions f f
  stays_same lazy.Unread = tt
  stays_same lazy.Absent = refl
  stays_same (lazy.Read t) = record { ranges = refl; functions = functions_same t.value.functions; inlined = grown_not t.value.inlined; names = names_same t.value.names }
  stays_same (lazy.Faulty e) = refl

  pub entries_same : (v : EntriesCache R) → StayEntries v v
  entries_same v = record { answer = refl; view = λ e. refl; functions = stays_same v.functions }

  pub stay_entries : (vs : List (CachedUnit R)) → StayAllEntries vs vs
  stay_entries [] = tt
  stay_entries (v ∷ vs) = (entries_same v.entries, stay_entries vs)

  -- those of one unit are others, which stay
  pub stay_entries_set : (vs : List (CachedUnit R)) (n : ℕ) (v w : CachedUnit R) → n < length vs → v ≡ get_or vs n v → StayEntries v.entries w.entries → StayAllEntries vs (set vs n w)
  stay_entries_set [] n v w h e k = absurd (omega arith)
  stay_entries_set (x ∷ vs) zero v w h e k = (subst (λ (y : CachedUnit R). StayEntries y.entries w.entries) e k, stay_entries vs)
  stay_entries_set (x ∷ vs) (suc n) v w h e k = (entries_same x.entries, stay_entries_set vs n v w (omega arith) e k)

  -- the first answers are the same
  pub same_answers : (vs ws : List (CachedUnit R)) → StayAllEntries vs ws → answers_in ws ≡ answers_in vs
  same_answers [] [] a = refl
  same_answers [] (w ∷ ws) a = absurd a
  same_answers (v ∷ vs) [] a = absurd a
  same_answers (v ∷ vs) (w ∷ ws) a = ap (λ x. x ∷ answers_in ws) a.0.answer ∙ ap (λ xs. first_answer_of v.entries ∷ xs) (same_answers vs ws a.1)

  pub answer_at : (vs : List (CachedUnit R)) (n : ℕ) (v : CachedUnit R) → n < length vs → v ≡ get_or vs n v → slice_get (answers_in vs) n ≡ Some (first_answer_of v.entries)
  answer_at [] n v h e = absurd (omega arith)
  answer_at (x ∷ vs) zero v h e = ap (λ (y : CachedUnit R). Some (first_answer_of y.entries)) (sym e)
  answer_at (x ∷ vs) (suc n) v h e = answer_at vs n v (omega arith) e

  -- beside each unit stands what is cached of its entries
  pub as_many_entries : (scope : Scope) (us : List UnitRecord) (vs : List (CachedUnit R)) → HaveEntriesOf scope us vs → length us ≡ length vs
  as_many_entries scope [] [] own = refl
  as_many_entries scope [] (v ∷ vs) own = absurd own
  as_many_entries scope (u ∷ us) [] own = absurd own
  as_many_entries scope (u ∷ us) (v ∷ vs) own = ap suc (as_many_entries scope us vs own.1)

  pub entries_at : (scope : Scope) (us : List UnitRecord) (vs : List (CachedUnit R)) (n : ℕ) (u : UnitRecord) (v : CachedUnit R) → n < length vs → u ≡ get_or us n u → v ≡ get_or vs n v → HaveEntriesOf scope us vs → AreEntriesOf scope u v.entries
  entries_at scope [] [] n u v h e f own = absurd (omega arith)
  entries_at scope [] (y ∷ vs) n u v h e f own = absurd own
  entries_at scope (x ∷ us) [] n u v h e f own = absurd own
  entries_at scope (x ∷ us) (y ∷ vs) zero u v h e f own = subst (λ (a : UnitRecord). AreEntriesOf scope a v.entries) (sym e) (subst (λ (b : CachedUnit R). AreEntriesOf scope x b.entries) (sym f) own.0)
  entries_at scope (x ∷ us) (y ∷ vs) (suc n) u v h e f own = entries_at scope us vs n u v (omega arith) e f own.1

  pub entries_set : (scope : Scope) (us : List UnitRecord) (vs : List (CachedUnit R)) (n : ℕ) (u : UnitRecord) (w : CachedUnit R) → u ≡ get_or us n u → HaveEntriesOf scope us vs → AreEntriesOf scope u w.entries → HaveEntriesOf scope us (set vs n w)
  entries_set scope [] [] n u w e own h = tt
  entries_set scope [] (y ∷ vs) n u w e own h = absurd own
  entries_set scope (x ∷ us) [] n u w e own h = absurd own
  entries_set scope (x ∷ us) (y ∷ vs) zero u w e own h = (subst (λ (a : UnitRecord). AreEntriesOf scope a w.entries) e h, own.1)
  entries_set scope (x ∷ us) (y ∷ vs) (suc n) u w e own h = (own.0, entries_set scope us vs n u w e own.1 h)

  -- what is found by what is cached is found by it where more is cached
  function_more : (probe : ℕ) (f g : LazyFunctions R) → StayFunctions f g → cached_has_function probe f ≡ true → cached_has_function probe g ≡ true
  function_more probe lazy.Unread g a e = cc
  function_more probe lazy.Absent g a e = ap (cached_has_function probe) a ∙ e
  function_more probe (lazy.Read t) (lazy.Read u) a e = ap (has_place u.value) (place_stays probe t.value u.value a) ∙ place_more t.value u.value a (function_place_at probe t.value) e
  function_more probe (lazy.Read t) lazy.Unread a e = absurd a
  function_more probe (lazy.Read t) lazy.Absent a e = absurd a
  function_more probe (lazy.Read t) (lazy.Faulty x) a e = absurd a
  function_more probe (lazy.Faulty x) g a e = ap (cached_has_function probe) a ∙ e

  answered_more : {X : Type 0} (probe : ℕ) (r : Result X Error) (f g : LazyFunctions R) → StayFunctions f g → has_answered probe r f ≡ true → has_answered probe r g ≡ true
  answered_more probe (Ok x) f g a e = function_more probe f g a e
  answered_more probe (Err x) f g a e = e

  entries_more_by : (probe : ℕ) (s : ViewState R) (f g : LazyFunctions R) → StayFunctions f g → has_entries_by probe s f ≡ true → has_entries_by probe s g ≡ true
  entries_more_by probe states.Undecided f g a e = e
  entries_more_by probe states.Open f g a e = refl
  entries_more_by probe states.Main f g a e = function_more probe f g a e
  entries_more_by probe (states.Unnamed x) f g a e = e
  entries_more_by probe (states.Answered x) f g a e = answered_more probe x.unit f g a e

  checked_by : (probe : ℕ) (s : ViewState R) (f : LazyFunctions R) → has_entries_by probe s f ≡ true → was_checked s ≡ true
  checked_by probe states.Undecided f e = e
  checked_by probe states.Open f e = refl
  checked_by probe states.Main f e = refl
  checked_by probe (states.Unnamed x) f e = refl
  checked_by probe (states.Answered x) f e = refl

  pub entries_more : (probe : ℕ) (v w : EntriesCache R) → StayEntries v w → has_entries probe v ≡ true → has_entries probe w ≡ true
  entries_more probe v w a e = ap (λ y. has_entries_by probe y.state w.functions) (a.view (checked_by probe v.view.state v.functions e)) ∙ entries_more_by probe v.view.state v.functions w.functions a.functions e

  pub entries_more_at : (probe : ℕ) (vs ws : List (CachedUnit R)) → StayAllEntries vs ws → (n : ℕ) → has_entries_at probe vs n ≡ true → has_entries_at probe ws n ≡ true
  entries_more_at probe [] [] a n e = refl
  entries_more_at probe [] (w ∷ ws) a n e = absurd a
  entries_more_at probe (v ∷ vs) [] a n e = absurd a
  entries_more_at probe (v ∷ vs) (w ∷ ws) a zero e = entries_more probe v.entries w.entries a.0 e
  entries_more_at probe (v ∷ vs) (w ∷ ws) a (suc n) e = entries_more_at probe vs ws a.1 n e

  -- what one step reads and what the next one reads is what both read
  place_after : (probe : ℕ) (f g : LazyFunctions R) → StayFunctions f g → (n : ℕ) → function_place_at probe (cached_functions g) ≢ Some n → function_place_at probe (cached_functions f) ≢ Some n
  place_after probe lazy.Unread g a n ne = none_at probe n
  place_after probe lazy.Absent g a n ne = none_at probe n
  place_after probe (lazy.Read t) (lazy.Read u) a n ne = λ e. ne (place_stays probe t.value u.value a ∙ e)
  place_after probe (lazy.Read t) lazy.Unread a n ne = absurd a
  place_after probe (lazy.Read t) lazy.Absent a n ne = absurd a
  place_after probe (lazy.Read t) (lazy.Faulty x) a n ne = absurd a
  place_after probe (lazy.Faulty x) g a n ne = none_at probe n

  reads_on : (probe : ℕ) (v w x : EntriesCache R) → StayEntries w x → ReadsEntriesOf probe v w → ReadsEntriesOf probe w x → ReadsEntriesOf probe v x
  reads_on probe v w x stay a b = record {
    alone = λ n ne. b.alone n ne ∙ a.alone n (place_after probe w.functions x.functions stay.functions n ne);
    kept = λ e. b.kept (ap (has_entries probe) (a.kept e) ∙ e) ∙ a.kept e;
  }

  abbrev StayAt : Option (CachedUnit R) → Option (CachedUnit R) → Type 0
  StayAt None None = Unit {0}
  StayAt (Some v) (Some w) = StayEntries v.entries w.entries
  StayAt _ _ = ⊥

  stay_at : (vs ws : List (CachedUnit R)) → StayAllEntries vs ws → (n : ℕ) → StayAt (slice_get vs n) (slice_get ws n)
  stay_at [] [] a n = tt
  stay_at [] (w ∷ ws) a n = absurd a
  stay_at (v ∷ vs) [] a n = absurd a
  stay_at (v ∷ vs) (w ∷ ws) a zero = a.0
  stay_at (v ∷ vs) (w ∷ ws) a (suc n) = stay_at vs ws a.1 n

  reads_both : (probe : ℕ) (a b c : Option (CachedUnit R)) → StayAt b c → IfSome a (λ v. IfSome b (λ w. ReadsEntriesOf probe v.entries w.entries)) → IfSome b (λ v. IfSome c (λ w. ReadsEntriesOf probe v.entries w.entries)) → IfSome a (λ v. IfSome c (λ w. ReadsEntriesOf probe v.entries w.entries))
  reads_both probe None b c s h k = tt
  reads_both probe (Some v) None None s h k = tt
  reads_both probe (Some v) None (Some x) s h k = absurd s
  reads_both probe (Some v) (Some w) None s h k = absurd s
  reads_both probe (Some v) (Some w) (Some x) s h k = reads_on probe v.entries w.entries x.entries s h k

  pub reads_more : (IsAsked : ℕ → Type 0) (probe k : ℕ) (vs ws xs : List (CachedUnit R)) → StayAllEntries ws xs → ReadsOnly IsAsked probe vs ws → ReadsOnly (λ n. n ≡ k) probe ws xs → IsAsked k → ReadsOnly IsAsked probe vs xs
  reads_more IsAsked probe k vs ws xs stay before step asked n = elim (step n) [
    | inl same ↦ elim (before n) [
      | inl p ↦ inl (same ∙ p)
      | inr q ↦ inr (q.0, subst (λ (o : Option (CachedUnit R)). IfSome (slice_get vs n) (λ v. IfSome o (λ w. ReadsEntriesOf probe v.entries w.entries))) (sym same) q.1)
    ]
    | inr q ↦ inr (
      subst IsAsked (sym q.0) asked,
      elim (before n) [
        | inl p ↦ subst (λ (o : Option (CachedUnit R)). IfSome o (λ v. IfSome (slice_get xs n) (λ w. ReadsEntriesOf probe v.entries w.entries))) p q.1
        | inr r ↦ reads_both probe (slice_get vs n) (slice_get ws n) (slice_get xs n) (stay_at ws xs stay n) r.1 q.1
      ],
    )
  ]

  -- nothing is read but of the unit of a number
  pub reads_set : (probe : ℕ) (vs : List (CachedUnit R)) (k : ℕ) (v w : CachedUnit R) → v ≡ get_or vs k v → ReadsEntriesOf probe v.entries w.entries → ReadsOnly (λ n. n ≡ k) probe vs (set vs k w)
  reads_set probe [] k v w e r n = inl refl
  reads_set probe (x ∷ vs) zero v w e r zero = inr (refl, subst (λ (y : CachedUnit R). ReadsEntriesOf probe y.entries w.entries) e r)
  reads_set probe (x ∷ vs) zero v w e r (suc n) = inl refl
  reads_set probe (x ∷ vs) (suc k) v w e r zero = inl refl
  reads_set probe (x ∷ vs) (suc k) v w e r (suc n) = elim (reads_set probe vs k v w e r n) [ inl p ↦ inl p | inr q ↦ inr (ap suc q.0, q.1) ]

  -- what is cached of each unit is its lines and its entries
  pub lines_right : (scope : Scope) (us : List UnitRecord) (cs : List (CachedUnit R)) → HaveCachesOf scope us cs → HaveLinesOf scope.file.sections us cs
  lines_right scope [] [] own = tt
  lines_right scope [] (c ∷ cs) own = absurd own
  lines_right scope (u ∷ us) [] own = absurd own
  lines_right scope (u ∷ us) (c ∷ cs) own = (own.0.lines, lines_right scope us cs own.1)

  pub entries_right : (scope : Scope) (us : List UnitRecord) (cs : List (CachedUnit R)) → HaveCachesOf scope us cs → HaveEntriesOf scope us cs
  entries_right scope [] [] own = tt
  entries_right scope [] (c ∷ cs) own = absurd own
  entries_right scope (u ∷ us) [] own = absurd own
  entries_right scope (u ∷ us) (c ∷ cs) own = (own.0.entries, entries_right scope us cs own.1)

  pub cache_at : (scope : Scope) (us : List UnitRecord) (cs : List (CachedUnit R)) (n : ℕ) (u : UnitRecord) (c : CachedUnit R) → n < length cs → u ≡ get_or us n u → c ≡ get_or cs n c → HaveCachesOf scope us cs → IsCacheOf scope u c
  cache_at scope [] [] n u c h e f own = absurd (omega arith)
  cache_at scope [] (y ∷ cs) n u c h e f own = absurd own
  cache_at scope (x ∷ us) [] n u c h e f own = absurd own
  cache_at scope (x ∷ us) (y ∷ cs) zero u c h e f own = subst (λ (a : UnitRecord). IsCacheOf scope a c) (sym e) (subst (λ (b : CachedUnit R). IsCacheOf scope x b) (sym f) own.0)
  cache_at scope (x ∷ us) (y ∷ cs) (suc n) u c h e f own = cache_at scope us cs n u c (omega arith) e f own.1

  -- another is put in the place of the cache of a unit, of which it is too
  pub cache_set : (scope : Scope) (us : List UnitRecord) (cs : List (CachedUnit R)) (n : ℕ) (u : UnitRecord) (c : CachedUnit R) → u ≡ get_or us n u → HaveCachesOf scope us cs → IsCacheOf scope u c → HaveCachesOf scope us (set cs n c)
  cache_set scope [] [] n u c e own h = tt
  cache_set scope [] (y ∷ cs) n u c e own h = absurd own
  cache_set scope (x ∷ us) [] n u c e own h = absurd own
  cache_set scope (x ∷ us) (y ∷ cs) zero u c e own h = (subst (λ (a : UnitRecord). IsCacheOf scope a c) e h, own.1)
  cache_set scope (x ∷ us) (y ∷ cs) (suc n) u c e own h = (own.0, cache_set scope us cs n u c e own.1 h)

  -- lines that are the same, one step after another
  pub same_lines : (cs : List (CachedUnit R)) → HaveSameLines cs cs
  same_lines [] = tt
  same_lines (c ∷ cs) = (refl, same_lines cs)

  pub same_lines_set : (cs : List (CachedUnit R)) (n : ℕ) (c d : CachedUnit R) → c ≡ get_or cs n c → d.lines ≡ c.lines → HaveSameLines cs (set cs n d)
  same_lines_set [] n c d e k = tt
  same_lines_set (x ∷ cs) zero c d e k = (k ∙ ap (λ (y : CachedUnit R). y.lines) e, same_lines cs)
  same_lines_set (x ∷ cs) (suc n) c d e k = (refl, same_lines_set cs n c d e k)

  -- the units, and of which the lines are parsed, by lines that are the same
  pub units_by_lines : (us : List UnitRecord) (cs ds : List (CachedUnit R)) → HaveSameLines cs ds → indexed_units us ds ≡ indexed_units us cs
  units_by_lines [] cs ds a = refl
  units_by_lines (u ∷ us) [] [] a = refl
  units_by_lines (u ∷ us) [] (d ∷ ds) a = absurd a
  units_by_lines (u ∷ us) (c ∷ cs) [] a = absurd a
  units_by_lines (u ∷ us) (c ∷ cs) (d ∷ ds) a = ap (λ l. indexed_unit u l ∷ indexed_units us ds) a.0 ∙ ap (λ xs. indexed_unit u c.lines ∷ xs) (units_by_lines us cs ds a.1)

  pub parsed_by_lines : (cs ds : List (CachedUnit R)) → HaveSameLines cs ds → parsed_units ds ≡ parsed_units cs
  parsed_by_lines [] [] a = refl
  parsed_by_lines [] (d ∷ ds) a = absurd a
  parsed_by_lines (c ∷ cs) [] a = absurd a
  parsed_by_lines (c ∷ cs) (d ∷ ds) a = ap (λ l. is_parsed l ∷ parsed_units ds) a.0 ∙ ap (λ xs. is_parsed c.lines ∷ xs) (parsed_by_lines cs ds a.1)

  -- entries that are the same: the first answers, and what is known
  pub same_entries : (cs : List (CachedUnit R)) → HaveSameEntries cs cs
  same_entries [] = tt
  same_entries (c ∷ cs) = (refl, same_entries cs)

  pub same_entries_set : (cs : List (CachedUnit R)) (n : ℕ) (c d : CachedUnit R) → c ≡ get_or cs n c → d.entries ≡ c.entries → HaveSameEntries cs (set cs n d)
  same_entries_set [] n c d e k = tt
  same_entries_set (x ∷ cs) zero c d e k = (k ∙ ap (λ (y : CachedUnit R). y.entries) e, same_entries cs)
  same_entries_set (x ∷ cs) (suc n) c d e k = (refl, same_entries_set cs n c d e k)

  pub answers_by_entries : (cs ds : List (CachedUnit R)) → HaveSameEntries cs ds → answers_in ds ≡ answers_in cs
  answers_by_entries [] [] a = refl
  answers_by_entries [] (d ∷ ds) a = absurd a
  answers_by_entries (c ∷ cs) [] a = absurd a
  answers_by_entries (c ∷ cs) (d ∷ ds) a = ap (λ v. first_answer_of v ∷ answers_in ds) a.0 ∙ ap (λ xs. first_answer_of c.entries ∷ xs) (answers_by_entries cs ds a.1)

  pub known_by_entries : (cs ds : List (CachedUnit R)) → HaveSameEntries cs ds → known_in ds ≡ known_in cs
  known_by_entries [] [] a = refl
  known_by_entries [] (d ∷ ds) a = absurd a
  known_by_entries (c ∷ cs) [] a = absurd a
  known_by_entries (c ∷ cs) (d ∷ ds) a = ap (λ (v : EntriesCache R). known_by v.view.state v.functions ∷ known_in ds) a.0 ∙ ap (λ xs. known_by c.entries.view.state c.entries.functions ∷ xs) (known_by_entries cs ds a.1)
