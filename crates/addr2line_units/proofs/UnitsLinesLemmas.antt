-- The units of a context whose lines are cached one after another (on specs/UnitLinesCached.antt and
-- specs/LocationsParsed.antt).
use Rattle.addr2line_units.proofs.Common.{◌≡◌, ℕ, zero, suc, ◌+◌, ◌≤◌, ◌<◌, Bool, true, false, not, ◌||◌, List, [], ◌∷◌, ◌++◌, length, map, drop, add-one, get_or, Option, Some, None, slice_get, Result, Ok, Err, is_ok, refl, sym, ap, subst, arith, ◌∙◌, inl, inr, drop_of_length-le, set, Error, Range, ◌>>=◌, ExactlyUnlessOom, fault_of, result_map, WasNotRefused, DwLang, Sections, UnitRecord, LineTable, read_all, unit_lines, LazyLines, CachedUnit, UnitRange, IndexedUnit, has_lines, range_of_unit, unit_ranges, all_lines, lines_of_unit, steps_along, steps_in, lines_of_take_memory, AllAskFor, AreParsed, AreReadyForAll, ParsesOnly, StaysParsed, TakeNone, TakeNoneForAll, can_be_read, has_parsed, parses_no_memory, AreLinesOf, HaveLinesOf, StayLines, indexed_unit, indexed_units, is_parsed, is_uncached, lines_result, lines_result_at, lines_at, parsed_units}
use Rattle.std.specs.Cmp.{both_ways}
use Rattle.std.proofs.Math.Nat.{eq-or-lt_of_le}
use Rattle.std.proofs.lemmas.Bool.{not-true}
use Rattle.std.proofs.lemmas.List.{append-nil}
use Rattle.std.proofs.lemmas.List.Sums.{sum_by-cons}
use Rattle.addr2line_units.specs.UnitsIndexed.{IndexState, appended, as_ranged_unit}
use Rattle.addr2line_units.proofs.Facts.{below_or_at, err_ok, never, ok_err, three}
use Rattle.addr2line_units.proofs.UnitLinesLemmas.{CachesResult}
use Rattle.addr2line_units.proofs.UnitsCaches.{StayAllLines}

pub stay_all : {R : Type 0} (rs : List (CachedUnit R)) → StayAllLines rs rs
stay_all [] = tt
stay_all (r ∷ rs) = (record { language = refl; lines = λ e. refl }, stay_all rs)

-- one of them is another, which stays
pub stay_set : {R : Type 0} (rs : List (CachedUnit R)) (n : ℕ) (r s : CachedUnit R) → n < length rs → r ≡ get_or rs n r → StayLines r.lines s.lines → StayAllLines rs (set rs n s)
stay_set [] n r s h e k = absurd (omega arith)
stay_set (x ∷ rs) zero r s h e k = (subst (λ (y : CachedUnit _). StayLines y.lines s.lines) e k, stay_all rs)
stay_set (x ∷ rs) (suc n) r s h e k = (record { language = refl; lines = λ e. refl }, stay_set rs n r s (omega arith) e k)

-- the units and their languages are the same
pub stay_indexed : {R : Type 0} (us : List UnitRecord) (rs ss : List (CachedUnit R)) → StayAllLines rs ss → indexed_units us ss ≡ indexed_units us rs
stay_indexed [] rs ss a = refl
stay_indexed (u ∷ us) [] [] a = refl
stay_indexed (u ∷ us) [] (s ∷ ss) a = absurd a
stay_indexed (u ∷ us) (r ∷ rs) [] a = absurd a
stay_indexed (u ∷ us) (r ∷ rs) (s ∷ ss) a = ap (λ l. record { unit = u; language = l } ∷ indexed_units us ss) a.0.language ∙ ap (λ xs. indexed_unit u r.lines ∷ xs) (stay_indexed us rs ss a.1)

-- what was parsed stays parsed
pub stay_parsed : {R : Type 0} (rs ss : List (CachedUnit R)) → StayAllLines rs ss → StaysParsed (parsed_units rs) (parsed_units ss)
stay_parsed [] [] a n e = e
stay_parsed [] (s ∷ ss) a n e = absurd a
stay_parsed (r ∷ rs) [] a n e = absurd a
stay_parsed (r ∷ rs) (s ∷ ss) a zero e = ap (λ l. not (is_uncached l)) (a.0.lines (not-true (is_uncached r.lines.lines) e)) ∙ e
stay_parsed (r ∷ rs) (s ∷ ss) a (suc n) e = stay_parsed rs ss a.1 n e

-- where no more are parsed, the same are
pub same_parsed : {R : Type 0} (rs ss : List (CachedUnit R)) → StayAllLines rs ss → StaysParsed (parsed_units ss) (parsed_units rs) → parsed_units ss ≡ parsed_units rs
same_parsed [] [] a no_more = refl
same_parsed [] (s ∷ ss) a no_more = absurd a
same_parsed (r ∷ rs) [] a no_more = absurd a
same_parsed (r ∷ rs) (s ∷ ss) a no_more =
    ap (λ b. b ∷ parsed_units ss) (both_ways (is_parsed s.lines) (is_parsed r.lines) (no_more 0) (stay_parsed (r ∷ rs) (s ∷ ss) a 0))
    ∙ ap (λ bs. is_parsed r.lines ∷ bs) (same_parsed rs ss a.1 (λ n. no_more (suc n)))

-- beside each unit stand lines
pub as_many : {R : Type 0} (d : Sections) (us : List UnitRecord) (rs : List (CachedUnit R)) → HaveLinesOf d us rs → length us ≡ length rs
as_many d [] [] own = refl
as_many d [] (r ∷ rs) own = absurd own
as_many d (u ∷ us) [] own = absurd own
as_many d (u ∷ us) (r ∷ rs) own = ap suc (as_many d us rs own.1)

pub as_many_indexed : {R : Type 0} (us : List UnitRecord) (rs : List (CachedUnit R)) → length us ≡ length rs → length (indexed_units us rs) ≡ length rs
as_many_indexed [] [] many = refl
as_many_indexed [] (r ∷ rs) many = cc
as_many_indexed (u ∷ us) [] many = cc
as_many_indexed (u ∷ us) (r ∷ rs) many = ap suc (as_many_indexed us rs cc)

-- the unit of a number
pub unit_at : {R : Type 0} (us : List UnitRecord) (rs : List (CachedUnit R)) (n : ℕ) (u : UnitRecord) (r : CachedUnit R) → n < length us → n < length rs → u ≡ get_or us n u → r ≡ get_or rs n r → slice_get (indexed_units us rs) n ≡ Some (indexed_unit u r.lines)
unit_at [] rs n u r h k e f = absurd (omega arith)
unit_at (x ∷ us) [] n u r h k e f = absurd (omega arith)
unit_at (x ∷ us) (y ∷ rs) zero u r h k e f = ap (λ v. Some (indexed_unit v y.lines)) (sym e) ∙ ap (λ (s : CachedUnit _). Some (indexed_unit u s.lines)) (sym f)
unit_at (x ∷ us) (y ∷ rs) (suc n) u r h k e f = unit_at us rs n u r (omega arith) (omega arith) e f

pub no_unit : {R : Type 0} (us : List UnitRecord) (rs : List (CachedUnit R)) (n : ℕ) → length rs ≤ n → slice_get (indexed_units us rs) n ≡ None
no_unit [] rs n h = refl
no_unit (x ∷ us) [] n h = refl
no_unit (x ∷ us) (y ∷ rs) zero h = absurd (omega arith)
no_unit (x ∷ us) (y ∷ rs) (suc n) h = no_unit us rs n (omega arith)

pub no_parsed : {R : Type 0} (rs : List (CachedUnit R)) (n : ℕ) → length rs ≤ n → has_parsed (parsed_units rs) n ≡ true
no_parsed [] n h = refl
no_parsed (x ∷ rs) zero h = absurd (omega arith)
no_parsed (x ∷ rs) (suc n) h = no_parsed rs n (omega arith)

pub parsed_set : {R : Type 0} (rs : List (CachedUnit R)) (n : ℕ) (s : CachedUnit R) → n < length rs → is_uncached s.lines.lines ≡ false → has_parsed (parsed_units (set rs n s)) n ≡ true
parsed_set [] n s h e = absurd (omega arith)
parsed_set (x ∷ rs) zero s h e = ap not e
parsed_set (x ∷ rs) (suc n) s h e = parsed_set rs n s (omega arith) e

pub set_parsed : {R : Type 0} (rs : List (CachedUnit R)) (n : ℕ) (s : CachedUnit R) → n < length rs → has_parsed (parsed_units (set rs n s)) n ≡ true → is_uncached s.lines.lines ≡ false
set_parsed [] n s h e = absurd (omega arith)
set_parsed (x ∷ rs) zero s h e = not-true (is_uncached s.lines.lines) e
set_parsed (x ∷ rs) (suc n) s h e = set_parsed rs n s (omega arith) e

-- no lines are cached but those of the unit of a number
pub only_set : {R : Type 0} (rs : List (CachedUnit R)) (k : ℕ) (s : CachedUnit R) → ParsesOnly (λ n. n ≡ k) (parsed_units rs) (parsed_units (set rs k s))
only_set [] k s n e = inl e
only_set (x ∷ rs) zero s zero e = inr refl
only_set (x ∷ rs) zero s (suc n) e = inl e
only_set (x ∷ rs) (suc k) s zero e = inl e
only_set (x ∷ rs) (suc k) s (suc n) e = elim (only_set rs k s n e) [ inl p ↦ inl p | inr q ↦ inr (ap suc q) ]

pub lines_set : {R : Type 0} (rs : List (CachedUnit R)) (n : ℕ) (s : CachedUnit R) → n < length rs → lines_at (set rs n s) n ≡ s.lines.lines
lines_set [] n s h = absurd (omega arith)
lines_set (x ∷ rs) zero s h = refl
lines_set (x ∷ rs) (suc n) s h = lines_set rs n s (omega arith)

-- the cached lines of each unit are its own
pub own_at : {R : Type 0} (d : Sections) (us : List UnitRecord) (rs : List (CachedUnit R)) (n : ℕ) (u : UnitRecord) (r : CachedUnit R) → n < length rs → u ≡ get_or us n u → r ≡ get_or rs n r → HaveLinesOf d us rs → AreLinesOf d u r.lines.lines
own_at d [] [] n u r h e f own = absurd (omega arith)
own_at d [] (y ∷ rs) n u r h e f own = absurd own
own_at d (x ∷ us) [] n u r h e f own = absurd own
own_at d (x ∷ us) (y ∷ rs) zero u r h e f own = subst (λ (v : UnitRecord). AreLinesOf d v r.lines.lines) (sym e) (subst (λ (s : CachedUnit _). AreLinesOf d x s.lines.lines) (sym f) own.0)
own_at d (x ∷ us) (y ∷ rs) (suc n) u r h e f own = own_at d us rs n u r (omega arith) e f own.1

pub own_set : {R : Type 0} (d : Sections) (us : List UnitRecord) (rs : List (CachedUnit R)) (n : ℕ) (u : UnitRecord) (s : CachedUnit R) → u ≡ get_or us n u → HaveLinesOf d us rs → AreLinesOf d u s.lines.lines → HaveLinesOf d us (set rs n s)
own_set d [] [] n u s e own h = tt
own_set d [] (y ∷ rs) n u s e own h = absurd own
own_set d (x ∷ us) [] n u s e own h = absurd own
own_set d (x ∷ us) (y ∷ rs) zero u s e own h = (subst (λ (v : UnitRecord). AreLinesOf d v s.lines.lines) e h, own.1)
own_set d (x ∷ us) (y ∷ rs) (suc n) u s e own h = (own.0, own_set d us rs n u s e own.1 h)

-- one more unit, with its lines
pub own_push : {R : Type 0} (d : Sections) (us : List UnitRecord) (rs : List (CachedUnit R)) (u : UnitRecord) (r : CachedUnit R) → HaveLinesOf d us rs → AreLinesOf d u r.lines.lines → HaveLinesOf d (us ++ u ∷ []) (rs ++ r ∷ [])
own_push d [] [] u r own h = (h, tt)
own_push d [] (y ∷ rs) u r own h = absurd own
own_push d (x ∷ us) [] u r own h = absurd own
own_push d (x ∷ us) (y ∷ rs) u r own h = (own.0, own_push d us rs u r own.1 h)

indexed_push : {R : Type 0} (us : List UnitRecord) (rs : List (CachedUnit R)) (u : UnitRecord) (r : CachedUnit R) → length us ≡ length rs → indexed_units (us ++ u ∷ []) (rs ++ r ∷ []) ≡ indexed_units us rs ++ indexed_unit u r.lines ∷ []
indexed_push [] [] u r many = refl
indexed_push [] (y ∷ rs) u r many = cc
indexed_push (x ∷ us) [] u r many = cc
indexed_push (x ∷ us) (y ∷ rs) u r many = ap (λ is. indexed_unit x y.lines ∷ is) (indexed_push us rs u r cc)

parsed_push : {R : Type 0} (rs : List (CachedUnit R)) (r : CachedUnit R) → parsed_units (rs ++ r ∷ []) ≡ parsed_units rs ++ is_parsed r.lines ∷ []
parsed_push [] r = refl
parsed_push (y ∷ rs) r = ap (λ bs. is_parsed y.lines ∷ bs) (parsed_push rs r)

pub pushed : {R : Type 0} (d : Sections) (us : List UnitRecord) (rs : List (CachedUnit R)) (u : UnitRecord) (lang : Option DwLang) (new : CachedUnit R) (given : List Range) (ranges now : List UnitRange) → length us ≡ length rs → new.lines.lang ≡ lang → is_parsed new.lines ≡ has_lines (as_ranged_unit u lang given)
    → now ≡ ranges ++ map (range_of_unit (length rs)) (unit_ranges d (as_ranged_unit u lang given))
    → ◌≡◌ {A = IndexState} (record { sections = d; units = indexed_units (us ++ u ∷ []) (rs ++ new ∷ []); ranges = now; parsed = parsed_units (rs ++ new ∷ []) })
    (appended (record { sections = d; units = indexed_units us rs; ranges = ranges; parsed = parsed_units rs }) (as_ranged_unit u lang given ∷ []))
pushed d us rs u lang new given ranges now many same parsed more =
    of_parts
    (indexed_push us rs u new many ∙ ap (λ l. indexed_units us rs ++ record { unit = u; language = l } ∷ []) same)
    (more
    ∙ ap (λ n. ranges ++ map (range_of_unit n) (unit_ranges d (as_ranged_unit u lang given))) (sym (as_many_indexed us rs many))
    ∙ ap (λ rs. ranges ++ rs) (sym (append-nil (map (range_of_unit (length (indexed_units us rs))) (unit_ranges d (as_ranged_unit u lang given))))))
    (parsed_push rs new ∙ ap (λ b. parsed_units rs ++ b ∷ []) parsed)
  where
    of_parts : {a b : List IndexedUnit} {p q : List UnitRange} {v w : List Bool} → a ≡ b → p ≡ q → v ≡ w → ◌≡◌ {A = IndexState} (record { sections = d; units = a; ranges = p; parsed = v }) (record { sections = d; units = b; ranges = q; parsed = w })
    of_parts e f g = cc

-- an answer is cached, unless it is OutOfMemory
pub answer_cached : {X : Type 0} (old : LazyLines) (result : Result X Error) (new : LazyLines) → CachesResult old result new → WasNotRefused result → is_uncached new ≡ false
answer_cached old (Ok x) new h n = h
answer_cached old (Err e) new h n = h.0 n

-- the lines of a unit, or their fault
module _ {R : Type 0} (d : Sections) (us : List UnitRecord) (rs : List (CachedUnit R)) (n : ℕ) (u : UnitRecord) (r : CachedUnit R) (lines : Option LineTable) (result : Result (Unit {0}) Error) (own : HaveLinesOf d us rs) (h : n < length rs) (e : u ≡ get_or us n u) (f : r ≡ get_or rs n r) where
  same_fault : (a : Result LineTable Error) → fault_of a ≡ fault_of (a >>= λ l. Ok (Some l))
  same_fault (Ok l) = refl
  same_fault (Err x) = refl

  at_unit : lines_result_at d (slice_get (indexed_units us rs) n) ≡ fault_of (lines_result d u)
  at_unit = ap (lines_result_at d) (unit_at us rs n u r (subst (λ k. n < k) (sym (as_many d us rs own)) h) h e f) ∙ same_fault (unit_lines d u)

  pub lines_read : ExactlyUnlessOom (λ _. lines) result (lines_result d u) → ExactlyUnlessOom (λ x. x) result (lines_result_at d (slice_get (indexed_units us rs) n))
  lines_read k = rw at_unit (given result (lines_result d u) k)
    where
      given : (q : Result (Unit {0}) Error) (a : Result (Option LineTable) Error) → ExactlyUnlessOom (λ _. lines) q a → ExactlyUnlessOom (λ x. x) q (fault_of a)
      given (Ok tt) a i = ap fault_of i
      given (Err x) a i = λ ne. ap fault_of (i ne)

-- the steps along ranges
pub steps_first : (d : Sections) (units : List IndexedUnit) (r : UnitRange) (rest : List UnitRange) → steps_along d units (r ∷ rest) ≡ steps_in d (slice_get units r.unit) + steps_along d units rest
steps_first d units r rest = sum_by-cons (λ (x : UnitRange). steps_in d (slice_get units x.unit)) r rest

-- the steps in one unit, with those of the ranges after it
pub steps_within : (a b c m n t : ℕ) → b ≤ a + m → a + t ≤ c → t ≡ m + n → b + n ≤ c
steps_within a b c m n t h k e = omega arith

pub steps_of_one : (b c n : ℕ) → b + n ≤ c → b ≤ c
steps_of_one b c n h = omega arith

-- the lines of units, one unit after another
module _ (d : Sections) where
  first_read : (u : Result LineTable Error) (rest : List (Result LineTable Error)) → fault_of u ≡ Ok tt → fault_of (read_all (u ∷ rest)) ≡ fault_of (read_all rest)
  first_read (Ok l) rest e = more (read_all rest)
    where
      more : (r : Result (List LineTable) Error) → fault_of (result_map (λ ls. l ∷ ls) r) ≡ fault_of r
      more (Ok ls) = refl
      more (Err x) = refl
  first_read (Err x) rest e = absurd (err_ok x e)

  first_fault : (u : Result LineTable Error) (rest : List (Result LineTable Error)) (f : Error) → fault_of u ≡ Err f → fault_of (read_all (u ∷ rest)) ≡ Err f
  first_fault (Ok l) rest f e = absurd (ok_err f e)
  first_fault (Err x) rest f e = e

  lines_after : (us : List IndexedUnit) (n : ℕ) → n < length us → lines_result_at d (slice_get us n) ≡ Ok tt → fault_of (all_lines d (drop n us)) ≡ fault_of (all_lines d (drop (suc n) us))
  lines_after [] n h e = absurd (omega arith)
  lines_after (u ∷ us) zero h e = first_read (lines_of_unit d u) (map (lines_of_unit d) us) e
  lines_after (u ∷ us) (suc n) h e = lines_after us n (omega arith) e

  pub lines_more : (us : List IndexedUnit) (n : ℕ) → n < length us → lines_result_at d (slice_get us n) ≡ Ok tt → fault_of (all_lines d (drop n us)) ≡ fault_of (all_lines d (drop (n + 1) us))
  lines_more us n h e = rw add-one (lines_after us n h e)

  pub lines_stop : (us : List IndexedUnit) (n : ℕ) (f : Error) → n < length us → lines_result_at d (slice_get us n) ≡ Err f → fault_of (all_lines d (drop n us)) ≡ Err f
  lines_stop [] n f h e = absurd (omega arith)
  lines_stop (u ∷ us) zero f h e = first_fault (lines_of_unit d u) (map (lines_of_unit d) us) f e
  lines_stop (u ∷ us) (suc n) f h e = lines_stop us n f (omega arith) e

  pub lines_end : (us : List IndexedUnit) (n : ℕ) → length us ≤ n → fault_of (all_lines d (drop n us)) ≡ Ok tt
  lines_end us n h = ap (λ xs. fault_of (all_lines d xs)) (drop_of_length-le us h)

  -- whether the lines of a unit can be read, by the answer that they give
  pub readable : (u : Option IndexedUnit) → lines_result_at d u ≡ Ok tt → can_be_read d u ≡ true
  readable None e = refl
  readable (Some u) e = of_lines (lines_of_unit d u) e
    where
      of_lines : (l : Result LineTable Error) → fault_of l ≡ Ok tt → is_ok l ≡ true
      of_lines (Ok x) h = refl
      of_lines (Err x) h = absurd (err_ok x h)

  pub unreadable : (u : Option IndexedUnit) (f : Error) → lines_result_at d u ≡ Err f → can_be_read d u ≡ true → ⊥
  unreadable None f e h = ok_err f e
  unreadable (Some u) f e h = of_lines (lines_of_unit d u) e h
    where
      of_lines : (l : Result LineTable Error) → fault_of l ≡ Err f → is_ok l ≡ true → ⊥
      of_lines (Ok x) h k = ok_err f h
      of_lines (Err x) h k = never k

  -- a parse of all lines that comes to one more unit
  pub asks_more : (us : List IndexedUnit) (k : ℕ) → AllAskFor d us k → can_be_read d (slice_get us k) ≡ true → AllAskFor d us (k + 1)
  asks_more us k before at n h = elim (below_or_at n k h) [ inl l ↦ before n l | inr e ↦ ap (λ m. can_be_read d (slice_get us m)) e ∙ at ]

  -- where the lines are parsed up to one with a fault, those of all units are ready
  pub ready_at_fault : (us : List IndexedUnit) (p : List Bool) (k : ℕ) (f : Error) → ((n : ℕ) → n < k → has_parsed p n ≡ true) → has_parsed p k ≡ true → lines_result_at d (slice_get us k) ≡ Err f → AreReadyForAll d us p
  ready_at_fault us p k f before at fault n asked = elim (three n k) [ inl l ↦ before n l | inr m ↦ elim m [ inl e ↦ ap (has_parsed p) e ∙ at | inr l ↦ absurd (unreadable (slice_get us k) f fault (asked k l)) ] ]

-- the lines of the units before a number are parsed
pub parsed_below : (p : List Bool) (k : ℕ) → ((n : ℕ) → n < k → has_parsed p n ≡ true) → has_parsed p k ≡ true → (n : ℕ) → n < k + 1 → has_parsed p n ≡ true
parsed_below p k before at n h =
    let le : n ≤ k = omega arith in
    elim (eq-or-lt_of_le le) [ inl e ↦ ap (has_parsed p) e ∙ at | inr l ↦ before n l ]

-- what is parsed by one more step is parsed by all of them
pub only_more : (Asked : ℕ → Type 0) (first mid now : List Bool) (k : ℕ) → ParsesOnly Asked first mid → ParsesOnly (λ n. n ≡ k) mid now → Asked k → ParsesOnly Asked first now
only_more Asked first mid now k before step asked n e = elim (step n e) [ inl p ↦ before n p | inr q ↦ inr (subst Asked (sym q) asked) ]

-- a list with a first element has one
pub none_first : (r : UnitRange) (rest : List UnitRange) → ◌≡◌ {A = List UnitRange} [] (r ∷ rest) → ⊥
none_first r rest e = cc

-- behind the first element there is less
pub rest_shorter : (ranges : List UnitRange) (r : UnitRange) (rest : List UnitRange) → ranges ≡ r ∷ rest → length rest < length ranges
rest_shorter ranges r rest e = omega (arith, ap length e)

-- what is parsed, or takes no memory
module _ (shares : Bool) (units : List IndexedUnit) where
  -- lines that are parsed take none
  pub parsed_none : (p : List Bool) (n : ℕ) → has_parsed p n ≡ true → parses_no_memory shares units p n ≡ true
  parsed_none p n e = ap (λ b. b || not (lines_of_take_memory shares units n)) e

  pub parsed_none_along : (p : List Bool) (ranges : List UnitRange) → AreParsed p ranges → TakeNone shares units p ranges
  parsed_none_along p [] h = tt
  parsed_none_along p (r ∷ ranges) h = (parsed_none p r.unit h.0, parsed_none_along p ranges h.1)

  -- where more is parsed, no more memory is taken
  pub none_more : (p q : List Bool) → StaysParsed p q → (n : ℕ) → parses_no_memory shares units p n ≡ true → parses_no_memory shares units q n ≡ true
  none_more p q stay n h = of_bools (has_parsed p n) (has_parsed q n) (not (lines_of_take_memory shares units n)) (stay n) h
    where
      of_bools : (a b c : Bool) → (a ≡ true → b ≡ true) → (a || c) ≡ true → (b || c) ≡ true
      of_bools true b c f e = ap (λ x. x || c) (f refl)
      of_bools false true c f e = refl
      of_bools false false c f e = e

  pub none_more_along : (p q : List Bool) → StaysParsed p q → (ranges : List UnitRange) → TakeNone shares units p ranges → TakeNone shares units q ranges
  none_more_along p q stay [] h = tt
  none_more_along p q stay (r ∷ ranges) h = (none_more p q stay r.unit h.0, none_more_along p q stay ranges h.1)

  pub none_more_for_all : (d : Sections) (p q : List Bool) → StaysParsed p q → TakeNoneForAll shares d units p → TakeNoneForAll shares d units q
  none_more_for_all d p q stay h n asked = none_more p q stay n (h n asked)
