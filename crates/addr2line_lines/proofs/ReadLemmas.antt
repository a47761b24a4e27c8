-- Details that are read one after another (on specs/FunctionDetails.antt).
use Rattle.addr2line_lines.proofs.Common.{◌≡◌, ◌≢◌, ℕ, ◌+◌, ◌<◌, ◌≤◌, ◌++◌, ◌⊎◌, Bool, true, false, List, [], ◌∷◌, append-nil, drop, length, map, slice_get, slice_set, take, unwrap_or, Option, Some, None, OnOk, Result, Ok, Err, refl, ap, sym, subst, ◌∙◌, arith, inl, inr, zero, suc, AllByRecursion, AllZip, length_all_zip, on_ok_weaker, Error, OutOfMemory, ExactlyAtCost, ◌>>=◌, fault_of, takes_memory_after, UnitRecord, Detail, detail_at, CachedFunction, FunctionTable, Scope, or_left, or_right, drop_all, Costed, free}
use Rattle.std.proofs.Common.{take-append-drop, take_all}
use Rattle.addr2line_lines.specs.FunctionDetails.{AfterReadingAll, AreCachedToFault, AreDetailsOf, AreReadInTurn, AreUnread, IsCachedToFault, IsDetailOf, IsFunctionMore, IsReadAt, IsReadOf, IsReadOnce, IsTableMore, IsWithDetail, detail_once, details_at, read_once, with_detail, IsReadBehind}
use Rattle.gimli_read.specs.Costed as costed
use Rattle.gimli_read.proofs.FaultLemmas.{memory_or_not}
use Rattle.addr2line_lines.proofs.CachedNameLemmas.{names_on, names_same}
use Rattle.addr2line_lines.proofs.FaultLemmas.{detail_is}
use Rattle.addr2line_lines.proofs.NestingLemmas.{grown_not, grown_on}
use Rattle.addr2line_lines.proofs.Facts.{all_weaker, drop_at, drop_set, set_same, some_at, zip_same, zip_set, zip_twice}

-- whether the detail of a function can be read, without its memory
abbrev pub read_fault : Scope → UnitRecord → Option CachedFunction → Result (Unit {0}) Error
read_fault scope u f = (read_once scope u f).given

-- whether the details of functions can be read, in their order, up to the first fault
abbrev pub all_read_once : Scope → UnitRecord → List CachedFunction → Costed (Unit {0})
all_read_once scope u [] = free (Ok tt)
all_read_once scope u (f ∷ functions) =
    costed.◌>>=◌ (read_once scope u (Some f)) (λ _. all_read_once scope u functions)

-- the detail of a function is cached, and has no fault
abbrev pub HasDetail : CachedFunction → Type 0
HasDetail f = (d : Detail) × (f.detail ≡ Some (Ok d))

-- a function is the same; of it is cached what was, or, where nothing was, its detail or the fault
-- of that
pub record IsWithItsDetail (scope : Scope) (u : UnitRecord) (f g : CachedFunction) : Type 0 where
  pub offset : g.offset ≡ f.offset
  pub detail : (g.detail ≡ f.detail) ⊎ ((f.detail ≡ None) × (g.detail ≡ Some (detail_at scope u f.offset)))

function_same : (f : CachedFunction) → IsFunctionMore f f
function_same f = record { offset = refl; detail = λ d e. e }

pub functions_same : (fs : List CachedFunction) → AllZip IsFunctionMore fs fs
functions_same = zip_same IsFunctionMore function_same

pub functions_twice : (xs ys zs : List CachedFunction) → AllZip IsFunctionMore xs ys → AllZip IsFunctionMore ys zs → AllZip IsFunctionMore xs zs
functions_twice = zip_twice IsFunctionMore (λ f g h a b. record { offset = b.offset ∙ a.offset; detail = λ d e. b.detail d (a.detail d e) })

-- the same of functions with their details
module _ (scope : Scope) (u : UnitRecord) where
  its_same : (f : CachedFunction) → IsWithItsDetail scope u f f
  its_same f = record { offset = refl; detail = inl refl }

  its_twice : (f g h : CachedFunction) → IsWithItsDetail scope u f g → IsWithItsDetail scope u g h → IsWithItsDetail scope u f h
  its_twice f g h a b = record { offset = b.offset ∙ a.offset; detail = by a.detail b.detail }
    where
      by : (g.detail ≡ f.detail) ⊎ ((f.detail ≡ None) × (g.detail ≡ Some (detail_at scope u f.offset))) → (h.detail ≡ g.detail) ⊎ ((g.detail ≡ None) × (h.detail ≡ Some (detail_at scope u g.offset)))
          → (h.detail ≡ f.detail) ⊎ ((f.detail ≡ None) × (h.detail ≡ Some (detail_at scope u f.offset)))
      by (inl e) (inl k) = inl (k ∙ e)
      by (inl e) (inr k) = inr (sym e ∙ k.0, k.1 ∙ ap (λ o. Some (detail_at scope u o)) a.offset)
      by (inr e) (inl k) = inr (e.0, k ∙ e.1)
      by (inr e) (inr k) = (let no : None ≡ Some (detail_at scope u f.offset) = sym k.0 ∙ e.1 in absurd cc)

  -- what was right stays right
  its_right : (f g : CachedFunction) → IsWithItsDetail scope u f g → IsDetailOf scope u f → IsDetailOf scope u g
  its_right f g a right d e = ap (detail_at scope u) a.offset ∙ by a.detail
    where
      by : (g.detail ≡ f.detail) ⊎ ((f.detail ≡ None) × (g.detail ≡ Some (detail_at scope u f.offset))) → detail_at scope u f.offset ≡ d
      by (inl k) = right d (sym k ∙ e)
      by (inr k) = let same : Some (detail_at scope u f.offset) ≡ Some d = sym k.1 ∙ e in cc

  pub own_right : (fs gs : List CachedFunction) → AllZip (IsWithItsDetail scope u) fs gs → AllByRecursion (IsDetailOf scope u) fs → AllByRecursion (IsDetailOf scope u) gs
  own_right [] [] zip all = tt
  own_right [] (g ∷ gs) zip all = absurd zip
  own_right (f ∷ fs) [] zip all = tt
  own_right (f ∷ fs) (g ∷ gs) zip all = (its_right f g zip.0 all.0, own_right fs gs zip.1 all.1)

pub table_same : (t : FunctionTable) → IsTableMore t t
table_same t = record { ranges = refl; functions = functions_same t.functions; inlined = grown_not t.inlined; names = names_same t.names }

pub table_twice : (r s t : FunctionTable) → IsTableMore r s → IsTableMore s t → IsTableMore r t
table_twice r s t a b = record {
  ranges = b.ranges ∙ a.ranges;
  functions = functions_twice r.functions s.functions t.functions a.functions b.functions;
  inlined = grown_on r.inlined s.inlined t.inlined a.inlined b.inlined;
  names = names_on r.names s.names t.names a.names b.names;
}

-- where no detail is cached, what is cached is right
pub unread_right : (scope : Scope) (u : UnitRecord) (t : FunctionTable) → AreUnread t → AreDetailsOf scope u t
unread_right scope u t all =
    all_weaker (λ (f : CachedFunction). f.detail ≡ None) (IsDetailOf scope u) (λ f e. λ d h. (let no : None ≡ Some d = sym e ∙ h in absurd cc)) t.functions all

module _ (scope : Scope) (u : UnitRecord) (n : ℕ) (old new : FunctionTable) where
  -- the detail of a function of which nothing was cached is cached
  module _ (f : CachedFunction) (at : slice_get old.functions n ≡ Some f) (with_it : IsWithDetail n f (detail_at scope u f.offset) old new) where
    with_more : f.detail ≡ None → IsTableMore old new
    with_more none = record {
      ranges = with_it.ranges;
      functions = subst (AllZip IsFunctionMore old.functions) (sym with_it.functions)
          (zip_set IsFunctionMore function_same old.functions n f (record { offset = f.offset; detail = Some (detail_at scope u f.offset) }) at (record { offset = refl; detail = λ d e. (let no : None ≡ Some d = sym none ∙ e in absurd cc) }));
      inlined = with_it.inlined;
      names = with_it.names;
    }

  -- a fact of the table before and after, by what is cached of the function
  by_read : (P : FunctionTable → Type 0) → P old → ((f : CachedFunction) → slice_get old.functions n ≡ Some f → f.detail ≡ None → IsWithDetail n f (detail_at scope u f.offset) old new → P new)
      → (result : Result (Unit {0}) Error) → IsReadAt scope u n old result new → P new
  by_read P same with_it result h = by_function (slice_get old.functions n) refl h
    where
      stays : new ≡ old → P new
      stays e = subst P (sym e) same

      by_result : (f : CachedFunction) → slice_get old.functions n ≡ Some f → f.detail ≡ None → (r : Result (Unit {0}) Error) → IsReadOnce scope u n f None old r new → P new
      by_result f q none (Ok x) k = with_it f q none k.1
      by_result f q none (Err e) k = elim (memory_or_not e) [ inl m ↦ stays (k.1 m) | inr ne ↦ with_it f q none (k.0 ne).1 ]

      by_detail : (f : CachedFunction) → slice_get old.functions n ≡ Some f → (d : Option (Result Detail Error)) → f.detail ≡ d → IsReadOnce scope u n f d old result new → P new
      by_detail f q (Some d) e k = stays k.1
      by_detail f q None e k = by_result f q e result k

      by_function : (o : Option CachedFunction) → slice_get old.functions n ≡ o → IsReadOf scope u n o old result new → P new
      by_function None q k = stays k.1
      by_function (Some f) q k = by_detail f q f.detail refl k

  pub read_more : (result : Result (Unit {0}) Error) → IsReadAt scope u n old result new → IsTableMore old new
  read_more = by_read (IsTableMore old) (table_same old) (λ f q none w. with_more f q w none)

-- each function is as it was, or with its detail
read_own : (scope : Scope) (u : UnitRecord) (n : ℕ) (old new : FunctionTable) (result : Result (Unit {0}) Error) → IsReadAt scope u n old result new → AllZip (IsWithItsDetail scope u) old.functions new.functions
read_own scope u n old new result h = by_read scope u n old new (λ (t : FunctionTable). AllZip (IsWithItsDetail scope u) old.functions t.functions) (zip_same (IsWithItsDetail scope u) (its_same scope u) old.functions)
    (λ f q none w. subst (AllZip (IsWithItsDetail scope u) old.functions) (sym w.functions)
    (zip_set (IsWithItsDetail scope u) (its_same scope u) old.functions n f (record { offset = f.offset; detail = Some (detail_at scope u f.offset) }) q (record { offset = refl; detail = inr (none, refl) }))) result h

-- what is cached stays right
pub read_right : (scope : Scope) (u : UnitRecord) (n : ℕ) (old new : FunctionTable) (result : Result (Unit {0}) Error) → AreDetailsOf scope u old → IsReadAt scope u n old result new → AreDetailsOf scope u new
read_right scope u n old new result all h = own_right scope u old.functions new.functions (read_own scope u n old new result h) all

-- what is cached of a function, where it is right, is its detail
once_is : (scope : Scope) (u : UnitRecord) (f : CachedFunction) → IsDetailOf scope u f → detail_once scope u f ≡ detail_at scope u f.offset
once_is scope u f right = by_detail f.detail refl
  where
    by_detail : (d : Option (Result Detail Error)) → f.detail ≡ d → unwrap_or d (detail_at scope u f.offset) ≡ detail_at scope u f.offset
    by_detail None e = refl
    by_detail (Some d) e = sym (right d e)

-- so the first fault of all is that of the details
pub first_fault_is : (scope : Scope) (u : UnitRecord) (fs : List CachedFunction) → AllByRecursion (IsDetailOf scope u) fs
    → (all_read_once scope u fs).given ≡ details_at scope u (map (λ (f : CachedFunction). f.offset) fs)
first_fault_is scope u [] all = refl
first_fault_is scope u (f ∷ fs) all = by_detail (first_fault_is scope u fs all.1) (detail_once scope u f) ∙ ap (λ (r : Result Detail Error). r >>= λ _. details_at scope u (map (λ (f : CachedFunction). f.offset) fs)) (once_is scope u f all.0)
  where
    by_detail : (all_read_once scope u fs).given ≡ details_at scope u (map (λ (f : CachedFunction). f.offset) fs) → (r : Result Detail Error)
        → (fault_of r >>= λ _. (all_read_once scope u fs).given) ≡ (r >>= λ _. details_at scope u (map (λ (f : CachedFunction). f.offset) fs))
    by_detail rest (Ok d) = rest
    by_detail rest (Err e) = refl

-- a reading without a fault, or with one
pub well_read : (r : Result Detail Error) → fault_of r ≡ Ok tt → (d : Detail) × (r ≡ Ok d)
well_read (Ok d) e = (d, refl)
well_read (Err e) k = absurd cc

pub badly_read : (r : Result Detail Error) (e : Error) → fault_of r ≡ Err e → r ≡ Err e
badly_read (Ok d) e q = absurd cc
badly_read (Err x) e q = let same : x ≡ e = cc in ap Err same

-- one function whose detail is read
module _ (scope : Scope) (u : UnitRecord) (f : CachedFunction) where
  with_function : IsFunctionMore f (with_detail scope u f)
  with_function = record { offset = refl; detail = λ d e. ap (λ o. Some (unwrap_or o (detail_at scope u f.offset))) e }

  with_its : IsWithItsDetail scope u f (with_detail scope u f)
  with_its = record { offset = refl; detail = by_detail f.detail refl }
    where
      by_detail : (o : Option (Result Detail Error)) → f.detail ≡ o → (Some (detail_once scope u f) ≡ f.detail) ⊎ ((f.detail ≡ None) × (Some (detail_once scope u f) ≡ Some (detail_at scope u f.offset)))
      by_detail None e = inr (e, ap (λ o. Some (unwrap_or o (detail_at scope u f.offset))) e)
      by_detail (Some d) e = inl (ap (λ o. Some (unwrap_or o (detail_at scope u f.offset))) e ∙ sym e)

  with_has : (read_once scope u (Some f)).given ≡ Ok tt → HasDetail (with_detail scope u f)
  with_has e = let d = well_read (detail_once scope u f) e in (d.0, ap Some d.1)

  with_fault : (e : Error) → (read_once scope u (Some f)).given ≡ Err e → (with_detail scope u f).detail ≡ Some (Err e)
  with_fault e is = ap Some (badly_read (detail_once scope u f) e is)

  taken_unread : (shares : Bool) → (read_once scope u (Some f)).takes_memory shares ≡ true → f.detail ≡ None
  taken_unread shares = by_detail f.detail refl
    where
      by_detail : (o : Option (Result Detail Error)) → f.detail ≡ o → (read_once scope u (Some (record { offset = f.offset; detail = o }))).takes_memory shares ≡ true → f.detail ≡ None
      by_detail None e takes = e
      by_detail (Some d) e takes = absurd cc

-- what is cached to a fault: the first detail, and what follows one without a fault
first_cached : (f : CachedFunction) (rest : Type 0) → IsCachedToFault f.detail rest → (d : Result Detail Error) × (f.detail ≡ Some d)
first_cached f rest = by_detail f.detail refl
  where
    by_detail : (o : Option (Result Detail Error)) → f.detail ≡ o → IsCachedToFault o rest → (d : Result Detail Error) × (f.detail ≡ Some d)
    by_detail None e h = absurd h
    by_detail (Some d) e h = (d, e)

rest_cached : (scope : Scope) (u : UnitRecord) (f : CachedFunction) (rest : Type 0) → IsCachedToFault f.detail rest → (read_once scope u (Some f)).given ≡ Ok tt → rest
rest_cached scope u f rest = by_detail f.detail
  where
    by_detail : (o : Option (Result Detail Error)) → IsCachedToFault o rest → fault_of (unwrap_or o (detail_at scope u f.offset)) ≡ Ok tt → rest
    by_detail None h e = absurd h
    by_detail (Some (Ok d)) h e = h
    by_detail (Some (Err x)) h e = absurd cc

-- what holds of details that are read in turn, by the first of them
module _ (shares : Bool) (scope : Scope) (u : UnitRecord) where
  by_turn : (P : List CachedFunction → Result (Unit {0}) Error → List CachedFunction → Type 0) → P [] (Ok tt) []
      → ((f : CachedFunction) (fs : List CachedFunction) → (read_once scope u (Some f)).takes_memory shares ≡ true → P (f ∷ fs) (Err OutOfMemory) (f ∷ fs))
      → ((f : CachedFunction) (fs : List CachedFunction) (e : Error) → (read_once scope u (Some f)).given ≡ Err e → P (f ∷ fs) (Err e) (with_detail scope u f ∷ fs))
      → ((f : CachedFunction) (fs gs : List CachedFunction) (r : Result (Unit {0}) Error) → (read_once scope u (Some f)).given ≡ Ok tt → P fs r gs → P (f ∷ fs) r (with_detail scope u f ∷ gs))
      → (fs gs : List CachedFunction) (r : Result (Unit {0}) Error) → AreReadInTurn shares scope u fs r gs → P fs r gs
  by_turn P none refused faulty more [] gs r h = subst (λ s. P [] s gs) (sym h.0) (subst (P [] (Ok tt)) (sym h.1) none)
  by_turn P none refused faulty more (f ∷ fs) gs r (inl h) = subst (λ s. P (f ∷ fs) s gs) (sym h.0) (subst (P (f ∷ fs) (Err OutOfMemory)) (sym h.2) (refused f fs h.1))
  by_turn P none refused faulty more (f ∷ fs) gs r (inr h) = subst (P (f ∷ fs) r) (sym h.1) (by_given (by_turn P none refused faulty more fs h.0 r) (read_once scope u (Some f)).given refl h.2)
    where
      by_given : (AreReadInTurn shares scope u fs r h.0 → P fs r h.0) → (given : Result (Unit {0}) Error) → (read_once scope u (Some f)).given ≡ given
          → IsReadBehind given (AreReadInTurn shares scope u fs r h.0) r fs h.0 → P (f ∷ fs) r (with_detail scope u f ∷ h.0)
      by_given rest (Ok x) is k = more f fs h.0 r is (rest k)
      by_given rest (Err e) is k = subst (λ s. P (f ∷ fs) s (with_detail scope u f ∷ h.0)) (sym k.0) (subst (λ rest. P (f ∷ fs) (Err e) (with_detail scope u f ∷ rest)) (sym k.1) (faulty f fs e is))

  -- what was cached stays
  turn_more : (fs gs : List CachedFunction) (r : Result (Unit {0}) Error) → AreReadInTurn shares scope u fs r gs → AllZip IsFunctionMore fs gs
  turn_more = by_turn (λ fs r gs. AllZip IsFunctionMore fs gs) tt (λ f fs takes. functions_same (f ∷ fs)) (λ f fs e is. (with_function scope u f, functions_same fs)) (λ f fs gs r is all. (with_function scope u f, all))

  turn_own : (fs gs : List CachedFunction) (r : Result (Unit {0}) Error) → AreReadInTurn shares scope u fs r gs → AllZip (IsWithItsDetail scope u) fs gs
  turn_own = by_turn (λ fs r gs. AllZip (IsWithItsDetail scope u) fs gs) tt (λ f fs takes. zip_same (IsWithItsDetail scope u) (its_same scope u) (f ∷ fs))
      (λ f fs e is. (with_its scope u f, zip_same (IsWithItsDetail scope u) (its_same scope u) fs)) (λ f fs gs r is all. (with_its scope u f, all))

  -- without a fault each is cached, and has none
  turn_known : (fs gs : List CachedFunction) (r : Result (Unit {0}) Error) → AreReadInTurn shares scope u fs r gs → OnOk r (AllByRecursion HasDetail gs)
  turn_known = by_turn (λ fs r gs. OnOk r (AllByRecursion HasDetail gs)) tt (λ f fs takes. tt) (λ f fs e is. tt) (λ f fs gs r is all. on_ok_weaker r (λ have. (with_has scope u f is, have)) all)

  -- unless memory was refused all are cached up to the first fault, and that; where they are, it wasn't
  turn_whole : (fs gs : List CachedFunction) (r : Result (Unit {0}) Error) → AreReadInTurn shares scope u fs r gs → r ≢ Err OutOfMemory → AreCachedToFault gs
  turn_whole = by_turn (λ fs r gs. r ≢ Err OutOfMemory → AreCachedToFault gs) (λ ne. tt) (λ f fs takes. λ ne. absurd (ne refl))
      (λ f fs e is. λ ne. subst (λ o. IsCachedToFault o (AreCachedToFault fs)) (sym (with_fault scope u f e is)) (λ oom. ne (ap Err oom)))
      (λ f fs gs r is whole. λ ne. subst (λ o. IsCachedToFault o (AreCachedToFault gs)) (sym (with_has scope u f is).1) (whole ne))

  turn_memory : (fs gs : List CachedFunction) (r : Result (Unit {0}) Error) → AreReadInTurn shares scope u fs r gs → AreCachedToFault gs → r ≢ Err OutOfMemory
  turn_memory = by_turn (λ fs r gs. AreCachedToFault gs → r ≢ Err OutOfMemory) (λ ready. λ q. absurd cc)
      (λ f fs takes. λ ready. absurd (subst (λ o. IsCachedToFault o (AreCachedToFault fs)) (taken_unread scope u f shares takes) ready))
      (λ f fs e is. λ ready. λ q. subst (λ o. IsCachedToFault o (AreCachedToFault fs)) (with_fault scope u f e is) ready (let same : e ≡ OutOfMemory = cc in same))
      (λ f fs gs r is memory. λ ready. memory (subst (λ o. IsCachedToFault o (AreCachedToFault gs)) (with_has scope u f is).1 ready))

  -- where they were, the answer is by them
  turn_exact : (fs gs : List CachedFunction) (r : Result (Unit {0}) Error) → AreReadInTurn shares scope u fs r gs → AreCachedToFault fs → r ≡ (all_read_once scope u fs).given
  turn_exact = by_turn (λ fs r gs. AreCachedToFault fs → r ≡ (all_read_once scope u fs).given) (λ ready. refl)
      (λ f fs takes. λ ready. absurd (subst (λ o. IsCachedToFault o (AreCachedToFault fs)) (taken_unread scope u f shares takes) ready))
      (λ f fs e is. λ ready. sym (ap (λ s. s >>= λ _. (all_read_once scope u fs).given) is))
      (λ f fs gs r is exact. λ ready. exact (rest_cached scope u f (AreCachedToFault fs) ready is) ∙ sym (ap (λ s. s >>= λ _. (all_read_once scope u fs).given) is))

  -- it is the first fault of all, or OutOfMemory where one takes memory before it
  turn_gives : (fs gs : List CachedFunction) (r : Result (Unit {0}) Error) → AreReadInTurn shares scope u fs r gs → ExactlyAtCost {X = Unit {0}} shares (λ x. x) r (all_read_once scope u fs)
  turn_gives = by_turn (λ fs r gs. ExactlyAtCost {X = Unit {0}} shares (λ x. x) r (all_read_once scope u fs)) refl
      (λ f fs takes. λ ne. absurd (ne (or_left ((read_once scope u (Some f)).takes_memory shares) (takes_memory_after (read_once scope u (Some f)).given (λ _. (all_read_once scope u fs).takes_memory shares)) takes) refl))
      (λ f fs e is. λ ne. ap (λ s. s >>= λ _. (all_read_once scope u fs).given) is) more
    where
      more : (f : CachedFunction) (fs gs : List CachedFunction) (r : Result (Unit {0}) Error) → (read_once scope u (Some f)).given ≡ Ok tt → ExactlyAtCost {X = Unit {0}} shares (λ x. x) r (all_read_once scope u fs)
          → ExactlyAtCost {X = Unit {0}} shares (λ x. x) r (all_read_once scope u (f ∷ fs))
      more f fs gs (Ok x) is gives = ap (λ s. s >>= λ _. (all_read_once scope u fs).given) is ∙ gives
      more f fs gs (Err e) is gives = λ ne. ap (λ s. s >>= λ _. (all_read_once scope u fs).given) is
          ∙ gives (λ t. ne (or_right ((read_once scope u (Some f)).takes_memory shares) (takes_memory_after (read_once scope u (Some f)).given (λ _. (all_read_once scope u fs).takes_memory shares))
          (ap (λ s. takes_memory_after s (λ _. (all_read_once scope u fs).takes_memory shares)) is ∙ t)))

-- what is left of a table after all details were read in turn
pub record IsReadInTurn (shares : Bool) (scope : Scope) (u : UnitRecord) (result : Result (Unit {0}) Error) (old new : FunctionTable) : Type 0 where
  pub gives : ExactlyAtCost {X = Unit {0}} shares (λ x. x) result (all_read_once scope u old.functions)
  pub more : IsTableMore old new
  pub details : AllZip (IsWithItsDetail scope u) old.functions new.functions
  pub known : OnOk result (AllByRecursion HasDetail new.functions)
  pub whole : result ≢ Err OutOfMemory → AreCachedToFault new.functions
  pub memory : AreCachedToFault new.functions → result ≢ Err OutOfMemory
  pub exact : AreCachedToFault old.functions → result ≡ (all_read_once scope u old.functions).given
  pub same : AreCachedToFault old.functions → new ≡ old

pub read_in_turn : (shares : Bool) (scope : Scope) (u : UnitRecord) (result : Result (Unit {0}) Error) (old new : FunctionTable) → AfterReadingAll shares scope u result old new → IsReadInTurn shares scope u result old new
read_in_turn shares scope u result old new h = record {
  gives = turn_gives shares scope u old.functions new.functions result h.functions;
  more = record { ranges = h.ranges; functions = turn_more shares scope u old.functions new.functions result h.functions; inlined = h.inlined; names = h.names };
  details = turn_own shares scope u old.functions new.functions result h.functions;
  known = turn_known shares scope u old.functions new.functions result h.functions;
  whole = turn_whole shares scope u old.functions new.functions result h.functions;
  memory = turn_memory shares scope u old.functions new.functions result h.functions;
  exact = turn_exact shares scope u old.functions new.functions result h.functions;
  same = h.same;
}

-- a list with an element that is set, by what stands before it
set_taken : {X : Type 0} (xs rest : List X) (n : ℕ) (x : X) → n < length xs → take (suc n) (slice_set xs n x) ++ rest ≡ take n xs ++ x ∷ rest
set_taken [] rest n x l = absurd (omega arith)
set_taken (y ∷ xs) rest zero x l = refl
set_taken (y ∷ xs) rest (suc n) x l = ap (λ zs. y ∷ zs) (set_taken xs rest n x (omega arith))

set_parts : {X : Type 0} (xs : List X) (n : ℕ) (x : X) → n < length xs → take n xs ++ x ∷ drop (suc n) xs ≡ slice_set xs n x
set_parts [] n x l = absurd (omega arith)
set_parts (y ∷ xs) zero x l = refl
set_parts (y ∷ xs) (suc n) x l = ap (λ zs. y ∷ zs) (set_parts xs n x (omega arith))

-- the detail of the function of a place was read
module _ (shares : Bool) (scope : Scope) (u : UnitRecord) (n : ℕ) (now next : FunctionTable) (f : CachedFunction) (at : slice_get now.functions n ≡ Some f) where
  -- it is cached, its fault too; or memory was refused, and nothing is changed
  abbrev IsReadThen : Result (Unit {0}) Error → Type 0
  IsReadThen r = ((r ≡ Err OutOfMemory) × ((read_once scope u (Some f)).takes_memory shares ≡ true) × (next.functions ≡ now.functions))
      ⊎ (((read_once scope u (Some f)).given ≡ r) × (next.functions ≡ slice_set now.functions n (with_detail scope u f)))

  -- a detail that was cached
  cached_then : (d : Result Detail Error) → f.detail ≡ Some d → next ≡ now → next.functions ≡ slice_set now.functions n (with_detail scope u f)
  cached_then d e same =
      let own : f ≡ with_detail scope u f = ap (λ o. record { offset = f.offset; detail = o }) (e ∙ sym (ap (λ o. Some (unwrap_or o (detail_at scope u f.offset))) e)) in
      ap (λ (t : FunctionTable). t.functions) same ∙ sym (set_same now.functions n f at) ∙ ap (slice_set now.functions n) own

  -- and one that wasn't
  unread_then : f.detail ≡ None → IsWithDetail n f (detail_at scope u f.offset) now next → next.functions ≡ slice_set now.functions n (with_detail scope u f)
  unread_then e w = w.functions ∙ ap (λ o. slice_set now.functions n (record { offset = f.offset; detail = Some (unwrap_or o (detail_at scope u f.offset)) })) (sym e)

  given_unread : f.detail ≡ None → (read_once scope u (Some f)).given ≡ fault_of (detail_at scope u f.offset)
  given_unread e = ap (λ o. fault_of (unwrap_or o (detail_at scope u f.offset))) e

  -- a detail never has OutOfMemory in place of a fault
  never_oom : (r : Result Detail Error) → r ≢ Err OutOfMemory → fault_of r ≢ Err OutOfMemory
  never_oom (Ok d) ne = λ q. absurd cc
  never_oom (Err e) ne = λ q. ne (let same : e ≡ OutOfMemory = cc in ap Err same)

  read_then : (r : Result (Unit {0}) Error) → IsReadAt scope u n now r next → ExactlyAtCost {X = Unit {0}} shares (λ x. x) r (read_once scope u (slice_get now.functions n)) → IsReadThen r
  read_then r k gives = by_detail f.detail refl (subst (λ o. IsReadOf scope u n o now r next) at k) (subst (λ o. ExactlyAtCost {X = Unit {0}} shares (λ x. x) r (read_once scope u o)) at gives)
    where
      refused : f.detail ≡ None → next ≡ now → (b : Bool) → (read_once scope u (Some f)).takes_memory shares ≡ b → ExactlyAtCost {X = Unit {0}} shares (λ x. x) (Err OutOfMemory) (read_once scope u (Some f)) → IsReadThen (Err OutOfMemory)
      refused e same true takes exact = inl (refl, takes, ap (λ (t : FunctionTable). t.functions) same)
      refused e same false takes exact = absurd (never_oom (detail_at scope u f.offset) (detail_is scope u f.offset).by
          (sym (given_unread e) ∙ exact (λ t. absurd (let no : false ≡ true = sym takes ∙ t in cc))))

      by_result : f.detail ≡ None → (s : Result (Unit {0}) Error) → IsReadOnce scope u n f None now s next → ExactlyAtCost {X = Unit {0}} shares (λ x. x) s (read_once scope u (Some f)) → IsReadThen s
      by_result e (Ok x) h exact = inr (given_unread e ∙ h.0, unread_then e h.1)
      by_result e (Err x) h exact = elim (memory_or_not x) [
        | inl oom ↦ subst (λ y. IsReadThen (Err y)) (sym oom) (refused e (h.1 oom) _ refl (subst (λ y. ExactlyAtCost {X = Unit {0}} shares (λ x. x) (Err y) (read_once scope u (Some f))) oom exact))
        | inr ne ↦ (let given = h.0 ne in inr (given_unread e ∙ given.0, unread_then e given.1))
      ]

      by_detail : (o : Option (Result Detail Error)) → f.detail ≡ o → IsReadOnce scope u n f o now r next → ExactlyAtCost {X = Unit {0}} shares (λ x. x) r (read_once scope u (Some f)) → IsReadThen r
      by_detail None e h exact = by_result e r h exact
      by_detail (Some d) e h exact = inr (ap (λ o. fault_of (unwrap_or o (detail_at scope u f.offset))) e ∙ sym h.0, cached_then d e h.1)

  -- where it was cached nothing is changed
  read_cached : (r : Result (Unit {0}) Error) (d : Result Detail Error) → f.detail ≡ Some d → IsReadAt scope u n now r next → next ≡ now
  read_cached r d e k = (subst (λ o. IsReadOnce scope u n f o now r next) e (subst (λ o. IsReadOf scope u n o now r next) at k)).1

-- the details of the functions before a place are read: what is read of those from it on makes all
-- be read in turn
pub record IsReadTo (shares : Bool) (scope : Scope) (u : UnitRecord) (old now : FunctionTable) (n : ℕ) : Type 0 where
  pub kept : IsTableMore old now
  pub goes_on : (result : Result (Unit {0}) Error) (rest : List CachedFunction) → AreReadInTurn shares scope u (drop n now.functions) result rest → AreReadInTurn shares scope u old.functions result (take n now.functions ++ rest)
  pub same : AreCachedToFault old.functions → (now ≡ old) × AreCachedToFault (drop n now.functions)

pub none_read : (shares : Bool) (scope : Scope) (u : UnitRecord) (t : FunctionTable) → IsReadTo shares scope u t t 0
none_read shares scope u t = record { kept = table_same t; goes_on = λ r rest. λ h. h; same = λ ready. (refl, ready) }

module _ (shares : Bool) (scope : Scope) (u : UnitRecord) (old now : FunctionTable) (n : ℕ) (h : IsReadTo shares scope u old now n) where
  pub same_number : length old.functions ≡ length now.functions
  same_number = length_all_zip IsFunctionMore old.functions now.functions h.kept.functions

  -- all are read
  pub all_read : length old.functions ≤ n → AfterReadingAll shares scope u (Ok (tt {0})) old now
  all_read l =
      let many = same_number in
      let below : length now.functions ≤ n = omega arith in
      let whole = h.goes_on (Ok tt) [] (subst (λ fs. AreReadInTurn shares scope u fs (Ok tt) []) (sym (drop_all n now.functions below)) (refl, refl)) in
      record {
        ranges = h.kept.ranges;
        functions = subst (AreReadInTurn shares scope u old.functions (Ok tt)) (append-nil (take n now.functions) ∙ take_all n now.functions below) whole;
        inlined = h.kept.inlined;
        names = h.kept.names;
        same = λ ready. (h.same ready).0;
      }

  -- one more detail is read, or refused
  module _ (next : FunctionTable) (l : n < length old.functions) where
    below : n < length now.functions
    below = let many = same_number in omega arith

    -- the function, and those from it on
    one : (f : CachedFunction) × (slice_get now.functions n ≡ Some f)
    one = some_at now.functions n below

    left : drop n now.functions ≡ one.0 ∷ drop (suc n) now.functions
    left = drop_at now.functions n one.0 one.1

    -- all that are left are read in turn where this one is, and those behind it are
    then_turn : (r : Result (Unit {0}) Error) (rest : List CachedFunction) → AreReadInTurn shares scope u (one.0 ∷ drop (suc n) now.functions) r rest → AreReadInTurn shares scope u old.functions r (take n now.functions ++ rest)
    then_turn r rest k = h.goes_on r rest (subst (λ fs. AreReadInTurn shares scope u fs r rest) (sym left) k)

    -- where the details are cached up to the first fault nothing is changed
    reads_nothing : (r : Result (Unit {0}) Error) → IsReadAt scope u n now r next → AreCachedToFault old.functions → (next ≡ old) × IsCachedToFault one.0.detail (AreCachedToFault (drop (suc n) now.functions))
    reads_nothing r k ready =
        let s = h.same ready in
        let first = subst AreCachedToFault left s.1 in
        let d = first_cached one.0 (AreCachedToFault (drop (suc n) now.functions)) first in
        (read_cached shares scope u n now next one.0 one.1 r d.0 d.1 k ∙ s.0, first)

    pub one_read : IsReadAt scope u n now (Ok tt) next → (read_once scope u (slice_get now.functions n)).given ≡ Ok tt → IsReadTo shares scope u old next (n + 1)
    one_read k well = elim (read_then shares scope u n now next one.0 one.1 (Ok tt) k well) [
      | inl refused ↦ absurd (let q = refused.0 in cc)
      | inr r ↦ (
          let plus : suc n ≡ n + 1 = omega arith in
          let g = with_detail scope u one.0 in
          let rest : drop (suc n) next.functions ≡ drop (suc n) now.functions = ap (λ fs. drop (suc n) fs) r.1 ∙ drop_set now.functions n g in
          let goes : (s : Result (Unit {0}) Error) (gs : List CachedFunction) → AreReadInTurn shares scope u (drop (suc n) next.functions) s gs → AreReadInTurn shares scope u old.functions s (take (suc n) next.functions ++ gs) = λ s gs. λ turn.
          subst (AreReadInTurn shares scope u old.functions s) (sym (ap (λ fs. take (suc n) fs ++ gs) r.1 ∙ set_taken now.functions gs n g below))
          (then_turn s (g ∷ gs) (inr (
            gs,
            refl,
            subst (λ q. IsReadBehind q (AreReadInTurn shares scope u (drop (suc n) now.functions) s gs) s (drop (suc n) now.functions) gs) (sym r.0)
                (subst (λ fs. AreReadInTurn shares scope u fs s gs) rest turn),
          ))) in
          subst (IsReadTo shares scope u old next) plus (record {
            kept = table_twice old now next h.kept (read_more scope u n now next (Ok tt) k);
            goes_on = goes;
            same = λ ready. (let nothing = reads_nothing (Ok tt) k ready in (nothing.0, subst AreCachedToFault (sym rest) (rest_cached scope u one.0 (AreCachedToFault (drop (suc n) now.functions)) nothing.1 r.0)));
          })
          )
    ]

    pub one_refused : (e : Error) → IsReadAt scope u n now (Err e) next → ExactlyAtCost {X = Unit {0}} shares (λ x. x) (Err e) (read_once scope u (slice_get now.functions n)) → AfterReadingAll shares scope u (Err e) old next
    one_refused e k exact =
        let kept = table_twice old now next h.kept (read_more scope u n now next (Err e) k) in
        record {
          ranges = kept.ranges;
          functions = elim (read_then shares scope u n now next one.0 one.1 (Err e) k exact) [
            | inl r ↦ subst (AreReadInTurn shares scope u old.functions (Err e)) (ap (λ fs. take n now.functions ++ fs) (sym left) ∙ take-append-drop n now.functions ∙ sym r.2) (then_turn (Err e) (one.0 ∷ drop (suc n) now.functions) (inl (r.0, r.1, refl)))
            | inr r ↦ subst (AreReadInTurn shares scope u old.functions (Err e)) (set_parts now.functions n (with_detail scope u one.0) below ∙ sym r.1)
                (then_turn (Err e) (with_detail scope u one.0 ∷ drop (suc n) now.functions) (inr (drop (suc n) now.functions, refl, subst (λ q. IsReadBehind q (AreReadInTurn shares scope u (drop (suc n) now.functions) (Err e) (drop (suc n) now.functions)) (Err e) (drop (suc n) now.functions) (drop (suc n) now.functions)) (sym r.0) (refl, refl))))
          ];
          inlined = kept.inlined;
          names = kept.names;
          same = λ ready. (reads_nothing (Err e) k ready).0;
        }
