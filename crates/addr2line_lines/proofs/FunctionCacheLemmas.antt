-- What is cached of functions, as more is read (on specs/FunctionCache.antt).
use Rattle.addr2line_lines.proofs.Common.{◌≡◌, ℕ, ◌+◌, ◌≢◌, List, [], ◌∷◌, get_or, length, map, slice_get, slice_set, sum_by, Option, Some, None, Result, Ok, Err, refl, ap, sym, subst, ◌∙◌, arith, inl, inr, AllByRecursion, map-set, sum_by-cons, sum_by-set, get_or_from_slice_get, slice_get-map, slice_get_within, map-set_same, Section, Error, OutOfMemory, UnitOffset, UnitRecord, FunctionDetail, LazyFunction, FunctionAddress, KnownNames, Detail, detail_at, FoundInlined, none_inlined, AreFunctions, IsUnread, function_offsets, function_range_of, AreCachedFunctions, AreDetailsApart, AreRuns, HasPlace, inlined_size, name_size, ranges_size, as_function, as_lazy, size_of, CachedFunction, FunctionTable, AreDetailsMore, IsDetailPlace, IsNextPlace, IsRefusedThen, CachedDetails, detail_of, Scope}
use Rattle.std.specs.Option.{option_map}
use Rattle.addr2line_lines.specs.declared.functions.LazyDetail.{LazyDetail}
use Rattle.addr2line_lines.specs.declared.functions.LazyDetail.TheVariants.{Unread, Read, Faulty}
use Rattle.addr2line_lines.specs.FunctionDetails.{IsCachedThen, IsReadAt, IsReadOf, IsWithDetail}
use Rattle.addr2line_lines.proofs.DetailPlaces.{detail_stays}
use Rattle.addr2line_lines.proofs.CachedNameLemmas.{names_same}
use Rattle.addr2line_lines.proofs.NestingLemmas.{grown_not}
use Rattle.addr2line_lines.proofs.Facts.{all_at, all_set, all_weaker, at_set, longer}

-- nothing changes after OutOfMemory
pub nothing_cached : (cached more : CachedDetails) → IsRefusedThen cached more OutOfMemory → more ≡ cached
nothing_cached cached more h =
    let made : List (Option Section) → FoundInlined → KnownNames → CachedDetails = λ xs f ns. record { names = xs; found = f; known = ns } in
    ap (λ xs. made xs more.found more.known) h.names ∙ ap (λ f. made cached.names f more.known) h.found ∙ ap (λ ns. made cached.names cached.found ns) (h.memory refl)

pub details_stay : (cached : CachedDetails) → AreDetailsMore cached cached
details_stay cached = record { names = grown_not cached.names; found = record { entries = grown_not cached.found.entries; ranges = grown_not cached.found.ranges }; known = names_same cached.known }

-- a detail that is read is as before where more is read
lazy_stays : (cached more : CachedDetails) → AreDetailsMore cached more → (x : LazyDetail) → ((p : FunctionDetail) → x ≡ Read p → IsDetailPlace cached p) → as_lazy more x ≡ as_lazy cached x
lazy_stays cached more grown Unread h = refl
lazy_stays cached more grown (Read p) h = ap (λ (d : Detail). Some (Ok d)) (detail_stays cached more p grown (h p refl)).0
lazy_stays cached more grown (Faulty e) h = refl

as_function_stays : (cached more : CachedDetails) → AreDetailsMore cached more → (f : LazyFunction) → HasPlace cached f → as_function more f ≡ as_function cached f
as_function_stays cached more grown f h = ap made (lazy_stays cached more grown f.detail h)
  where
    made : Option (Result Detail Error) → CachedFunction
    made x = record { offset = f.dw_die_offset.0; detail = x }

all_seen_stay : (cached more : CachedDetails) → AreDetailsMore cached more → (fs : List LazyFunction) → AllByRecursion (HasPlace cached) fs → map (as_function more) fs ≡ map (as_function cached) fs
all_seen_stay cached more grown [] all = refl
all_seen_stay cached more grown (f ∷ fs) all =
    ap (λ (x : CachedFunction). x ∷ map (as_function more) fs) (as_function_stays cached more grown f all.0)
    ∙ ap (λ xs. as_function cached f ∷ xs) (all_seen_stay cached more grown fs all.1)

place_stays : (cached more : CachedDetails) → AreDetailsMore cached more → (f : LazyFunction) → HasPlace cached f → HasPlace more f
place_stays cached more grown f h = λ p e. (detail_stays cached more p grown (h p e)).1

pub size_unread : (size : FunctionDetail → ℕ) (f : LazyFunction) → f.detail ≡ Unread → size_of size f ≡ 0
size_unread size f e = ap (λ (x : LazyDetail). elim x [ Unread ↦ 0 | Read p ↦ size p | Faulty e ↦ 0 ]) e

sum_unread : (size : FunctionDetail → ℕ) (fs : List LazyFunction) → AllByRecursion IsUnread fs → sum_by (size_of size) fs ≡ 0
sum_unread size [] all = refl
sum_unread size (f ∷ fs) all =
    let a = sum_by-cons (size_of size) f fs in
    let b = size_unread size f all.0 in
    let c = sum_unread size fs all.1 in
    omega arith

not_read : (f : LazyFunction) (p : FunctionDetail) → f.detail ≡ Unread → f.detail ≡ Read p → ⊥
not_read f p a b = let no : Unread ≡ Read p = sym a ∙ b in absurd cc

-- before a detail is read
pub runs_unread : (fs : List LazyFunction) (d : CachedDetails) (known : KnownNames) → AllByRecursion IsUnread fs → d ≡ record { names = []; found = none_inlined; known = known } → AreRuns fs d
runs_unread fs d known all e =
    subst (AreRuns fs) (sym e) (record {
      places = all_weaker IsUnread (HasPlace (record { names = []; found = none_inlined; known = known })) (λ f u. λ p r. absurd (not_read f p u r)) fs all;
      apart = λ i j f g p q ne a b r s. absurd (not_read f p (all_at IsUnread fs i f all a) r);
      names = sum_unread name_size fs all;
      inlined = sum_unread inlined_size fs all;
      ranges = sum_unread ranges_size fs all;
    })

pub functions_unread : (d : CachedDetails) (fs : List LazyFunction) → AllByRecursion IsUnread fs → AllByRecursion (λ (f : CachedFunction). f.detail ≡ None) (map (as_function d) fs)
functions_unread d [] all = tt
functions_unread d (f ∷ fs) all = (ap (as_lazy d) all.0, functions_unread d fs all.1)

-- a function of which nothing is cached isn't read
unread_lazy : (d : CachedDetails) (x : LazyDetail) → as_lazy d x ≡ None → x ≡ Unread
unread_lazy d Unread e = refl
unread_lazy d (Read p) e = absurd cc
unread_lazy d (Faulty f) e = absurd cc

pub unread_at : (d : CachedDetails) (fs : List LazyFunction) (n offset : ℕ) → slice_get (map (as_function d) fs) n ≡ Some (record { offset = offset; detail = None }) → (f : LazyFunction) × (slice_get fs n ≡ Some f) × (f.dw_die_offset.0 ≡ offset) × (f.detail ≡ Unread)
unread_at d fs n offset e = by_cases (slice_get fs n) refl (sym (slice_get-map (as_function d) fs n) ∙ e)
  where
    by_cases : (o : Option LazyFunction) → slice_get fs n ≡ o → option_map (as_function d) o ≡ Some (record { offset = offset; detail = None }) → (f : LazyFunction) × (slice_get fs n ≡ Some f) × (f.dw_die_offset.0 ≡ offset) × (f.detail ≡ Unread)
    by_cases None q h = absurd cc
    by_cases (Some f) q h =
        let same : as_function d f ≡ record { offset = offset; detail = None } = cc in
        (f, q, ap (λ (x : CachedFunction). x.offset) same, unread_lazy d f.detail (ap (λ (x : CachedFunction). x.detail) same))

-- the functions as callers see them
abbrev pub table_of : List LazyFunction → List FunctionAddress → CachedDetails → FunctionTable
table_of fs addresses d = record {
  ranges = map (function_range_of (function_offsets fs)) addresses;
  functions = map (as_function d) fs;
  inlined = d.found.entries;
  names = d.known;
}

-- a function of which nothing is cached
abbrev pub unread_function : ℕ → CachedFunction
unread_function offset = record { offset = offset; detail = None }

pub reads : (scope : Scope) (u : UnitRecord) (n offset : ℕ) (old new : FunctionTable) (result : Result (Unit {0}) Error) → slice_get old.functions n ≡ Some (unread_function offset) → IsCachedThen n (unread_function offset) (detail_at scope u offset) old result new → IsReadAt scope u n old result new
reads scope u n offset old new result e h = subst (λ o. IsReadOf scope u n o old result new) (sym e) h

-- one function is replaced by one whose entry is the same
module _ (fs : List LazyFunction) (n : ℕ) (f y : LazyFunction) (at : slice_get fs n ≡ Some f) (entry : y.dw_die_offset ≡ f.dw_die_offset) where
  pub offsets_stay : function_offsets (slice_set fs n y) ≡ function_offsets fs
  offsets_stay =
      map-set_same (λ (x : LazyFunction). x.dw_die_offset) fs n y y (entry ∙ ap (λ (x : LazyFunction). x.dw_die_offset) (sym (get_or_from_slice_get fs n f y at)))

  pub ranges_stay : (addresses : List FunctionAddress) → map (function_range_of (function_offsets (slice_set fs n y))) addresses ≡ map (function_range_of (function_offsets fs)) addresses
  ranges_stay addresses = ap (λ os. map (function_range_of os) addresses) offsets_stay

  -- one more detail, or a fault, is cached
  module _ (addresses : List FunctionAddress) (cached more : CachedDetails) (h : AreCachedFunctions fs addresses cached) (unread : f.detail ≡ Unread) (grown : AreDetailsMore cached more) where
    pub as_set : map (as_function more) (slice_set fs n y) ≡ slice_set (map (as_function cached) fs) n (as_function more y)
    as_set = map-set (as_function more) fs n y ∙ ap (λ xs. slice_set xs n (as_function more y)) (all_seen_stay cached more grown fs h.runs.places)

    added : (size : FunctionDetail → ℕ) → sum_by (size_of size) (slice_set fs n y) ≡ sum_by (size_of size) fs + size_of size y
    added size =
        let a = sum_by-set (size_of size) fs n y f (slice_get_within fs n f at) in
        let b : size_of size (get_or fs n f) ≡ size_of size f = ap (size_of size) (get_or_from_slice_get fs n f f at) in
        let c = size_unread size f unread in
        omega arith

    old_place : (i : ℕ) (g : LazyFunction) (q : FunctionDetail) → slice_get fs i ≡ Some g → g.detail ≡ Read q → IsDetailPlace cached q
    old_place i g q e r = all_at (HasPlace cached) fs i g h.runs.places e q r

    as_as : (offset : ℕ) (detail : Option (Result Detail Error)) → y.dw_die_offset.0 ≡ offset → as_lazy more y.detail ≡ detail → as_function more y ≡ record { offset = offset; detail = detail }
    as_as offset detail o d = ap (λ m. made m (as_lazy more y.detail)) o ∙ ap (made offset) d
      where
        made : ℕ → Option (Result Detail Error) → CachedFunction
        made m x = record { offset = m; detail = x }

    -- a detail that was read
    module _ (p : FunctionDetail) (is : y.detail ≡ Read p) (place : IsDetailPlace more p) (next : IsNextPlace cached more p) where
      one_read : (q : FunctionDetail) (g : LazyFunction) → y ≡ g → g.detail ≡ Read q → p ≡ q
      one_read q g s r = let e : Read p ≡ Read q = sym is ∙ ap (λ (x : LazyFunction). x.detail) s ∙ r in cc

      new_apart : (q : FunctionDetail) → IsDetailPlace cached q → AreDetailsApart p q × AreDetailsApart q p
      new_apart q old =
          let a = old.name in
          let b = old.inlined_end in
          let c = old.ranges_end in
          let d = next.name in
          let e = next.inlined_begin in
          let r = next.ranges_begin in (
            record { name = λ s. omega arith; inlined = inr (omega arith); ranges = inr (omega arith) },
            record { name = λ s. omega arith; inlined = inl (omega arith); ranges = inl (omega arith) },
          )

      still_apart : (i j : ℕ) → (g k : LazyFunction) → (q r : FunctionDetail) → i ≢ j → slice_get (slice_set fs n y) i ≡ Some g → slice_get (slice_set fs n y) j ≡ Some k → g.detail ≡ Read q → k.detail ≡ Read r → AreDetailsApart q r
      still_apart i j g k q r ne a b s t =
          let l = slice_get_within fs n f at in
          elim (at_set fs n i y g l a) [
            | inl x ↦ elim (at_set fs n j y k l b) [
              | inl z ↦ absurd (ne (x.0 ∙ sym z.0))
              | inr z ↦ subst (λ v. AreDetailsApart v r) (one_read q g x.1 s) (new_apart r (old_place j k r z t)).0
            ]
            | inr x ↦ elim (at_set fs n j y k l b) [
              | inl z ↦ subst (λ v. AreDetailsApart q v) (one_read r k z.1 t) (new_apart q (old_place i g q x s)).1
              | inr z ↦ h.runs.apart i j g k q r ne x z s t
            ]
          ]

      size_read : (size : FunctionDetail → ℕ) → size_of size y ≡ size p
      size_read size = ap (λ (x : LazyDetail). elim x [ Unread ↦ 0 | Read p ↦ size p | Faulty e ↦ 0 ]) is

      -- a detail was read
      pub read_cached : AreCachedFunctions (slice_set fs n y) addresses more
      read_cached = record {
        in_order = subst (λ os. AreFunctions os addresses) (sym offsets_stay) h.in_order;
        runs = record {
          places = all_set (HasPlace more) fs n y (all_weaker (HasPlace cached) (HasPlace more) (place_stays cached more grown) fs h.runs.places) (λ q r. subst (IsDetailPlace more) (one_read q y refl r) place);
          apart = still_apart;
          names = added name_size ∙ ap (λ k. sum_by (size_of name_size) fs + k) (size_read name_size) ∙ (let a = h.runs.names in let b = next.names in omega arith);
          inlined = added inlined_size ∙ ap (λ k. sum_by (size_of inlined_size) fs + k) (size_read inlined_size)
              ∙ (let a = h.runs.inlined in let b = next.inlined_begin in let c = next.inlined_end in let d = longer cached.found.entries more.found.entries grown.found.entries in omega arith);
          ranges = added ranges_size ∙ ap (λ k. sum_by (size_of ranges_size) fs + k) (size_read ranges_size)
              ∙ (let a = h.runs.ranges in let b = next.ranges_begin in let c = next.ranges_end in let d = longer cached.found.ranges more.found.ranges grown.found.ranges in omega arith);
        };
      }

      pub table_read : (offset : ℕ) (detail : Result Detail Error) → f.dw_die_offset.0 ≡ offset → detail ≡ Ok (detail_of more p) → IsWithDetail n (unread_function offset) detail (table_of fs addresses cached) (table_of (slice_set fs n y) addresses more)
      table_read offset detail o d = record {
        ranges = ranges_stay addresses;
        functions = as_set ∙ ap (λ x. slice_set (map (as_function cached) fs) n x) (as_as offset (Some detail) (ap (λ (v : UnitOffset). v.0) entry ∙ o) (ap (as_lazy more) is ∙ ap Some (sym d)));
        inlined = grown.found.entries;
        names = grown.known;
      }

    -- a fault that was cached
    module _ (e : Error) (is : y.detail ≡ Faulty e) (refused : IsRefusedThen cached more e) where
      no_read : (q : FunctionDetail) (g : LazyFunction) → y ≡ g → g.detail ≡ Read q → ⊥
      no_read q g s r = let no : Faulty e ≡ Read q = sym is ∙ ap (λ (x : LazyFunction). x.detail) s ∙ r in absurd cc

      size_none : (size : FunctionDetail → ℕ) → sum_by (size_of size) (slice_set fs n y) ≡ sum_by (size_of size) fs
      size_none size =
          let a = added size in
          let b : size_of size y ≡ 0 = ap (λ (x : LazyDetail). elim x [ Unread ↦ 0 | Read p ↦ size p | Faulty e ↦ 0 ]) is in
          omega arith

      faults_apart : (i j : ℕ) → (g k : LazyFunction) → (q r : FunctionDetail) → i ≢ j → slice_get (slice_set fs n y) i ≡ Some g → slice_get (slice_set fs n y) j ≡ Some k → g.detail ≡ Read q → k.detail ≡ Read r → AreDetailsApart q r
      faults_apart i j g k q r ne a b s t =
          let l = slice_get_within fs n f at in
          elim (at_set fs n i y g l a) [
            | inl x ↦ absurd (no_read q g x.1 s)
            | inr x ↦ elim (at_set fs n j y k l b) [
              | inl z ↦ absurd (no_read r k z.1 t)
              | inr z ↦ h.runs.apart i j g k q r ne x z s t
            ]
          ]

      -- a fault is cached
      pub fault_cached : AreCachedFunctions (slice_set fs n y) addresses more
      fault_cached = record {
        in_order = subst (λ os. AreFunctions os addresses) (sym offsets_stay) h.in_order;
        runs = record {
          places = all_set (HasPlace more) fs n y (all_weaker (HasPlace cached) (HasPlace more) (place_stays cached more grown) fs h.runs.places) (λ q r. absurd (no_read q y refl r));
          apart = faults_apart;
          names = size_none name_size ∙ h.runs.names ∙ ap (λ xs. length xs) (sym refused.names);
          inlined = size_none inlined_size ∙ h.runs.inlined ∙ ap (λ (x : FoundInlined). length x.entries) (sym refused.found);
          ranges = size_none ranges_size ∙ h.runs.ranges ∙ ap (λ (x : FoundInlined). length x.ranges) (sym refused.found);
        };
      }

      pub table_fault : (offset : ℕ) (detail : Result Detail Error) → f.dw_die_offset.0 ≡ offset → detail ≡ Err e → IsWithDetail n (unread_function offset) detail (table_of fs addresses cached) (table_of (slice_set fs n y) addresses more)
      table_fault offset detail o d = record {
        ranges = ranges_stay addresses;
        functions = as_set ∙ ap (λ x. slice_set (map (as_function cached) fs) n x) (as_as offset (Some detail) (ap (λ (v : UnitOffset). v.0) entry ∙ o) (ap (as_lazy more) is ∙ ap Some (sym d)));
        inlined = grown.found.entries;
        names = grown.known;
      }
