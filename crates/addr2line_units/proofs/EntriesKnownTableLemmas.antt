-- What is known of functions by a table of them (on specs/EntriesKnown.antt and
-- specs/EntriesKnownCached.antt).
use Rattle.addr2line_units.proofs.Common.{◌≡◌, ◌≢◌, ◌∙◌, ap, sym, refl, subst, ℕ, ◌==◌, nat_lt, cond, ltb-true, ltb-false, Bool, true, false, List, [], ◌∷◌, length, map, position, Option, Some, None, option_and_then, option_map, slice_get, Result, Ok, Err, if◌then◌else◌, find, slice_get_past, AllByRecursion, position_or_len, Error, OutOfMemory, Detail, AreCachedToFault, HasDetail, IsCachedToFault, CachedFunction, FunctionTable, function_offset_at, some_at, has_detail, has_place, has_table, is_cached_fault, known_detail, known_function, known_table, AreKnownToFault, IsKnownToFault, HasFault, IsRead, KnownFunction, NotRead, is_detail_known, is_known_at}
use Rattle.std.proofs.lemmas.List.Folds.{find_at}
use Rattle.std.specs.Prelude.{unwrap_or}
use Rattle.addr2line_units.proofs.EntriesPlaceLemmas.{cached_is_not_oom, cached_unless_oom}

fault_known : (b : Bool) → is_detail_known (if b then HasFault else NotRead) ≡ b
fault_known true = refl
fault_known false = refl

pub detail_known : (o : Option (Result Detail Error)) → is_detail_known (known_detail o) ≡ has_detail o
detail_known None = refl
detail_known (Some (Ok d)) = refl
detail_known (Some (Err e)) = fault_known (is_cached_fault e)

-- the first function whose entry begins at an offset, by its place
module _ (offset : ℕ) where
  abbrev begins : CachedFunction → Bool
  begins f = f.offset == offset

  abbrev is_known : Option KnownFunction → Bool
  is_known o = unwrap_or (option_map (λ (f : KnownFunction). is_detail_known f.detail) o) true

  abbrev known_first : List CachedFunction → Bool
  known_first fs = is_known (find (λ (f : KnownFunction). f.offset == offset) (map known_function fs))

  abbrev has_first : List CachedFunction → Option ℕ → Bool
  has_first fs None = true
  has_first fs (Some n) = has_detail (option_and_then (λ (f : CachedFunction). f.detail) (slice_get fs n))

  pub find_known : (fs : List CachedFunction) → find (λ (f : KnownFunction). f.offset == offset) (map known_function fs) ≡ option_map known_function (find begins fs)
  find_known [] = refl
  find_known (f ∷ fs) = by (f.offset == offset) (find_known fs)
    where
      by : (b : Bool) → find (λ (x : KnownFunction). x.offset == offset) (map known_function fs) ≡ option_map known_function (find begins fs)
          → cond b (Some (known_function f)) (find (λ (x : KnownFunction). x.offset == offset) (map known_function fs)) ≡ option_map known_function (cond b (Some f) (find begins fs))
      by true rest = refl
      by false rest = rest

  first_known : (fs : List CachedFunction) → known_first fs ≡ has_first fs (position begins fs)
  first_known fs = ap (λ (o : Option KnownFunction). is_known o) (find_known fs ∙ ap (λ (o : Option CachedFunction). option_map known_function o) (find_at begins fs)) ∙ by (nat_lt (position_or_len begins fs) (length fs)) refl
    where
      at : (f : CachedFunction) × (slice_get fs (position_or_len begins fs) ≡ Some f) → is_known (option_map known_function (slice_get fs (position_or_len begins fs))) ≡ has_detail (option_and_then (λ (f : CachedFunction). f.detail) (slice_get fs (position_or_len begins fs)))
      at p = ap (λ (o : Option CachedFunction). is_known (option_map known_function o)) p.1 ∙ detail_known p.0.detail
          ∙ ap (λ (o : Option CachedFunction). has_detail (option_and_then (λ (f : CachedFunction). f.detail) o)) (sym p.1)

      by : (b : Bool) → nat_lt (position_or_len begins fs) (length fs) ≡ b → is_known (option_map known_function (slice_get fs (position_or_len begins fs))) ≡ has_first fs (cond b (Some (position_or_len begins fs)) None)
      by true e = at (some_at fs (position_or_len begins fs) (ltb-true _ _ e))
      by false e = ap (λ (o : Option CachedFunction). is_known (option_map known_function o)) (slice_get_past fs (position_or_len begins fs) (ltb-false _ _ e))

-- whether the function at the probe is known, by the table
pub table_known : (probe : ℕ) (t : FunctionTable) → is_known_at probe (known_table t) ≡ has_table probe t
table_known probe t = by (function_offset_at probe t.ranges)
  where
    by_place : (o : Option ℕ) (offset : ℕ) → has_first offset t.functions o ≡ has_place t o
    by_place None offset = refl
    by_place (Some n) offset = refl

    by : (o : Option ℕ) → unwrap_or (option_map (λ (f : KnownFunction). is_detail_known f.detail) (option_and_then (λ offset. find (λ (f : KnownFunction). f.offset == offset) (map known_function t.functions)) o)) true
        ≡ has_place t (option_and_then (λ offset. position (λ (f : CachedFunction). f.offset == offset) t.functions) o)
    by None = refl
    by (Some offset) = first_known offset t.functions ∙ by_place (position (λ (f : CachedFunction). f.offset == offset) t.functions) offset

-- details that are cached up to the first fault are known up to it
pub to_fault_known : (fs : List CachedFunction) → AreCachedToFault fs → AreKnownToFault (map known_function fs)
to_fault_known [] h = tt
to_fault_known (f ∷ fs) h = by f.detail h (to_fault_known fs)
  where
    by : (o : Option (Result Detail Error)) → IsCachedToFault o (AreCachedToFault fs) → (AreCachedToFault fs → AreKnownToFault (map known_function fs)) → IsKnownToFault (known_detail o) (AreKnownToFault (map known_function fs))
    by None k rest = absurd k
    by (Some (Ok d)) k rest = rest k
    by (Some (Err e)) k rest = subst (λ (b : Bool). IsKnownToFault (if b then HasFault else NotRead) (AreKnownToFault (map known_function fs))) (sym (cached_unless_oom e k)) tt

pub to_fault_cached : (fs : List CachedFunction) → AreKnownToFault (map known_function fs) → AreCachedToFault fs
to_fault_cached [] h = tt
to_fault_cached (f ∷ fs) h = by f.detail h (to_fault_cached fs)
  where
    by_fault : (e : Error) (b : Bool) → is_cached_fault e ≡ b → IsKnownToFault (if b then HasFault else NotRead) (AreKnownToFault (map known_function fs)) → e ≢ OutOfMemory
    by_fault e true is k = cached_is_not_oom e is
    by_fault e false is k = absurd k

    by : (o : Option (Result Detail Error)) → IsKnownToFault (known_detail o) (AreKnownToFault (map known_function fs)) → (AreKnownToFault (map known_function fs) → AreCachedToFault fs) → IsCachedToFault o (AreCachedToFault fs)
    by None k rest = absurd k
    by (Some (Ok d)) k rest = rest k
    by (Some (Err e)) k rest = by_fault e (is_cached_fault e) refl k

-- details that are cached without a fault are read
pub all_are_read : (fs : List CachedFunction) → AllByRecursion HasDetail fs → AllByRecursion (λ (f : KnownFunction). f.detail ≡ IsRead) (map known_function fs)
all_are_read [] h = tt
all_are_read (f ∷ fs) h = (ap known_detail h.0.1, all_are_read fs h.1)

pub all_have_detail : (fs : List CachedFunction) → AllByRecursion (λ (f : KnownFunction). f.detail ≡ IsRead) (map known_function fs) → AllByRecursion HasDetail fs
all_have_detail [] h = tt
all_have_detail (f ∷ fs) h = (by f.detail refl h.0, all_have_detail fs h.1)
  where
    by_fault : (b : Bool) → (if b then HasFault else NotRead) ≡ IsRead → ⊥
    by_fault true q = absurd cc
    by_fault false q = absurd cc

    by : (o : Option (Result Detail Error)) → f.detail ≡ o → known_detail o ≡ IsRead → HasDetail f
    by None e q = absurd cc
    by (Some (Ok d)) e q = (d, e)
    by (Some (Err x)) e q = absurd (by_fault (is_cached_fault x) q)
