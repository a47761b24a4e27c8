-- What is known of the function at an address by what is cached (on specs/EntriesFunctions.antt).
use Rattle.addr2line_units.proofs.Common.{Box, Global, ◌≡◌, ◌≢◌, ℕ, inl, inr, true, false, List, [], slice_get, Option, Some, None, option_and_then, Result, Ok, Err, refl, ap, sym, ◌∙◌, Error, OutOfMemory, UnitRecord, Detail, InlinedEntry, InlinedRange, function_offset_at, CachedFunction, FunctionTable, cached_detail, cached_inlined, function_place_at, inlined_of_detail, cached_offset_at, IsDetailOf, IsReadAt, IsReadOf, IsReadOnce, exceeds_inline_room, Scope, all_at, read_more, LazyFunctions, function_at, IsTableOf, has_detail, cached_has_function, has_place, has_table, is_cached_fault, were_read, inlined_of_found}
use Rattle.std.specs.Box.{with_value}
use Rattle.addr2line_lines.specs.InlinedChain.{inlined_chain}
use Rattle.addr2line_units.specs.declared.entries.LazyFunctions.TheVariants as lazy
use Rattle.addr2line_units.proofs.EntriesFunctionLemmas.{cached_is, from_detail, place_stays, read_err, read_ok}

-- any fault but OutOfMemory is cached
pub cached_unless_oom : (x : Error) → x ≢ OutOfMemory → is_cached_fault x ≡ true
cached_unless_oom OutOfMemory ne = absurd (ne refl)
cached_unless_oom _ ne = refl

-- and OutOfMemory isn't
pub cached_is_not_oom : (x : Error) → is_cached_fault x ≡ true → x ≢ OutOfMemory
cached_is_not_oom OutOfMemory h = λ e. cc
cached_is_not_oom _ h = λ e. absurd cc

-- nothing is read where the function at the address is known
pub known_stays : (scope : Scope) (view : UnitRecord) (probe n : ℕ) (old new : FunctionTable) (r : Result (Unit {0}) Error) → function_place_at probe old ≡ Some n → IsReadAt scope view n old r new → has_table probe old ≡ true → new ≡ old
known_stays scope view probe n old new r place k h = by_function (slice_get old.functions n) (sym (ap (has_place old) place) ∙ h) k
  where
    by_detail : (f : CachedFunction) (d : Option (Result Detail Error)) → has_detail d ≡ true → IsReadOnce scope view n f d old r new → new ≡ old
    by_detail f None e k = cc
    by_detail f (Some d) e k = k.1

    by_function : (o : Option CachedFunction) → has_detail (option_and_then (λ (g : CachedFunction). g.detail) o) ≡ true → IsReadOf scope view n o old r new → new ≡ old
    by_function None e k = k.1
    by_function (Some f) e k = by_detail f f.detail e k

module _ (scope : Scope) (view : UnitRecord) (probe n : ℕ) (old new : FunctionTable) (f : CachedFunction) (q : slice_get old.functions n ≡ Some f) (h : IsTableOf scope view old) (place : function_place_at probe old ≡ Some n) where
  right : IsDetailOf scope view f
  right = all_at (IsDetailOf scope view) old.functions n f h.details q

  known_by : (r : Result (Unit {0}) Error) → IsReadAt scope view n old r new → (v : Result Detail Error) → cached_detail new n ≡ Some v → has_table probe new ≡ has_detail (Some v)
  known_by r k v e = ap (has_place new) (place_stays probe old new (read_more scope view n old new r k) ∙ place) ∙ ap has_detail e

  -- after a fault of the detail the function is known
  pub refused_known : (x : Error) → IsReadAt scope view n old (Err x) new → x ≢ OutOfMemory → has_table probe new ≡ true
  refused_known x k ne = elim (read_err scope view probe n old new f q x right k) [
    | inl c ↦ known_by (Err x) k (Err x) (cached_is scope view probe n old new f q (Err x) c) ∙ cached_unless_oom x ne
    | inr m ↦ absurd (ne m.0)
  ]

  -- and where it is known the refusal is such a fault
  pub refused_fault : (x : Error) → IsReadAt scope view n old (Err x) new → has_table probe new ≡ true → x ≢ OutOfMemory
  refused_fault x k has = elim (read_err scope view probe n old new f q x right k) [
    | inl c ↦ cached_is_not_oom x (sym (known_by (Err x) k (Err x) (cached_is scope view probe n old new f q (Err x) c)) ∙ has)
    | inr m ↦ (let none : cached_detail old n ≡ None = ap (λ (o : Option CachedFunction). option_and_then (λ (g : CachedFunction). g.detail) o) q ∙ m.1 in
        let no : false ≡ true = sym (ap (has_table probe) m.2 ∙ ap (has_place old) place ∙ ap has_detail none) ∙ has in
        absurd cc)
  ]

  -- after a detail was read the function is known
  pub chain_known : IsReadAt scope view n old (Ok tt) new → has_table probe new ≡ true
  chain_known k =
      let c = read_ok scope view probe n old new f q right k in
      known_by (Ok tt) k (Ok c.0) (cached_is scope view probe n old new f q (Ok c.0) c.1)

  -- and its inlined functions take no memory where they are at most 16
  pub chain_fits : cached_offset_at old n ≡ function_offset_at probe old.ranges → IsReadAt scope view n old (Ok tt) new → (x : Error)
      → ((exceeds_inline_room (inlined_chain probe (cached_inlined new n)) ≡ true → x ≢ OutOfMemory) → ◌≡◌ {A = Result (List InlinedEntry) Error} (Ok (inlined_chain probe (cached_inlined new n))) (Err x))
      → exceeds_inline_room (inlined_of_found (function_at scope view probe)) ≡ false → x ≢ OutOfMemory
  chain_fits at k x given few =
      let c = read_ok scope view probe n old new f q right k in
      let found = from_detail scope view probe n old new f q h at (Ok c.0) c.1.is in
      let short : exceeds_inline_room (inlined_chain probe c.0.inlined) ≡ false = sym (ap (λ f. exceeds_inline_room (inlined_of_found f)) found) ∙ few in
      let same : cached_inlined new n ≡ c.0.inlined = ap (λ (o : Option (Result Detail Error)). elim o [ None ↦ [] | Some y ↦ inlined_of_detail y ]) (cached_is scope view probe n old new f q (Ok c.0) c.1) in
      let fits : exceeds_inline_room (inlined_chain probe (cached_inlined new n)) ≡ false = ap (λ (rs : List InlinedRange). exceeds_inline_room (inlined_chain probe rs)) same ∙ short in
      let no = given (λ many. (let both : false ≡ true = sym fits ∙ many in absurd cc)) in
      absurd cc

-- functions that were read stay as they are, and others are read
module _ {R : Type 0} (old mid : LazyFunctions R) (kept : were_read old ≡ true → (mid ≡ old)) (probe : ℕ) (has : cached_has_function probe old ≡ true) where
  were_known : (x : LazyFunctions R) → cached_has_function probe x ≡ true → were_read x ≡ true
  were_known lazy.Unread h = cc
  were_known lazy.Absent h = refl
  were_known (lazy.Read t) h = refl
  were_known (lazy.Faulty e) h = refl

  -- where the function at the address is known they were read
  pub same_known : mid ≡ old
  same_known = kept (were_known old has)

  -- and they stay
  pub table_known : (t : Box FunctionTable Global) (new : FunctionTable) → mid ≡ lazy.Read t → (has_table probe t.value ≡ true → new ≡ t.value) → lazy.Read (with_value t new) ≡ old
  table_known t new e stays = ap (λ x. lazy.Read (with_value t x)) (stays (ap (cached_has_function probe) (sym e ∙ same_known) ∙ has)) ∙ sym e ∙ same_known
