-- The function at an address by what is cached of a view (on specs/EntriesFunctions.antt).
use Rattle.addr2line_units.proofs.Common.{Box, Global, ◌≡◌, ◌≢◌, ℕ, ◌+◌, ◌==◌, ◌&&◌, ◌⊎◌, inl, inr, nat_lt, not, Bool, true, false, cond, List, [], ◌∷◌, length, map, slice_get, slice_set, Option, Some, None, option_and_then, option_map, unwrap_or, Result, Ok, Err, refl, ap, sym, subst, ◌∙◌, zero, suc, AllByRecursion, AllZip, position_or_len, DwLang, Error, OutOfMemory, ◌>>=◌, ExactlyUnlessOomIf, Section, UnitRecord, Detail, detail_at, InlinedEntry, FunctionRange, entries_of, function_offset_at, functions_of, functions_take_memory, AreDetailsOf, AreUnread, IsDetailOf, IsFunctionMore, IsReadAt, IsReadOf, IsReadOnce, IsTableMore, IsWithDetail, all_read_once, AreListed, CachedFunction, FunctionTable, cached_detail, cached_inlined, cached_name, function_place_at, inlined_of_detail, name_of_detail, cached_offset_at, Location, exceeds_inline_room, Scope, all_at, get_set_other, some_at, read_more, read_right, unread_right, LazyFunctions, FrameRecord, found_frames, found_function, frames_from, function_at, function_from, ArePlacesIn, IsTableOf, ReadsNoOther, StayFunctions, cached_detail_takes_memory, cached_takes_memory, details_at, find_takes_memory, function_of_place, functions_fault, cached_functions, place_takes_memory, reading_takes_memory, table_takes_memory, were_read, memory_or_not, well_read, badly_read}
use Rattle.std.proofs.lemmas.Bool.{and_from}
use Rattle.std.specs.Prelude.{IfSome, position, reverse}
use Rattle.addr2line_lines.specs.CachedNames.{KnownNames, no_names}
use Rattle.addr2line_lines.specs.References.{in_scope}
use Rattle.addr2line_lines.specs.InlinedChain.{inlined_chain}
use Rattle.addr2line_lines.specs.FoundInlined.{entry_among}
use Rattle.addr2line_lines.proofs.ListedFunctions.{more_listed}
use Rattle.addr2line_units.specs.declared.entries.FunctionPlace.{FunctionPlace}
use Rattle.addr2line_units.specs.declared.entries.LazyFunctions.TheVariants as lazy
use Rattle.addr2line_units.proofs.EntriesFunctionMemoryLemmas.{details_take, place_takes}

-- functions that were just read are those of the view
pub read_table : (scope : Scope) (view : UnitRecord) (t : FunctionTable) → functions_of scope.file.sections view ≡ Ok t.ranges → AreListed t → AreUnread t → t.names ≡ no_names (Some (in_scope scope view)) → IsTableOf scope view t
read_table scope view t h listed unread none =
    record { ranges = h; listed = listed; details = unread_right scope view t unread; names = ap (λ (k : KnownNames). k.unit) none }

-- the function at the probe, by the functions of the view
pub function_is : (scope : Scope) (view : UnitRecord) (probe : ℕ) (r : Result (List FunctionRange) Error) → functions_of scope.file.sections view ≡ r
    → function_at scope view probe ≡ (r >>= λ functions. function_from scope view probe (function_offset_at probe functions))
unfolding function_at
function_is scope view probe r e = ap (λ x. x >>= λ functions. function_from scope view probe (function_offset_at probe functions)) e

-- no detail is cached of functions that were not read
pub unread_at : (fs : List CachedFunction) (n : ℕ) → AllByRecursion (λ (f : CachedFunction). f.detail ≡ None) fs → option_and_then (λ (f : CachedFunction). f.detail) (slice_get fs n) ≡ None
unread_at [] n all = refl
unread_at (f ∷ fs) zero all = all.0
unread_at (f ∷ fs) (suc n) all = unread_at fs n all.1

-- the first function of an offset is at the same place where the offsets are the same
pub first_same : (offset : ℕ) (fs gs : List CachedFunction) → AllZip IsFunctionMore fs gs
    → position_or_len (λ (f : CachedFunction). f.offset == offset) gs ≡ position_or_len (λ (f : CachedFunction). f.offset == offset) fs
first_same offset [] [] all = refl
first_same offset [] (g ∷ gs) all = absurd all
first_same offset (f ∷ fs) [] all = absurd all
first_same offset (f ∷ fs) (g ∷ gs) all =
    ap (λ (k : ℕ). cond (not (k == offset)) (1 + position_or_len (λ (f : CachedFunction). f.offset == offset) gs) 0) all.0.offset
    ∙ ap (λ (k : ℕ). cond (not (f.offset == offset)) (1 + k) 0) (first_same offset fs gs all.1)

long_same : (fs gs : List CachedFunction) → AllZip IsFunctionMore fs gs → length gs ≡ length fs
long_same [] [] all = refl
long_same [] (g ∷ gs) all = absurd all
long_same (f ∷ fs) [] all = absurd all
long_same (f ∷ fs) (g ∷ gs) all = ap suc (long_same fs gs all.1)

-- as many functions stay
pub number_stays : (old new : FunctionTable) → IsTableMore old new → length new.functions ≡ length old.functions
number_stays old new more = long_same old.functions new.functions more.functions

place_same : (offset : ℕ) (fs gs : List CachedFunction) → AllZip IsFunctionMore fs gs
    → position (λ (f : CachedFunction). f.offset == offset) gs ≡ position (λ (f : CachedFunction). f.offset == offset) fs
place_same offset fs gs all =
    ap (λ (k : ℕ). cond (nat_lt k (length gs)) (Some k) None) (first_same offset fs gs all)
    ∙ ap (λ (l : ℕ). cond (nat_lt (position_or_len (λ (f : CachedFunction). f.offset == offset) fs) l) (Some (position_or_len (λ (f : CachedFunction). f.offset == offset) fs)) None) (long_same fs gs all)

-- the place of the function at an address stays where more details are cached
pub place_stays : (probe : ℕ) (old new : FunctionTable) → IsTableMore old new → function_place_at probe new ≡ function_place_at probe old
place_stays probe old new more =
    ap (λ (rs : List FunctionRange). option_and_then (λ offset. position (λ (f : CachedFunction). f.offset == offset) new.functions) (function_offset_at probe rs)) more.ranges
    ∙ by_offset (function_offset_at probe old.ranges)
  where
    by_offset : (o : Option ℕ) → option_and_then (λ offset. position (λ (f : CachedFunction). f.offset == offset) new.functions) o ≡ option_and_then (λ offset. position (λ (f : CachedFunction). f.offset == offset) old.functions) o
    by_offset None = refl
    by_offset (Some offset) = place_same offset old.functions new.functions more.functions

-- the function at no place
pub none_found : (scope : Scope) (view : UnitRecord) (probe : ℕ) (t : FunctionTable) → IsTableOf scope view t → None ≡ function_offset_at probe t.ranges → function_at scope view probe ≡ Ok None
none_found scope view probe t h e = function_is scope view probe (Ok t.ranges) h.ranges ∙ ap (function_from scope view probe) (sym e)

module _ (scope : Scope) (view : UnitRecord) (probe n : ℕ) (old new : FunctionTable) (f : CachedFunction) (q : slice_get old.functions n ≡ Some f) where
  -- what stands at the place then
  new_at : (v : Result Detail Error) → IsWithDetail n f v old new → slice_get new.functions n ≡ Some (record { offset = f.offset; detail = Some v })
  new_at v w = ap (λ (fs : List CachedFunction). slice_get fs n) w.functions ∙ set_at old.functions n f _ q
    where
      set_at : (fs : List CachedFunction) (n : ℕ) (f g : CachedFunction) → slice_get fs n ≡ Some f → slice_get (slice_set fs n g) n ≡ Some g
      set_at [] n f g e = absurd cc
      set_at (x ∷ fs) zero f g e = refl
      set_at (x ∷ fs) (suc n) f g e = set_at fs n f g e

  -- a detail that was cached
  same_at : (v : Result Detail Error) → f.detail ≡ Some v → new ≡ old → slice_get new.functions n ≡ Some (record { offset = f.offset; detail = Some v })
  same_at v e s = ap (λ (t : FunctionTable). slice_get t.functions n) s ∙ q ∙ ap (λ (x : Option (Result Detail Error)). Some (record { offset = f.offset; detail = x })) e

  -- after a detail was read, or its fault, it is cached
  pub record IsCached (v : Result Detail Error) : Type 0 where
    pub is : detail_at scope view f.offset ≡ v
    pub function : slice_get new.functions n ≡ Some (record { offset = f.offset; detail = Some v })

  pub read_ok : IsDetailOf scope view f → IsReadAt scope view n old (Ok tt) new → (d : Detail) × IsCached (Ok d)
  read_ok right k = by_detail f.detail refl (subst (λ o. IsReadOf scope view n o old (Ok tt) new) q k)
    where
      by_detail : (x : Option (Result Detail Error)) → f.detail ≡ x → IsReadOnce scope view n f x old (Ok tt) new → (d : Detail) × IsCached (Ok d)
      by_detail None e k =
          let d = well_read (detail_at scope view f.offset) k.0 in
          (d.0, record { is = d.1; function = new_at (detail_at scope view f.offset) k.1 ∙ ap (λ (v : Result Detail Error). Some (record { offset = f.offset; detail = Some v })) d.1 })
      by_detail (Some (Ok d)) e k = (d, record { is = right (Ok d) e; function = same_at (Ok d) e k.1 })
      by_detail (Some (Err x)) e k = absurd cc

  pub read_err : (x : Error) → IsDetailOf scope view f → IsReadAt scope view n old (Err x) new → IsCached (Err x) ⊎ ((x ≡ OutOfMemory) × (f.detail ≡ None) × (new ≡ old))
  read_err x right k = by_detail f.detail refl (subst (λ o. IsReadOf scope view n o old (Err x) new) q k)
    where
      by_detail : (y : Option (Result Detail Error)) → f.detail ≡ y → IsReadOnce scope view n f y old (Err x) new → IsCached (Err x) ⊎ ((x ≡ OutOfMemory) × (f.detail ≡ None) × (new ≡ old))
      by_detail None e k = elim (memory_or_not x) [
        | inl m ↦ inr (m, e, k.1 m)
        | inr ne ↦ (let r = k.0 ne in let is = badly_read (detail_at scope view f.offset) x r.0 in
            inl (record { is = is; function = new_at (detail_at scope view f.offset) r.1 ∙ ap (λ (v : Result Detail Error). Some (record { offset = f.offset; detail = Some v })) is }))
      ]
      by_detail (Some (Ok d)) e k = absurd cc
      by_detail (Some (Err y)) e k = let same : y ≡ x = cc in let at : f.detail ≡ Some (Err x) = e ∙ ap (λ (z : Error). Some (Err z)) same in inl (record { is = right (Err x) at; function = same_at (Err x) at k.1 })

  -- what is cached then, by the place
  pub cached_is : (v : Result Detail Error) → IsCached v → cached_detail new n ≡ Some v
  cached_is v h = ap (λ (o : Option CachedFunction). option_and_then (λ (g : CachedFunction). g.detail) o) h.function

  -- the function at the address, by its detail or the fault of that
  pub from_detail : IsTableOf scope view old → cached_offset_at old n ≡ function_offset_at probe old.ranges → (v : Result Detail Error) → detail_at scope view f.offset ≡ v
      → function_at scope view probe ≡ (v >>= λ detail. Ok (Some (found_function probe f.offset detail)))
  from_detail h at v e =
      let offset : function_offset_at probe old.ranges ≡ Some f.offset = sym at ∙ ap (option_map (λ (g : CachedFunction). g.offset)) q in
      function_is scope view probe (Ok old.ranges) h.ranges ∙ ap (function_from scope view probe) offset
      ∙ ap (λ (r : Result Detail Error). r >>= λ detail. Ok (Some (found_function probe f.offset detail))) e

  pub fault_found : IsTableOf scope view old → cached_offset_at old n ≡ function_offset_at probe old.ranges → (x : Error) → IsCached (Err x) → function_at scope view probe ≡ Err x
  fault_found h at x k = from_detail h at (Err x) k.is

  -- the function by its place, and its inlined functions by theirs
  pub place_found : IsTableOf scope view old → cached_offset_at old n ≡ function_offset_at probe old.ranges → (d : Detail) → IsCached (Ok d) → (p : FunctionPlace) → p.place ≡ n
      → ◌≡◌ {A = Result (List InlinedEntry) Error} (Ok (inlined_chain probe (cached_inlined new n))) (Ok (map (entry_among new.inlined) p.inlined.items))
      → function_at scope view probe ≡ Ok (Some (function_of_place new p))
  place_found h at d k p same chain =
      let inlined : cached_inlined new n ≡ d.inlined = ap (λ (o : Option (Result Detail Error)). elim o [ None ↦ [] | Some x ↦ inlined_of_detail x ]) (cached_is (Ok d) k) in
      let entries : inlined_chain probe (cached_inlined new n) ≡ map (entry_among new.inlined) p.inlined.items = cc in
      let listed : inlined_chain probe d.inlined ≡ map (entry_among new.inlined) p.inlined.items = ap (inlined_chain probe) (sym inlined) ∙ entries in
      let offset : unwrap_or (cached_offset_at new p.place) 0 ≡ f.offset = ap (λ (m : ℕ). unwrap_or (cached_offset_at new m) 0) same ∙ ap (λ (o : Option CachedFunction). unwrap_or (option_map (λ (g : CachedFunction). g.offset) o) 0) k.function in
      let name : cached_name new p.place ≡ d.name = ap (cached_name new) same ∙ ap (option_and_then name_of_detail) (cached_is (Ok d) k) in
      from_detail h at (Ok d) k.is
      ∙ ap (λ (es : List InlinedEntry). Ok (Some (record { offset = f.offset; name = d.name; inlined = es }))) listed
      ∙ ap (λ (o : ℕ). Ok (Some (record { offset = o; name = d.name; inlined = map (entry_among new.inlined) p.inlined.items }))) (sym offset)
      ∙ ap (λ (m : Option Section). Ok (Some (record { offset = unwrap_or (cached_offset_at new p.place) 0; name = m; inlined = map (entry_among new.inlined) p.inlined.items }))) (sym name)

  -- memory may be taken before and after where it was refused for a detail
  abbrev pub MemoryLacks : Error → Type 0
  MemoryLacks x = (table_takes_memory probe old && table_takes_memory probe new) ≡ true → x ≢ OutOfMemory

  pub refused_detail : IsTableOf scope view old → function_place_at probe old ≡ Some n → cached_offset_at old n ≡ function_offset_at probe old.ranges → (x : Error) → IsReadAt scope view n old (Err x) new → MemoryLacks x → function_at scope view probe ≡ Err x
  refused_detail h place at x k lacks = elim (read_err x (all_at (IsDetailOf scope view) old.functions n f h.details q) k) [
    | inl c ↦ fault_found h at x c
    | inr m ↦ (let before : table_takes_memory probe old ≡ true = ap (place_takes_memory probe old) place ∙ ap (cached_detail_takes_memory probe) (ap (λ (o : Option CachedFunction). option_and_then (λ (g : CachedFunction). g.detail) o) q ∙ m.1) in
        let after : table_takes_memory probe new ≡ true = ap (table_takes_memory probe) m.2 ∙ before in
        absurd (lacks (and_from _ _ before after) m.0))
  ]

  -- memory is taken for more than 16 inlined functions before and after, so that no other refusal stands
  pub refused_chain : IsTableOf scope view old → function_place_at probe old ≡ Some n → IsReadAt scope view n old (Ok tt) new → (x : Error) → ((exceeds_inline_room (inlined_chain probe (cached_inlined new n)) ≡ true → x ≢ OutOfMemory) → ◌≡◌ {A = Result (List InlinedEntry) Error} (Ok (inlined_chain probe (cached_inlined new n))) (Err x)) → MemoryLacks x → ⊥
  refused_chain h place k x given lacks =
      let c = read_ok (all_at (IsDetailOf scope view) old.functions n f h.details q) k in
      let never : (exceeds_inline_room (inlined_chain probe (cached_inlined new n)) ≡ true → x ≢ OutOfMemory) → ⊥ = λ m. (let w = given m in absurd cc) in
      elim (memory_or_not x) [
        | inr ne ↦ never (λ _. ne)
        | inl m ↦ never (λ many. λ _. lacks (and_from _ _ (before c.0 c.1 many) (after c.0 c.1 many)) m)
      ]
    where
      after : (d : Detail) → IsCached (Ok d) → exceeds_inline_room (inlined_chain probe (cached_inlined new n)) ≡ true → table_takes_memory probe new ≡ true
      after d c many =
          ap (place_takes_memory probe new) (place_stays probe old new (read_more scope view n old new (Ok tt) k) ∙ place) ∙ ap (cached_detail_takes_memory probe) (cached_is (Ok d) c)
          ∙ sym (ap (λ (o : Option (Result Detail Error)). exceeds_inline_room (inlined_chain probe (elim o [ None ↦ [] | Some y ↦ inlined_of_detail y ]))) (cached_is (Ok d) c)) ∙ many

      at_old : cached_detail old n ≡ f.detail
      at_old = ap (λ (o : Option CachedFunction). option_and_then (λ (g : CachedFunction). g.detail) o) q

      before : (d : Detail) → IsCached (Ok d) → exceeds_inline_room (inlined_chain probe (cached_inlined new n)) ≡ true → table_takes_memory probe old ≡ true
      before d c many = ap (place_takes_memory probe old) place ∙ ap (cached_detail_takes_memory probe) at_old ∙ by_detail f.detail refl
        where
          right : IsDetailOf scope view f
          right = all_at (IsDetailOf scope view) old.functions n f h.details q

          by_detail : (y : Option (Result Detail Error)) → f.detail ≡ y → cached_detail_takes_memory probe y ≡ true
          by_detail None e = refl
          by_detail (Some v) e =
              let same : v ≡ Ok d = sym (right v e) ∙ c.is in
              ap (λ (w : Result Detail Error). exceeds_inline_room (inlined_chain probe (inlined_of_detail w))) same
              ∙ sym (ap (λ (o : Option (Result Detail Error)). exceeds_inline_room (inlined_chain probe (elim o [ None ↦ [] | Some y ↦ inlined_of_detail y ]))) (cached_is (Ok d) c)) ∙ many

  pub chain_found : IsTableOf scope view old → cached_offset_at old n ≡ function_offset_at probe old.ranges → IsReadAt scope view n old (Ok tt) new → (p : FunctionPlace) → p.place ≡ n
      → ◌≡◌ {A = Result (List InlinedEntry) Error} (Ok (inlined_chain probe (cached_inlined new n))) (Ok (map (entry_among new.inlined) p.inlined.items))
      → function_at scope view probe ≡ Ok (Some (function_of_place new p))
  chain_found h at k p same chain =
      let c = read_ok (all_at (IsDetailOf scope view) old.functions n f h.details q) k in
      place_found h at c.0 c.1 p same chain

-- no other detail is read
pub reads_one : (scope : Scope) (view : UnitRecord) (probe n : ℕ) (old new : FunctionTable) (r : Result (Unit {0}) Error) → function_place_at probe old ≡ Some n → IsReadAt scope view n old r new → ReadsNoOther probe old new
reads_one scope view probe n old new r place k = λ i ne. by_read i (λ e. ne (place_stays probe old new (read_more scope view n old new r k) ∙ place ∙ ap Some (sym e)))
  where
    by_read : (i : ℕ) → (i ≡ n → ⊥) → cached_detail new i ≡ cached_detail old i
    by_read i ne = by_function (slice_get old.functions n) k
      where
        same : new ≡ old → cached_detail new i ≡ cached_detail old i
        same e = ap (λ (t : FunctionTable). cached_detail t i) e

        one : (f : CachedFunction) (v : Result Detail Error) → IsWithDetail n f v old new → cached_detail new i ≡ cached_detail old i
        one f v w = ap (λ (fs : List CachedFunction). option_and_then (λ (g : CachedFunction). g.detail) (slice_get fs i)) w.functions
            ∙ ap (λ (o : Option CachedFunction). option_and_then (λ (g : CachedFunction). g.detail) o) (get_set_other old.functions n i _ ne)

        by_result : (f : CachedFunction) (r : Result (Unit {0}) Error) → IsReadOnce scope view n f None old r new → cached_detail new i ≡ cached_detail old i
        by_result f (Ok x) h = one f _ h.1
        by_result f (Err e) h = elim (memory_or_not e) [ inl m ↦ same (h.1 m) | inr other ↦ one f _ (h.0 other).1 ]

        by_detail : (f : CachedFunction) (d : Option (Result Detail Error)) → IsReadOnce scope view n f d old r new → cached_detail new i ≡ cached_detail old i
        by_detail f (Some d) h = same h.1
        by_detail f None h = by_result f r h

        by_function : (o : Option CachedFunction) → IsReadOf scope view n o old r new → cached_detail new i ≡ cached_detail old i
        by_function None h = same h.1
        by_function (Some f) h = by_detail f f.detail h

-- the functions stay those of the view
pub table_stays : (scope : Scope) (view : UnitRecord) (n : ℕ) (old new : FunctionTable) (r : Result (Unit {0}) Error) → IsTableOf scope view old → IsReadAt scope view n old r new → IsTableOf scope view new
table_stays scope view n old new r h k =
    let more = read_more scope view n old new r k in
    record { ranges = h.ranges ∙ ap Ok (sym more.ranges); listed = more_listed old new h.listed more; details = read_right scope view n old new r h.details k; names = more.names.unit ∙ h.names }

-- the first fault of all is that of the details
pub fault_is : (scope : Scope) (view : UnitRecord) (t : FunctionTable) → IsTableOf scope view t → functions_fault scope view ≡ details_at scope view (map (λ (f : CachedFunction). f.offset) t.functions)
fault_is scope view t h =
    ap (λ (r : Result (List FunctionRange) Error). r >>= λ ranges. details_at scope view (entries_of ranges)) h.ranges
    ∙ ap (details_at scope view) (sym h.listed)

-- functions stay those of the view where more right details are cached
pub table_more : (scope : Scope) (view : UnitRecord) (old new : FunctionTable) → IsTableOf scope view old → IsTableMore old new → AreDetailsOf scope view new → IsTableOf scope view new
table_more scope view old new h more details = record { ranges = h.ranges ∙ ap Ok (sym more.ranges); listed = more_listed old new h.listed more; details = details; names = more.names.unit ∙ h.names }

-- memory may be taken more often
pub exactly_weaker : {X Y : Type 0} (a b : Bool) (see : X → Y) (r : Result X Error) (given : Result Y Error) → (a ≡ true → b ≡ true) → ExactlyUnlessOomIf a see r given → ExactlyUnlessOomIf b see r given
exactly_weaker a b see (Ok x) given w h = h
exactly_weaker a b see (Err e) given w h = λ ne. h (λ t. ne (w t))

-- the first fault of a view without functions, which has none
pub no_fault_of : (scope : Scope) (view : UnitRecord) → functions_of scope.file.sections view ≡ Ok [] → functions_fault scope view ≡ Ok tt
no_fault_of scope view e = ap (λ (r : Result (List FunctionRange) Error). r >>= λ ranges. details_at scope view (entries_of ranges)) e

-- functions that were read stay as they are, and others are read
module _ {R : Type 0} (old mid : LazyFunctions R) (kept : were_read old ≡ true → (mid ≡ old)) where
  -- functions that are cached were cached before, or weren't read
  module _ (shares : Bool) (scope : Scope) (view : UnitRecord) (t : Box FunctionTable Global) (read : mid ≡ lazy.Read t) (is_table : IsTableOf scope view t.value) where
    taken_before : (takes : FunctionTable → Bool) → (takes t.value ≡ true → functions_take_memory shares scope.file.sections view ≡ true) → takes t.value ≡ true → cached_takes_memory shares scope view takes old ≡ true
    taken_before takes some h = by_old old refl
      where
        by_old : (x : LazyFunctions R) → old ≡ x → cached_takes_memory shares scope view takes x ≡ true
        by_old lazy.Unread q = some h
        by_old lazy.Absent q = let is : lazy.Read t ≡ lazy.Absent = sym read ∙ kept (ap were_read q) ∙ q in absurd cc
        by_old (lazy.Read s) q =
            let is : lazy.Read t ≡ lazy.Read s = sym read ∙ kept (ap were_read q) ∙ q in
            let same : t ≡ s = cc in
            ap (λ (u : Box FunctionTable Global). takes u.value) (sym same) ∙ h
        by_old (lazy.Faulty x) q = let is : lazy.Read t ≡ lazy.Faulty x = sym read ∙ kept (ap were_read q) ∙ q in absurd cc

    pub memory_before : (probe : ℕ) → table_takes_memory probe t.value ≡ true → find_takes_memory shares scope view probe old ≡ true
    memory_before probe h = taken_before (table_takes_memory probe) (place_takes shares scope view t.value is_table probe) h

    pub reading_before : (all_read_once scope view t.value.functions).takes_memory shares ≡ true → reading_takes_memory shares scope view old ≡ true
    reading_before h = taken_before (λ (u : FunctionTable). (all_read_once scope view u.functions).takes_memory shares) (details_take shares scope view t.value is_table) h

  pub stay_read : (t new : Box FunctionTable Global) → mid ≡ lazy.Read t → IsTableMore t.value new.value → StayFunctions old (lazy.Read new)
  stay_read t new e more = by_old old refl
    where
      by_old : (x : LazyFunctions R) → old ≡ x → StayFunctions x (lazy.Read new)
      by_old lazy.Unread q = tt
      by_old lazy.Absent q = let is : lazy.Read t ≡ lazy.Absent = sym e ∙ kept (ap were_read q) ∙ q in absurd cc
      by_old (lazy.Read s) q =
          let is : lazy.Read t ≡ lazy.Read s = sym e ∙ kept (ap were_read q) ∙ q in
          let same : t ≡ s = cc in
          subst (λ (u : Box FunctionTable Global). IsTableMore u.value new.value) same more
      by_old (lazy.Faulty x) q = let is : lazy.Read t ≡ lazy.Faulty x = sym e ∙ kept (ap were_read q) ∙ q in absurd cc

  pub stay_faulty : (e : Error) → mid ≡ lazy.Faulty e → StayFunctions old (lazy.Faulty e)
  stay_faulty e at = by_old old refl
    where
      by_old : (x : LazyFunctions R) → old ≡ x → StayFunctions x (lazy.Faulty e)
      by_old lazy.Unread q = tt
      by_old lazy.Absent q = sym at ∙ kept (ap were_read q) ∙ q
      by_old (lazy.Read s) q = let is : lazy.Faulty e ≡ lazy.Read s = sym at ∙ kept (ap were_read q) ∙ q in absurd cc
      by_old (lazy.Faulty x) q = sym at ∙ kept (ap were_read q) ∙ q

  -- no detail is cached where functions are read
  pub details_before : (t : Box FunctionTable Global) → (were_read old ≡ false → AreUnread (cached_functions mid)) → mid ≡ lazy.Read t → (n : ℕ) → cached_detail t.value n ≡ cached_detail (cached_functions old) n
  details_before t unread e n = by_old old refl
    where
      by_old : (x : LazyFunctions R) → old ≡ x → cached_detail t.value n ≡ cached_detail (cached_functions x) n
      by_old lazy.Unread q = unread_at t.value.functions n (subst (λ (y : LazyFunctions R). AreUnread (cached_functions y)) e (unread (ap were_read q)))
      by_old lazy.Absent q = let is : lazy.Read t ≡ lazy.Absent = sym e ∙ kept (ap were_read q) ∙ q in absurd cc
      by_old (lazy.Read s) q =
          let is : lazy.Read t ≡ lazy.Read s = sym e ∙ kept (ap were_read q) ∙ q in
          let same : t ≡ s = cc in
          ap (λ (u : Box FunctionTable Global). cached_detail u.value n) same
      by_old (lazy.Faulty x) q = let is : lazy.Read t ≡ lazy.Faulty x = sym e ∙ kept (ap were_read q) ∙ q in absurd cc

  pub none_before : (e : Error) → mid ≡ lazy.Faulty e → (n : ℕ) → None ≡ cached_detail (cached_functions old) n
  none_before e at n = by_old old refl
    where
      by_old : (x : LazyFunctions R) → old ≡ x → None ≡ cached_detail (cached_functions x) n
      by_old lazy.Unread q = refl
      by_old lazy.Absent q = refl
      by_old (lazy.Read s) q = let is : lazy.Faulty e ≡ lazy.Read s = sym at ∙ kept (ap were_read q) ∙ q in absurd cc
      by_old (lazy.Faulty x) q = refl

-- the frames of a function by its place among those that are cached
pub frames_of_place : (files : List (List ℕ)) (language : Option DwLang) (t : FunctionTable) (p : FunctionPlace) → ArePlacesIn t p → (location : Option Location) (left : List FrameRecord)
    → IfSome (cached_offset_at t p.place) (λ offset. left ≡ frames_from files language offset (cached_name t p.place) (reverse (map (entry_among t.inlined) p.inlined.items)) location)
    → left ≡ found_frames files language (Some (function_of_place t p)) location
frames_of_place files language t p there location left h =
    let at = some_at t.functions p.place there.function in
    by_offset (cached_offset_at t p.place) (ap (option_map (λ (f : CachedFunction). f.offset)) at.1) h
  where
    by_offset : {k : ℕ} (o : Option ℕ) → o ≡ Some k → IfSome o (λ offset. left ≡ frames_from files language offset (cached_name t p.place) (reverse (map (entry_among t.inlined) p.inlined.items)) location)
        → left ≡ frames_from files language (unwrap_or o 0) (cached_name t p.place) (reverse (map (entry_among t.inlined) p.inlined.items)) location
    by_offset None e h = absurd cc
    by_offset (Some offset) e h = h
