-- What a cache of tables finds, and units by it (on specs/CachedTables.antt).
use Rattle.gimli.proofs.Common.{◌≡◌, ◌≢◌, ℕ, Bool, true, false, cond, List, Option, Some, is_some, is_ok, Result, Ok, Err, refl, ap, sym, ◌∙◌, list_any, Error, OutOfMemory, Section, ◌>>=◌, ExactlyUnlessOomIf, Abbrev, given_as, UnitHeaderFields, from_offset, UnitRecord, table_from, unit_by, unit_record_of, CachedTables, is_cached, cached_unit_takes_memory}
use Rattle.std.specs.Ordering.{nat_cmp}
use Rattle.std.specs.BTreeMap.{BTreeMap, get, keys, is_at}
use Rattle.std.proofs.lemmas.Map.Made.{is_some-lookup}
use Rattle.gimli_read.specs.Abbrev.{table_at}
use Rattle.gimli.specs.UnitMemory.{stored_unit_by}

-- a table is found where its offset is among the keys
pub found_is_cached : {T : Type 0} (tables : BTreeMap ℕ T) (cache : CachedTables) (offset : ℕ) → keys tables ≡ cache.offsets → is_some (get nat_cmp tables offset) ≡ is_cached offset cache
found_is_cached tables cache offset h =
    is_some-lookup (is_at (nat_cmp offset)) tables.entries ∙ ap (list_any (is_at (nat_cmp offset))) h

-- a key with a value is among the keys
pub cached_now : {T : Type 0} (tables : BTreeMap ℕ T) (offset : ℕ) (t : T) → get nat_cmp tables offset ≡ Some t → list_any (is_at (nat_cmp offset)) (keys tables) ≡ true
cached_now tables offset t h = sym (is_some-lookup (is_at (nat_cmp offset)) tables.entries) ∙ ap is_some h

-- a key stays among the keys when another takes a value
pub cached_still : {T : Type 0} (old new : BTreeMap ℕ T) (offset : ℕ) (t : T) → ((q : ℕ) → get nat_cmp new q ≡ cond (is_at (nat_cmp offset) q) (Some t) (get nat_cmp old q))
    → (q : ℕ) → list_any (is_at (nat_cmp q)) (keys old) ≡ true → list_any (is_at (nat_cmp q)) (keys new) ≡ true
cached_still {T} old new offset t h q k =
    sym (is_some-lookup (is_at (nat_cmp q)) new.entries) ∙ ap is_some (h q)
    ∙ at (is_at (nat_cmp offset) q) (get nat_cmp old q) (is_some-lookup (is_at (nat_cmp q)) old.entries ∙ k)
  where
    at : (b : Bool) (o : Option T) → is_some o ≡ true → is_some (cond b (Some t) o) ≡ true
    at true o p = refl
    at false o p = p

-- memory for a unit whose table is cached
takes_cached : (shares : Bool) (cache : CachedTables) (header : UnitHeaderFields) (table : Result (List Abbrev) Error)
    → is_cached header.debug_abbrev_offset cache ≡ true → table_from header.debug_abbrev_offset cache.dwarf.debug_abbrev ≡ table
    → cached_unit_takes_memory shares cache header ≡ (stored_unit_by cache.dwarf header table).takes_memory shares
takes_cached shares cache header table h k =
    ap (λ b. cond b ((stored_unit_by cache.dwarf header (table_from header.debug_abbrev_offset cache.dwarf.debug_abbrev)).takes_memory shares) (is_ok (from_offset header.debug_abbrev_offset cache.dwarf.debug_abbrev))) h
    ∙ ap (λ t. (stored_unit_by cache.dwarf header t).takes_memory shares) k

-- memory for a unit whose table is not cached
takes_uncached : (shares : Bool) (cache : CachedTables) (header : UnitHeaderFields) (rest : Result Section Error)
    → is_cached header.debug_abbrev_offset cache ≡ false → from_offset header.debug_abbrev_offset cache.dwarf.debug_abbrev ≡ rest
    → cached_unit_takes_memory shares cache header ≡ is_ok rest
takes_uncached shares cache header rest h k =
    ap (λ b. cond b ((stored_unit_by cache.dwarf header (table_from header.debug_abbrev_offset cache.dwarf.debug_abbrev)).takes_memory shares) (is_ok (from_offset header.debug_abbrev_offset cache.dwarf.debug_abbrev))) h
    ∙ ap is_ok k

unit_is_by : (cache : CachedTables) (header : UnitHeaderFields) (table : Result (List Abbrev) Error) → table_from header.debug_abbrev_offset cache.dwarf.debug_abbrev ≡ table
    → unit_record_of cache.dwarf header ≡ unit_by cache.dwarf header table
unfolding unit_record_of
unit_is_by cache header table h = ap (λ t. unit_by cache.dwarf header t) h

unit_by_fault : (cache : CachedTables) (header : UnitHeaderFields) (e : Error) → unit_by cache.dwarf header (Err e) ≡ Err e
unfolding unit_by
unit_by_fault cache header e = refl

-- a unit whose table is cached
pub unit_cached : (shares : Bool) (cache : CachedTables) (header : UnitHeaderFields) (table : Result (List Abbrev) Error) (r : Result UnitRecord Error)
    → is_cached header.debug_abbrev_offset cache ≡ true → table_from header.debug_abbrev_offset cache.dwarf.debug_abbrev ≡ table
    → ExactlyUnlessOomIf ((stored_unit_by cache.dwarf header table).takes_memory shares) (λ u. u) r (unit_by cache.dwarf header table)
    → ExactlyUnlessOomIf (cached_unit_takes_memory shares cache header) (λ u. u) r (unit_record_of cache.dwarf header)
unit_cached shares cache header table r h k u =
    given_as (cached_unit_takes_memory shares cache header) ((stored_unit_by cache.dwarf header table).takes_memory shares) r (unit_record_of cache.dwarf header) (unit_by cache.dwarf header table)
    (λ p. takes_cached shares cache header table h k ∙ p) (unit_is_by cache header table k) u

-- a unit whose table is read
pub unit_read : (shares : Bool) (cache : CachedTables) (header : UnitHeaderFields) (rest : Section) (table : Result (List Abbrev) Error) (r : Result UnitRecord Error)
    → is_cached header.debug_abbrev_offset cache ≡ false → from_offset header.debug_abbrev_offset cache.dwarf.debug_abbrev ≡ Ok rest → table_at rest ≡ table
    → ExactlyUnlessOomIf ((stored_unit_by cache.dwarf header table).takes_memory shares) (λ u. u) r (unit_by cache.dwarf header table)
    → ExactlyUnlessOomIf (cached_unit_takes_memory shares cache header) (λ u. u) r (unit_record_of cache.dwarf header)
unit_read shares cache header rest table r h k l u =
    given_as (cached_unit_takes_memory shares cache header) ((stored_unit_by cache.dwarf header table).takes_memory shares) r (unit_record_of cache.dwarf header) (unit_by cache.dwarf header table)
    (λ _. takes_uncached shares cache header (Ok rest) h k) (unit_is_by cache header table (ap (λ (s : Result Section Error). s >>= table_at) k ∙ l)) u

-- memory for a table
pub unit_oom : (shares : Bool) (cache : CachedTables) (header : UnitHeaderFields) (rest : Section)
    → is_cached header.debug_abbrev_offset cache ≡ false → from_offset header.debug_abbrev_offset cache.dwarf.debug_abbrev ≡ Ok rest
    → ExactlyUnlessOomIf {X = UnitRecord} (cached_unit_takes_memory shares cache header) (λ u. u) (Err OutOfMemory) (unit_record_of cache.dwarf header)
unit_oom shares cache header rest h k = λ n. absurd (n (takes_uncached shares cache header (Ok rest) h k) refl)

-- an offset past the section
pub unit_outside : (shares : Bool) (cache : CachedTables) (header : UnitHeaderFields) (e : Error)
    → is_cached header.debug_abbrev_offset cache ≡ false
    → ((shares ≡ true → is_ok (from_offset header.debug_abbrev_offset cache.dwarf.debug_abbrev) ≡ true → e ≢ OutOfMemory) → from_offset header.debug_abbrev_offset cache.dwarf.debug_abbrev ≡ Err e)
    → ExactlyUnlessOomIf {X = UnitRecord} (cached_unit_takes_memory shares cache header) (λ u. u) (Err e) (unit_record_of cache.dwarf header)
unit_outside shares cache header e h k = λ n.
    let outside = k (λ _ p. n (takes_uncached shares cache header _ h refl ∙ p)) in
    unit_is_by cache header (Err e) (ap (λ (s : Result Section Error). s >>= table_at) outside) ∙ unit_by_fault cache header e
