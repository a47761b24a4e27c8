-- The functions are the entries that have a range, each once (on specs/FunctionTable.antt).
use Rattle.addr2line_lines.proofs.Common.{◌≡◌, ℕ, ◌<◌, ◌==◌, Bool, true, false, cond, List, [], ◌∷◌, ◌++◌, map, Result, refl, ap, sym, ◌∙◌, arith, All, AllByRecursion, AllZip, nat_tests, All-head, All-tail, Error, Range, UnitOffset, UnitRecord, FunctionAddress, IsPlaceIn, function_range_of, FunctionRange, entries_of, once_before, AreListed, CachedFunction, FunctionTable, Scope}
use Rattle.addr2line_lines.specs.FunctionDetails.{IsFunctionMore, IsReadAt, IsTableMore}
use Rattle.addr2line_lines.proofs.ReadLemmas.{read_more}

-- a range of an entry
abbrev range_at : ℕ → Range → FunctionRange
range_at offset r = record { offset = offset; range = r }

-- an offset before others, and one more after them
once_more : (k offset : ℕ) (ks : List ℕ) → k < offset → once_before k (ks ++ offset ∷ []) ≡ once_before k ks ++ offset ∷ []
once_more k offset [] l = let other : (k == offset) ≡ false = grind (arith, nat_tests) in ap (λ b. cond b (offset ∷ []) (k ∷ offset ∷ [])) other
once_more k offset (j ∷ ks) l = by_test (k == j)
  where
    by_test : (b : Bool) → cond b (j ∷ (ks ++ offset ∷ [])) (k ∷ j ∷ (ks ++ offset ∷ [])) ≡ cond b (j ∷ ks) (k ∷ j ∷ ks) ++ offset ∷ []
    by_test true = refl
    by_test false = refl

-- the ranges of one entry
one_entry : (offset : ℕ) (r : Range) (ranges : List Range) → entries_of (map (range_at offset) (r ∷ ranges)) ≡ offset ∷ []
one_entry offset r [] = refl
one_entry offset r (s ∷ ranges) =
    let same : (offset == offset) ≡ true = grind (arith, nat_tests) in
    ap (once_before offset) (one_entry offset s ranges) ∙ ap (λ b. cond b (offset ∷ []) (offset ∷ offset ∷ [])) same

-- one more entry after those of ranges
pub entries_more : (offset : ℕ) (xs : List FunctionRange) (r : Range) (ranges : List Range) → AllByRecursion (λ (f : FunctionRange). f.offset < offset) xs → entries_of (xs ++ map (range_at offset) (r ∷ ranges)) ≡ entries_of xs ++ offset ∷ []
entries_more offset [] r ranges all = one_entry offset r ranges
entries_more offset (x ∷ xs) r ranges all = ap (once_before x.offset) (entries_more offset xs r ranges all.1) ∙ once_more x.offset offset (entries_of xs) all.0

-- the entries of ranges begin below an offset where all do
pub ranges_below : (offsets : List UnitOffset) (n : ℕ) (addresses : List FunctionAddress) → All (λ (o : UnitOffset). o.0 < n) offsets → All (IsPlaceIn offsets) addresses → AllByRecursion (λ (f : FunctionRange). f.offset < n) (map (function_range_of offsets) addresses)
ranges_below offsets n [] below all = tt
ranges_below offsets n (a ∷ addresses) below all =
    (below a.function (record { 0 = 0 }) (All-head (IsPlaceIn offsets) a addresses all), ranges_below offsets n addresses below (All-tail (IsPlaceIn offsets) a addresses all))

-- no offset changes where more is cached
offsets_same : (fs gs : List CachedFunction) → AllZip IsFunctionMore fs gs → map (λ (f : CachedFunction). f.offset) gs ≡ map (λ (f : CachedFunction). f.offset) fs
offsets_same [] [] all = refl
offsets_same [] (g ∷ gs) all = absurd all
offsets_same (f ∷ fs) [] all = absurd all
offsets_same (f ∷ fs) (g ∷ gs) all =
    ap (λ (k : ℕ). k ∷ map (λ (f : CachedFunction). f.offset) gs) all.0.offset ∙ ap (λ ks. f.offset ∷ ks) (offsets_same fs gs all.1)

pub more_listed : (old new : FunctionTable) → AreListed old → IsTableMore old new → AreListed new
more_listed old new h more = offsets_same old.functions new.functions more.functions ∙ h ∙ ap entries_of (sym more.ranges)

pub read_listed : (scope : Scope) (u : UnitRecord) (n : ℕ) (old new : FunctionTable) (result : Result (Unit {0}) Error) → AreListed old → IsReadAt scope u n old result new → AreListed new
read_listed scope u n old new result h read = more_listed old new h (read_more scope u n old new result read)

-- the functions before a detail is read, as callers see them
pub offsets_seen : {X Y : Type 0} (f : X → UnitOffset) (made : X → Y) (offset : Y → ℕ) → ((x : X) → offset (made x) ≡ (f x).0) → (xs : List X) → map offset (map made xs) ≡ map (λ (o : UnitOffset). o.0) (map f xs)
offsets_seen f made offset same [] = refl
offsets_seen f made offset same (x ∷ xs) =
    ap (λ (k : ℕ). k ∷ map offset (map made xs)) (same x) ∙ ap (λ ks. (f x).0 ∷ ks) (offsets_seen f made offset same xs)
