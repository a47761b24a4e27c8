-- Marks of LLVM, prefixes, hashes and suffixes: the relation and the function agree.
use Rattle.addr2line_units.proofs.Common.{◌≡◌, ◌∙◌, ◌≤◌, ◌<◌, ℕ, zero, suc, true, false, ◌&&◌, Some, None, List, [], ◌∷◌, ◌++◌, drop, length, ap, sym, refl, arith, nat_eq, slice_index_or, Contains, list_all, starts_with, byte, All-contains, Decides-eqb, without_llvm, after_first, without_prefix, without_hash, suffix_at, first_so, second_so, same_Some}
use Rattle.std.specs.Prelude.{if◌then◌else◌, ◌==◌}
use Rattle.std.proofs.lemmas.Slice.Eq.{starts_is}
use Rattle.std.proofs.lemmas.Bool.{both_ways, eqb-true}
use Rattle.addr2line_units.specs.LegacyName.{llvm_mark, is_llvm_byte, IsFirstMark, IsKept, cut, whole, prefixes, is_suffix}
use Rattle.addr2line_units.specs.LegacyElements.{is_hash, AreShown, hashed, all}
use Rattle.addr2line_units.proofs.Facts.{head_is, last_is, nothing_last, some_if, tail_is}

-- a mark stands first
mark_here : (bytes : List ℕ) → starts_with nat_eq bytes llvm_mark ≡ true → bytes ≡ llvm_mark ++ drop (length llvm_mark) bytes
mark_here bytes h = (starts_is Decides-eqb bytes llvm_mark _ refl).0 h

mark_there : (bytes rest : List ℕ) → bytes ≡ llvm_mark ++ rest → starts_with nat_eq bytes llvm_mark ≡ true
mark_there bytes rest h = (starts_is Decides-eqb bytes llvm_mark _ refl).1 rest h

-- what follows the mark
mark_rest : (bytes rest : List ℕ) → bytes ≡ llvm_mark ++ rest → drop (length llvm_mark) bytes ≡ rest
mark_rest bytes rest h = ap (λ s. drop (length llvm_mark) s) h

-- a first mark, one byte later
first_later : (b : ℕ) (bs front rest : List ℕ) → starts_with nat_eq (b ∷ bs) llvm_mark ≡ false → IsFirstMark bs front rest
    → (earlier later : List ℕ) → b ∷ bs ≡ earlier ++ (llvm_mark ++ later) → length (b ∷ front) ≤ length earlier
first_later b bs front rest apart m [] later h = absurd (both_ways _ apart (mark_there (b ∷ bs) later h))
first_later b bs front rest apart m (e ∷ es) later h =
    let less : length front ≤ length es = m.first es later (tail_is _ _ _ _ h) in
    omega arith

mark_later : (b : ℕ) (bs front rest : List ℕ) → starts_with nat_eq (b ∷ bs) llvm_mark ≡ false → IsFirstMark bs front rest → IsFirstMark (b ∷ bs) (b ∷ front) rest
mark_later b bs front rest apart m = record {
  whole = ap (λ s. b ∷ s) m.whole;
  first = first_later b bs front rest apart m;
}

-- a first mark, one byte earlier
mark_sooner : (b c : ℕ) (bs front rest : List ℕ) → IsFirstMark (b ∷ bs) (c ∷ front) rest → IsFirstMark bs front rest
mark_sooner b c bs front rest m = record {
  whole = tail_is _ _ _ _ m.whole;
  first = λ earlier later h.
      let less : length (c ∷ front) ≤ length (b ∷ earlier) = m.first (b ∷ earlier) later (ap (λ s. b ∷ s) h) in
      omega arith;
}

-- a mark that stands first is the first
mark_first : (bytes : List ℕ) → starts_with nat_eq bytes llvm_mark ≡ true → IsFirstMark bytes [] (drop (length llvm_mark) bytes)
mark_first bytes h = record {
  whole = mark_here bytes h;
  first = λ earlier later _. omega arith;
}

no_mark_in_nothing : (front rest : List ℕ) → IsFirstMark [] front rest → ⊥
no_mark_in_nothing [] rest m = let e : [] ≡ llvm_mark ++ rest = m.whole in cc
no_mark_in_nothing (f ∷ fs) rest m = let e : [] ≡ f ∷ (fs ++ (llvm_mark ++ rest)) = m.whole in cc

-- no first mark follows a byte where one stands first
nothing_before : (bytes front rest : List ℕ) → starts_with nat_eq bytes llvm_mark ≡ true → IsFirstMark bytes front rest → front ≡ []
nothing_before bytes [] rest here m = refl
nothing_before bytes (f ∷ fs) rest here m =
    let none : suc (length fs) ≤ 0 = m.first [] (drop (length llvm_mark) bytes) (mark_here bytes here) in
    absurd (omega arith)

none_later : (b : ℕ) (bs : List ℕ) → starts_with nat_eq (b ∷ bs) llvm_mark ≡ false
    → ((front rest : List ℕ) → IsFirstMark bs front rest → list_all is_llvm_byte rest ≡ false)
    → (front rest : List ℕ) → IsFirstMark (b ∷ bs) front rest → list_all is_llvm_byte rest ≡ false
none_later b bs apart none [] rest m = absurd (both_ways _ apart (mark_there (b ∷ bs) rest m.whole))
none_later b bs apart none (f ∷ fs) rest m = none fs rest (mark_sooner b f bs fs rest m)

kept_later : (b : ℕ) (bs kept : List ℕ) → starts_with nat_eq (b ∷ bs) llvm_mark ≡ false → IsKept bs kept → IsKept (b ∷ bs) (b ∷ kept)
kept_later b bs kept apart (cut rest m own) = cut rest (mark_later b bs kept rest apart m) own
kept_later b bs kept apart (whole same none) = whole (ap (λ s. b ∷ s) same) (none_later b bs apart none)

rest_is : (bytes front rest : List ℕ) → starts_with nat_eq bytes llvm_mark ≡ true → IsFirstMark bytes front rest → drop (length llvm_mark) bytes ≡ rest
rest_is bytes front rest here m =
    mark_rest bytes rest (m.whole ∙ ap (λ s. s ++ (llvm_mark ++ rest)) (nothing_before bytes front rest here m))

-- what the function leaves is what is left
pub kept_is : (name : List ℕ) → IsKept name (without_llvm name)
kept_is [] = whole refl (λ front rest m. absurd (no_mark_in_nothing front rest m))
kept_is (b ∷ bs) =
    elim (starts_with nat_eq (b ∷ bs) llvm_mark) as (λ q. starts_with nat_eq (b ∷ bs) llvm_mark ≡ q
    → IsKept (b ∷ bs) (if q then (if list_all is_llvm_byte (drop (length llvm_mark) (b ∷ bs)) then [] else b ∷ bs) else b ∷ without_llvm bs)) [
      | true ↦ λ here. elim (list_all is_llvm_byte (drop (length llvm_mark) (b ∷ bs))) as (λ r. list_all is_llvm_byte (drop (length llvm_mark) (b ∷ bs)) ≡ r
          → IsKept (b ∷ bs) (if r then [] else b ∷ bs)) [
            | true ↦ λ own. cut (drop (length llvm_mark) (b ∷ bs)) (mark_first (b ∷ bs) here) own
            | false ↦ λ other. whole refl (λ front rest m. sym (ap (λ s. list_all is_llvm_byte s) (rest_is (b ∷ bs) front rest here m)) ∙ other)
          ] refl
      | false ↦ λ apart. kept_later b bs (without_llvm bs) apart (kept_is bs)
    ] refl

-- what is left, where the mark is cut
cut_is : (front rest name : List ℕ) → IsFirstMark name front rest → list_all is_llvm_byte rest ≡ true → front ≡ without_llvm name
cut_is front rest [] m own = absurd (no_mark_in_nothing front rest m)
cut_is [] rest (b ∷ bs) m own =
    let here : starts_with nat_eq (b ∷ bs) llvm_mark ≡ true = mark_there (b ∷ bs) rest m.whole in
    sym (ap (λ q. if q then (if list_all is_llvm_byte (drop (length llvm_mark) (b ∷ bs)) then [] else b ∷ bs) else b ∷ without_llvm bs) here
    ∙ ap (λ q. if q then [] else b ∷ bs) (ap (λ s. list_all is_llvm_byte s) (mark_rest (b ∷ bs) rest m.whole) ∙ own))
cut_is (f ∷ fs) rest (b ∷ bs) m own =
    elim (starts_with nat_eq (b ∷ bs) llvm_mark) as (λ q. starts_with nat_eq (b ∷ bs) llvm_mark ≡ q
    → f ∷ fs ≡ (if q then (if list_all is_llvm_byte (drop (length llvm_mark) (b ∷ bs)) then [] else b ∷ bs) else b ∷ without_llvm bs)) [
      | true ↦ λ here. let e : f ∷ fs ≡ [] = nothing_before (b ∷ bs) (f ∷ fs) rest here m in let bad : ⊥ = cc in absurd bad
      | false ↦ λ apart.
          ap (λ c. c ∷ fs) (sym (head_is _ _ _ _ m.whole)) ∙ ap (λ s. b ∷ s) (cut_is fs rest bs (mark_sooner b f bs fs rest m) own)
    ] refl

-- what is left, where no mark is cut
whole_is : (name : List ℕ) → ((front rest : List ℕ) → IsFirstMark name front rest → list_all is_llvm_byte rest ≡ false) → name ≡ without_llvm name
whole_is [] none = refl
whole_is (b ∷ bs) none =
    elim (starts_with nat_eq (b ∷ bs) llvm_mark) as (λ q. starts_with nat_eq (b ∷ bs) llvm_mark ≡ q
    → b ∷ bs ≡ (if q then (if list_all is_llvm_byte (drop (length llvm_mark) (b ∷ bs)) then [] else b ∷ bs) else b ∷ without_llvm bs)) [
      | true ↦ λ here. sym (ap (λ q. if q then [] else b ∷ bs) (none [] (drop (length llvm_mark) (b ∷ bs)) (mark_first (b ∷ bs) here)))
      | false ↦ λ apart. ap (λ s. b ∷ s) (whole_is bs (λ front rest m. none (b ∷ front) rest (mark_later b bs front rest apart m)))
    ] refl

-- what is left is what the function leaves
pub kept_only : (name kept : List ℕ) → IsKept name kept → kept ≡ without_llvm name
kept_only name kept (cut rest m own) = cut_is kept rest name m own
kept_only name kept (whole same none) = sym same ∙ whole_is name none

starts_first : (name prefix : List ℕ) → starts_with nat_eq name prefix ≡ true → name ≡ prefix ++ drop (length prefix) name
starts_first name prefix h = (starts_is Decides-eqb name prefix _ refl).0 h

-- what follows one of such texts, as the function finds it
after_found : (texts : List (List ℕ)) (name rest : List ℕ) → after_first texts name ≡ Some rest → (p : List ℕ) × Contains texts p × (name ≡ p ++ rest)
after_found [] name rest h = let bad : ⊥ = cc in absurd bad
after_found (text ∷ texts) name rest h =
    elim (starts_with nat_eq name text) as (λ q. starts_with nat_eq name text ≡ q → (if q then Some (drop (length text) name) else after_first texts name) ≡ Some rest
    → (p : List ℕ) × Contains (text ∷ texts) p × (name ≡ p ++ rest)) [
      | true ↦ λ here same. (text, (0, omega arith, refl), starts_first name text here ∙ ap (λ s. text ++ s) (same_Some _ _ same))
      | false ↦ λ _ same.
          let found : (p : List ℕ) × Contains texts p × (name ≡ p ++ rest) = after_found texts name rest same in
          let there : Contains texts found.0 = found.1 in
          (found.0, (suc there.0, omega (arith, there.1), there.2), found.2)
    ] refl h

-- what follows a prefix, as the function finds it
pub prefix_found : (name rest : List ℕ) → without_prefix name ≡ Some rest → (p : List ℕ) × Contains prefixes p × (name ≡ p ++ rest)
unfolding without_prefix
prefix_found name rest h = after_found prefixes name rest h

-- the function finds what follows each prefix
each_prefix_read : (rest : List ℕ) (k : ℕ) (d : List ℕ) → k < length prefixes → without_prefix (slice_index_or prefixes k d ++ rest) ≡ Some rest
unfolding without_prefix
each_prefix_read rest zero d lt = refl
each_prefix_read rest (suc zero) d lt = refl
each_prefix_read rest (suc (suc zero)) d lt = refl
each_prefix_read rest (suc (suc (suc k))) d lt = absurd (omega arith)

-- the function finds what follows a prefix
pub prefix_read : (prefix rest : List ℕ) → Contains prefixes prefix → without_prefix (prefix ++ rest) ≡ Some rest
prefix_read prefix rest is = All-contains (λ p. without_prefix (p ++ rest) ≡ Some rest) prefixes prefix (each_prefix_read rest) is

last_later : (e f : List ℕ) (es : List (List ℕ)) → ((front : List (List ℕ)) (last : List ℕ) → f ∷ es ≡ front ++ (last ∷ []) → is_hash last ≡ false)
    → (front : List (List ℕ)) (last : List ℕ) → e ∷ f ∷ es ≡ front ++ (last ∷ []) → is_hash last ≡ false
last_later e f es none [] last h = let bad : f ∷ es ≡ [] = tail_is e last (f ∷ es) [] h in let worse : ⊥ = cc in absurd worse
last_later e f es none (x ∷ xs) last h = none xs last (tail_is e x (f ∷ es) (xs ++ (last ∷ [])) h)

shown_later : (e f : List ℕ) (es shown : List (List ℕ)) → AreShown (f ∷ es) shown → AreShown (e ∷ f ∷ es) (e ∷ shown)
shown_later e f es shown (hashed hash same is) = hashed hash (ap (λ s. e ∷ s) same) is
shown_later e f es shown (all same none) = all (ap (λ s. e ∷ s) same) (last_later e f es none)

-- what the function leaves are the elements that are shown
pub shown_are : (elements : List (List ℕ)) → AreShown elements (without_hash elements)
shown_are [] = all refl (λ front last h. absurd (nothing_last front last h))
shown_are (e ∷ []) =
    elim (is_hash e) as (λ q. is_hash e ≡ q → AreShown (e ∷ []) (if q then [] else e ∷ [])) [
      | true ↦ λ found. hashed e refl found
      | false ↦ λ other. all refl (λ front last h. sym (ap is_hash (last_is e front last h)) ∙ other)
    ] refl
shown_are (e ∷ f ∷ es) = shown_later e f es (without_hash (f ∷ es)) (shown_are (f ∷ es))

hashed_is : (shown : List (List ℕ)) (hash : List ℕ) → is_hash hash ≡ true → shown ≡ without_hash (shown ++ (hash ∷ []))
hashed_is [] hash h = sym (ap (λ q. if q then [] else hash ∷ []) h)
hashed_is (s ∷ []) hash h = ap (λ t. s ∷ t) (hashed_is [] hash h)
hashed_is (s ∷ t ∷ ts) hash h = ap (λ u. s ∷ u) (hashed_is (t ∷ ts) hash h)

all_is : (elements : List (List ℕ)) → ((front : List (List ℕ)) (last : List ℕ) → elements ≡ front ++ (last ∷ []) → is_hash last ≡ false) → elements ≡ without_hash elements
all_is [] none = refl
all_is (e ∷ []) none = sym (ap (λ q. if q then [] else e ∷ []) (none [] e refl))
all_is (e ∷ f ∷ es) none = ap (λ s. e ∷ s) (all_is (f ∷ es) (λ front last h. none (e ∷ front) last (ap (λ s. e ∷ s) h)))

-- the elements that are shown are what the function leaves
pub shown_only : (elements shown : List (List ℕ)) → AreShown elements shown → shown ≡ without_hash elements
shown_only elements shown (hashed hash same is) = hashed_is shown hash is ∙ sym (ap without_hash same)
shown_only elements shown (all same none) = sym same ∙ all_is elements none

-- the suffix that the function finds
pub suffix_found : (bytes suffix : List ℕ) → suffix_at bytes ≡ Some suffix → (bytes ≡ byte "E" ∷ suffix) × (is_suffix suffix ≡ true)
unfolding suffix_at
suffix_found [] suffix h = let bad : ⊥ = cc in absurd bad
suffix_found (b ∷ bs) suffix h =
    let chosen : ((b == byte "E" && is_suffix bs) ≡ true) × (Some bs ≡ Some suffix) = some_if _ _ _ h in
    let same : bs ≡ suffix = same_Some _ _ chosen.1 in
    (ap (λ c. c ∷ bs) (eqb-true b (byte "E") (first_so _ _ chosen.0)) ∙ ap (λ s. byte "E" ∷ s) same, sym (ap is_suffix same) ∙ second_so _ _ chosen.0)

-- the function finds the suffix
pub suffix_read : (suffix : List ℕ) → is_suffix suffix ≡ true → suffix_at (byte "E" ∷ suffix) ≡ Some suffix
unfolding suffix_at
suffix_read suffix h = ap (λ q. if q then Some suffix else None) h
