-- Facts on booleans, numbers, orderings, options and lists that the proofs of this crate and of those
-- above it cite, and that std doesn't have.
use Rattle.addr2line_lines.proofs.Common.{All, AllByRecursion, AllZip, Bool, Bor, Equal, Greater, Less, List, None, Option, Ordering, Some, [], ap, append-nil, append_assoc, arith, cases_eq, common_steps, count_by, drop, drop_all, eqb-true, false, get_or, get_or_from_slice_get, inl, inr, length, length-append, list_any, map, nat_le, nat_lt, nat_tests, option_copied, option_map, or_left, or_right, ordering_then, refl, reverse, reverse-append, rules, set, set_split, slice_get, slice_get-map, slice_get_past, slice_get_read, slice_index_or, slice_set, subst, suc, sym, take, true, zero, ℕ, ◌&&◌, ◌++◌, ◌+◌, ◌<◌, ◌==◌, ◌||◌, ◌∙◌, ◌∷◌, ◌≡◌, ◌≤◌, ◌⊎◌, cond, Error, Ok, Result}
use Rattle.std.specs.List.{slice_get}
use Rattle.std.specs.Slice.{IsItemAt}
use Rattle.addr2line_lines.specs.Grown.{IsGrown}

-- ---- of booleans

pub or_false : (a b : Bool) → a ≡ false → (a || b) ≡ b
or_false true b e = absurd cc
or_false false b e = refl

pub or_both : (a b c d : Bool) → (a ≡ true → c ≡ true) → (b ≡ true → d ≡ true) → (a || b) ≡ true → (c || d) ≡ true
or_both true b c d h k e = or_left c d (h refl)
or_both false b c d h k e = or_right c d (k e)

pub or_more : (a b c : Bool) → (b ≡ true → c ≡ true) → (a || b) ≡ true → (a || c) ≡ true
or_more true b c h e = refl
or_more false b c h e = h e

pub or_again : (x y : Bool) → (x || y) ≡ true → (x || y || y) ≡ true
or_again true y h = refl
or_again false true h = refl
or_again false false h = absurd cc

-- none of three
pub none_of : (a b c : Bool) → (a || b || c) ≡ false → (a ≡ false) × (b ≡ false) × (c ≡ false)
none_of true b c h = absurd cc
none_of false true c h = absurd cc
none_of false false true h = absurd cc
none_of false false false h = (refl, refl, refl)

-- ---- of numbers

pub not_itself : (n : ℕ) → (n == n) ≡ true
not_itself n = grind (arith, nat_tests)

pub not_below : (m n : ℕ) → m < n → (m == n) ≡ false
not_below m n l = grind (arith, nat_tests)

pub not_above : (m n : ℕ) → n < m → (m == n) ≡ false
not_above m n l = grind (arith, nat_tests)

pub both_same : (m n : ℕ) → (m == m && n == n) ≡ true
both_same m n = grind (arith, nat_tests)

pub same_more : (k x y : ℕ) → (x == y) ≡ (k + x == k + y)
same_more k x y = grind (arith, nat_tests)

-- the probe is in a range
pub inside : (a b p : ℕ) → a ≤ p → p < b → (nat_le a p && nat_lt p b) ≡ true
inside a b p l h = grind (arith, nat_tests)

pub from_inside : (a b p : ℕ) → (nat_le a p && nat_lt p b) ≡ true → (a ≤ p) × (p < b)
from_inside a b p h = (grind (arith, nat_tests), grind (arith, nat_tests))

pub outside : (a b p : ℕ) → (p < a) ⊎ (b ≤ p) → (nat_le a p && nat_lt p b) ≡ false
outside a b p h = grind (arith, nat_tests)

pub ended : (a b p : ℕ) → b ≤ p → (nat_le a p && nat_lt p b) ≡ false
ended a b p l = grind (arith, nat_tests)

-- ---- of orderings

-- a tuple compares from the left
pub ordering_then_assoc : (x y z : Ordering) → ordering_then x (ordering_then y z) ≡ ordering_then (ordering_then x y) z
ordering_then_assoc Less y z = refl
ordering_then_assoc Equal y z = refl
ordering_then_assoc Greater y z = refl

pub from_left : (x y z w : Ordering) → ordering_then x (ordering_then y (ordering_then z w)) ≡ ordering_then (ordering_then (ordering_then x y) z) w
from_left x y z w = ordering_then_assoc x y (ordering_then z w) ∙ ordering_then_assoc (ordering_then x y) z w

-- ---- of answers

-- values that are given alike are the same
pub ok_is : {X : Type 0} (x y : X) → ◌≡◌ {A = Result X Error} (Ok x) (Ok y) → x ≡ y
ok_is x y e = cc

-- ---- of lists

pub no_bytes : (xs : List ℕ) → (length xs == 0) ≡ true → xs ≡ []
no_bytes [] h = refl
no_bytes (x ∷ xs) h = let l = eqb-true (length (x ∷ xs)) 0 h in absurd (omega arith)

-- lists with one more element
pub one_read : {X Y : Type 0} (f : X → Y) (read : List X) (x : X) (rest : List Y) → map f read ++ f x ∷ rest ≡ map f (read ++ x ∷ []) ++ rest
one_read f [] x rest = refl
one_read f (y ∷ read) x rest = ap (λ ys. f y ∷ ys) (one_read f read x rest)

pub one_added : {X Y : Type 0} (f : X → Y) (old : List Y) (read : List X) (x : X) → (old ++ map f read) ++ f x ∷ [] ≡ old ++ map f (read ++ x ∷ [])
one_added f old read x = append_assoc old (map f read) (f x ∷ []) ∙ ap (λ ys. old ++ ys) (one_read f read x [] ∙ append-nil (map f (read ++ x ∷ [])))

pub last_name : {X Y : Type 0} (f : X → Y) (xs : List X) (x : X) (d : Y) → slice_index_or (map f (xs ++ x ∷ [])) (length xs) d ≡ f x
last_name f [] x d = refl
last_name f (y ∷ xs) x d = last_name f xs x d

-- a list that grew is no shorter
pub longer : {X : Type 0} (xs ys : List X) → IsGrown xs ys → length xs ≤ length ys
longer xs ys g = let a : length ys ≡ length (xs ++ g.more) = ap (λ v. length v) g.is in let b = length-append xs g.more in omega arith

pub counted_last : {X : Type 0} (p : X → Bool) (xs : List X) (x : X) → count_by p (reverse xs) ≡ count_by p xs → count_by p (reverse xs ++ x ∷ []) ≡ count_by p (x ∷ xs)
counted_last p xs x h = grind (arith, common_steps, h)

pub count_reverse : {X : Type 0} (p : X → Bool) (xs : List X) → count_by p (reverse xs) ≡ count_by p xs
count_reverse p [] = refl
count_reverse p (x ∷ xs) = ap (λ ys. count_by p ys) (reverse-append (x ∷ []) xs) ∙ counted_last p xs x (count_reverse p xs)

-- where no test of a list holds each fails
pub none_holds : {X : Type 0} (p : X → Bool) (xs : List X) → list_any p xs ≡ false → All (λ x. p x ≡ false) xs
none_holds p [] h k d l = absurd (omega arith)
none_holds p (x ∷ xs) h zero d l = first (p x) h
  where
    first : (b : Bool) → (b || list_any p xs) ≡ false → b ≡ false
    first true h = absurd cc
    first false h = refl
none_holds p (x ∷ xs) h (suc k) d l = none_holds p xs (rest (p x) h) k d (omega arith)
  where
    rest : (b : Bool) → (b || list_any p xs) ≡ false → list_any p xs ≡ false
    rest true h = absurd cc
    rest false h = h

pub all_first : {X : Type 0} (P : X → Type 0) (n : ℕ) (xs : List X) → AllByRecursion P xs → AllByRecursion P (take n xs)
all_first P zero xs all = tt
all_first P (suc n) [] all = tt
all_first P (suc n) (x ∷ xs) all = (all.0, all_first P n xs all.1)

-- two elements of which one test at most holds may change places
pub cond_swaps : {X : Type 0} (x y : X) (a b : Bool) (zs : List X) → (a ≡ true → b ≡ true → ⊥) → cond b (y ∷ cond a (x ∷ zs) zs) (cond a (x ∷ zs) zs) ≡ cond a (x ∷ cond b (y ∷ zs) zs) (cond b (y ∷ zs) zs)
cond_swaps x y true true zs h = absurd (h refl refl)
cond_swaps x y true false zs h = refl
cond_swaps x y false b zs h = refl

-- what holds of all holds at a place
pub all_at : {X : Type 0} (P : X → Type 0) (xs : List X) (n : ℕ) (x : X) → AllByRecursion P xs → slice_get xs n ≡ Some x → P x
all_at P [] n x all e = absurd cc
all_at P (y ∷ xs) zero x all e = let same : y ≡ x = cc in subst P same all.0
all_at P (y ∷ xs) (suc n) x all e = all_at P xs n x all.1 e

pub all_weaker : {X : Type 0} (P Q : X → Type 0) → ((x : X) → P x → Q x) → (xs : List X) → AllByRecursion P xs → AllByRecursion Q xs
all_weaker P Q h [] all = tt
all_weaker P Q h (x ∷ xs) all = (h x all.0, all_weaker P Q h xs all.1)

-- ---- of elements by their places

pub some_at : {X : Type 0} (xs : List X) (n : ℕ) → n < length xs → (x : X) × (slice_get xs n ≡ Some x)
some_at [] n l = absurd (omega arith)
some_at (x ∷ xs) zero l = (x, refl)
some_at (x ∷ xs) (suc n) l = some_at xs n (omega arith)

pub drop_at : {X : Type 0} (xs : List X) (n : ℕ) (x : X) → slice_get xs n ≡ Some x → drop n xs ≡ x ∷ drop (suc n) xs
drop_at [] n x e = absurd cc
drop_at (y ∷ xs) zero x e = let same : y ≡ x = cc in ap (λ z. z ∷ xs) same
drop_at (y ∷ xs) (suc n) x e = drop_at xs n x e

-- the element that was read, whatever the default
pub read_at : {X : Type 0} (xs ys : List X) (i j : ℕ) (x d : X) → slice_get ys i ≡ Some x → ys ≡ xs → j ≡ i → get_or xs j d ≡ x
read_at xs ys i j x d h e near = ap (λ k. get_or xs k d) near ∙ get_or_from_slice_get xs i x d (ap (λ zs. slice_get zs i) (sym e) ∙ h)

-- the element that is lent is that of the list there
pub lent_item : {X : Type 0} (xs : List X) (n : ℕ) (r : Option (Bor X)) → IsItemAt xs n r → option_map (λ (x : Bor X). x.now) r ≡ slice_get xs n
lent_item xs n None h =
    let past : length xs ≤ n = search rules in
    sym (slice_get_past xs n past)
lent_item xs n (Some x) h =
    let there : n < length xs = search rules in
    let is : x.now ≡ get_or xs n x.now = search rules in
    sym (slice_get_read xs (length xs) n x.now refl there is)

-- what is seen of what is lent is what is seen of its copy
pub lent_copied : {X Y : Type 0} (see : X → Y) (r : Option (Bor X)) → option_map (λ (x : Bor X). see x.now) r ≡ option_map see (option_copied r)
lent_copied see None = refl
lent_copied see (Some x) = refl

-- what is seen of the element that is lent is what is seen of the list there
pub lent_is : {X Y : Type 0} (see : X → Y) (xs : List X) (n : ℕ) (r : Option (Bor X)) → IsItemAt xs n r → option_map (λ (x : Bor X). see x.now) r ≡ slice_get (map see xs) n
lent_is {X} {Y} see xs n r h = by_cases r (lent_item xs n r h) ∙ sym (slice_get-map see xs n)
  where
    by_cases : (r : Option (Bor X)) → option_map (λ (x : Bor X). x.now) r ≡ slice_get xs n → option_map (λ (x : Bor X). see x.now) r ≡ option_map see (slice_get xs n)
    by_cases None e = ap (option_map see) e
    by_cases (Some x) e = ap (option_map see) e

-- ---- of lists of which one element is replaced

-- lists of which one element is replaced
pub set_same : {X : Type 0} (xs : List X) (n : ℕ) (x : X) → slice_get xs n ≡ Some x → slice_set xs n x ≡ xs
set_same [] n x e = absurd cc
set_same (y ∷ xs) zero x e = let same : y ≡ x = cc in ap (λ z. z ∷ xs) (sym same)
set_same (y ∷ xs) (suc n) x e = ap (λ ys. y ∷ ys) (set_same xs n x e)

pub get_set_same : {X : Type 0} (xs : List X) (n : ℕ) (x : X) → n < length xs → slice_get (slice_set xs n x) n ≡ Some x
get_set_same [] n x l = absurd (omega arith)
get_set_same (y ∷ xs) zero x l = refl
get_set_same (y ∷ xs) (suc n) x l = get_set_same xs n x (omega arith)

pub get_set_other : {X : Type 0} (xs : List X) (n i : ℕ) (x : X) → (i ≡ n → ⊥) → slice_get (slice_set xs n x) i ≡ slice_get xs i
get_set_other [] n i x ne = refl
get_set_other (y ∷ xs) zero zero x ne = absurd (ne refl)
get_set_other (y ∷ xs) zero (suc i) x ne = refl
get_set_other (y ∷ xs) (suc n) zero x ne = refl
get_set_other (y ∷ xs) (suc n) (suc i) x ne = get_set_other xs n i x (λ e. ne (ap suc e))

-- what stands at a place of a list of which one element was replaced
pub at_set : {X : Type 0} (xs : List X) (n i : ℕ) (y g : X) → n < length xs → slice_get (slice_set xs n y) i ≡ Some g → ((i ≡ n) × (y ≡ g)) ⊎ (slice_get xs i ≡ Some g)
at_set {X} xs n i y g l e = elim (cases_eq i n) [
  | inl s ↦ (let at : Some y ≡ Some g = sym (get_set_same xs n y l) ∙ ap (λ k. slice_get (slice_set xs n y) k) (sym s) ∙ e in let same : y ≡ g = cc in inl (s, same))
  | inr ne ↦ inr (sym (get_set_other xs n i y ne) ∙ e)
]

pub drop_set : {X : Type 0} (xs : List X) (n : ℕ) (x : X) → drop (suc n) (slice_set xs n x) ≡ drop (suc n) xs
drop_set [] n x = refl
drop_set (y ∷ xs) zero x = refl
drop_set (y ∷ xs) (suc n) x = drop_set xs n x

pub before_set : {X : Type 0} (P : X → Type 0) (xs : List X) (n : ℕ) (x : X) → AllByRecursion P (take n xs) → AllByRecursion P (take n (slice_set xs n x))
before_set P [] n x all = all
before_set P (y ∷ xs) zero x all = all
before_set P (y ∷ xs) (suc n) x all = (all.0, before_set P xs n x all.1)

pub all_set : {X : Type 0} (P : X → Type 0) (xs : List X) (n : ℕ) (x : X) → AllByRecursion P xs → P x → AllByRecursion P (slice_set xs n x)
all_set P [] n x all p = tt
all_set P (y ∷ xs) zero x all p = (p, all.1)
all_set P (y ∷ xs) (suc n) x all p = (all.0, all_set P xs n x all.1 p)

pub take_set : {X : Type 0} (P : X → Type 0) (xs : List X) (n : ℕ) (x : X) → AllByRecursion P (take n xs) → P x → AllByRecursion P (take (suc n) (slice_set xs n x))
take_set P [] n x all p = tt
take_set P (y ∷ xs) zero x all p = (p, tt)
take_set P (y ∷ xs) (suc n) x all p = (all.0, take_set P xs n x all.1 p)

pub take_whole : {X : Type 0} (P : X → Type 0) (xs : List X) (n : ℕ) → length xs ≤ n → AllByRecursion P (take n xs) → AllByRecursion P xs
take_whole P [] n l all = tt
take_whole P (y ∷ xs) zero l all = absurd (omega arith)
take_whole P (y ∷ xs) (suc n) l all = (all.0, take_whole P xs n (omega arith) all.1)

-- the last element is another one
pub set_last : {X : Type 0} (xs : List X) (i : ℕ) (x : X) → i + 1 ≡ length xs → set xs i x ≡ take i xs ++ x ∷ []
set_last xs i x e = set_split xs i x (omega arith) ∙ ap (λ rest. take i xs ++ x ∷ rest) (drop_all (suc i) xs (omega arith))

-- a relation of each element to itself, and over two changes, is one of lists
module _ {X : Type 0} (P : X → X → Type 0) where
  pub zip_same : ((x : X) → P x x) → (xs : List X) → AllZip P xs xs
  zip_same same [] = tt
  zip_same same (x ∷ xs) = (same x, zip_same same xs)

  pub zip_set : ((x : X) → P x x) → (xs : List X) (n : ℕ) (x y : X) → slice_get xs n ≡ Some x → P x y → AllZip P xs (slice_set xs n y)
  zip_set same [] n x y e h = tt
  zip_set same (z ∷ xs) zero x y e h = let is : z ≡ x = cc in (subst (λ w. P w y) (sym is) h, zip_same same xs)
  zip_set same (z ∷ xs) (suc n) x y e h = (same z, zip_set same xs n x y e h)

  pub zip_twice : ((x y z : X) → P x y → P y z → P x z) → (xs ys zs : List X) → AllZip P xs ys → AllZip P ys zs → AllZip P xs zs
  zip_twice twice [] [] [] a b = tt
  zip_twice twice [] [] (z ∷ zs) a b = absurd b
  zip_twice twice [] (y ∷ ys) zs a b = absurd a
  zip_twice twice (x ∷ xs) [] zs a b = absurd a
  zip_twice twice (x ∷ xs) (y ∷ ys) [] a b = absurd b
  zip_twice twice (x ∷ xs) (y ∷ ys) (z ∷ zs) a b = (twice x y z a.0 b.0, zip_twice twice xs ys zs a.1 b.1)
