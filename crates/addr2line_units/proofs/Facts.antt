-- Facts on booleans, numbers, options and lists that the proofs of this crate cite, and that std
-- doesn't have.
use Rattle.addr2line_units.proofs.Common.{◌≡◌, ◌∙◌, ◌+◌, ◌-◌, ◌<◌, ◌≤◌, ◌&&◌, ◌||◌, ◌⊎◌, inl, inr, ℕ, zero, suc, arith, nat_lt, nat_tests, Bool, true, false, not, cond, if◌then◌else◌, List, [], ◌∷◌, ◌++◌, length, map, filter, reverse, take, drop, take_all, length-drop, slice_get, map-append, reverse-append, Option, Some, None, IfSome, is_some, option_and_then, option_map, Result, Ok, Err, AllByRecursion, refl, sym, ap, fault_of, result_map, same_Some}

-- ---- of booleans

pub never : {A : Type 0} → false ≡ true → A
never e = absurd cc

pub and_not : (a b : Bool) → (a && not b) ≡ true → b ≡ false
and_not true true e = cc
and_not true false e = refl
and_not false b e = cc

-- a test beside another
pub and_weaker : (a b c : Bool) → (a ≡ true → b ≡ true) → (a && c) ≡ true → (b && c) ≡ true
and_weaker true b c w h = ap (λ x. x && c) (w refl) ∙ h
and_weaker false b c w h = absurd cc

pub or_cond : (a b : Bool) → (a || b) ≡ cond a true b
or_cond true b = refl
or_cond false b = refl

pub or_none : (a b : Bool) → (a || not b) ≡ false → (a ≡ false) × (b ≡ true)
or_none true b e = cc
or_none false true e = (refl, refl)
or_none false false e = cc

pub both_or : (a b : Bool) → not (a || b) ≡ (not a && not b)
both_or true b = refl
both_or false b = refl

-- ---- of numbers

pub three : (n k : ℕ) → (n < k) ⊎ ((n ≡ k) ⊎ (k < n))
three zero zero = inr (inl refl)
three zero (suc k) = inl (omega arith)
three (suc n) zero = inr (inr (omega arith))
three (suc n) (suc k) = elim (three n k) [ inl l ↦ inl (omega arith) | inr m ↦ elim m [ inl e ↦ inr (inl (ap suc e)) | inr l ↦ inr (inr (omega arith)) ] ]

-- one of two numbers is not above the other
pub at_or_behind : (n k : ℕ) → (n ≤ k) ⊎ (k < n)
at_or_behind zero k = inl (omega arith)
at_or_behind (suc n) zero = inr (omega arith)
at_or_behind (suc n) (suc k) = elim (at_or_behind n k) [ inl h ↦ inl (omega arith) | inr h ↦ inr (omega arith) ]

-- a number below the next one is the number itself, or below it
pub below_next : (n k : ℕ) → n < suc k → (n < k) ⊎ (n ≡ k)
below_next zero zero h = inr refl
below_next zero (suc k) h = inl (omega arith)
below_next (suc n) zero h = absurd (omega arith)
below_next (suc n) (suc k) h = elim (below_next n k (omega arith)) [ inl l ↦ inl (omega arith) | inr e ↦ inr (ap suc e) ]

pub below_or_at : (n k : ℕ) → n < k + 1 → (n < k) ⊎ (n ≡ k)
below_or_at n k h = below_next n k (omega (arith, h))

-- ---- of options and results

-- what is chosen by a test, where it is something
pub some_if : {A : Type 0} (q : Bool) (o : Option A) (x : A) → (if q then o else None) ≡ Some x → (q ≡ true) × (o ≡ Some x)
some_if true o x h = (refl, h)
some_if false o x h = let bad : ⊥ = cc in absurd bad

pub then_some : {A B : Type 0} (f : A → Option B) (o : Option A) (y : B) → option_and_then f o ≡ Some y → (x : A) × (o ≡ Some x) × (f x ≡ Some y)
then_some f None y h = let bad : ⊥ = cc in absurd bad
then_some f (Some x) y h = (x, refl, h)

pub map_some : {A B : Type 0} (f : A → B) (o : Option A) (y : B) → option_map f o ≡ Some y → (x : A) × (o ≡ Some x) × (f x ≡ y)
map_some f None y h = let bad : ⊥ = cc in absurd bad
map_some f (Some x) y h = (x, refl, same_Some _ _ h)

-- an option that has nothing
pub no_answer : {X : Type 0} (o : Option X) → is_some o ≡ false → o ≡ None
no_answer None e = refl
no_answer (Some x) e = absurd cc

-- a fault is no answer, and an answer no fault
pub err_ok : {E : Type 0} (f : E) → ◌≡◌ {A = Result (Unit {0}) E} (Err f) (Ok tt) → ⊥
err_ok f k = cc

pub ok_err : {E : Type 0} (f : E) → ◌≡◌ {A = Result (Unit {0}) E} (Ok tt) (Err f) → ⊥
ok_err f k = cc

-- where a list can be read, what is left after its first can be read
pub rest_ok : {X E : Type 0} (x : X) (r : Result (List X) E) → fault_of (result_map (λ xs. x ∷ xs) r) ≡ Ok tt → fault_of r ≡ Ok tt
rest_ok x (Ok xs) h = refl
rest_ok x (Err f) h = h

-- ---- of lists

-- lists that are the same have the same parts
pub head_is : {X : Type 0} (x y : X) (xs ys : List X) → x ∷ xs ≡ y ∷ ys → x ≡ y
head_is x y xs ys h = cc

pub tail_is : {X : Type 0} (x y : X) (xs ys : List X) → x ∷ xs ≡ y ∷ ys → xs ≡ ys
tail_is x y xs ys h = cc

pub nothing_last : {X : Type 0} (front : List X) (last : X) → [] ≡ front ++ (last ∷ []) → ⊥
nothing_last [] last h = cc
nothing_last (f ∷ fs) last h = cc

pub last_is : {X : Type 0} (x : X) (front : List X) (last : X) → x ∷ [] ≡ front ++ (last ∷ []) → x ≡ last
last_is x [] last h = head_is x last [] [] h
last_is x (f ∷ fs) last h = absurd (nothing_last fs last (tail_is x f [] (fs ++ (last ∷ [])) h))

-- a list that isn't empty has a length
pub some_there : {X : Type 0} (xs : List X) → (xs ≡ [] → ⊥) → nat_lt 0 (length xs) ≡ true
some_there [] some = absurd (some refl)
some_there (x ∷ xs) some = of_number (length xs)
  where
    of_number : (n : ℕ) → nat_lt 0 (suc n) ≡ true
    of_number n = grind (arith, nat_tests)

-- a mapped list from its end is the list from its end, mapped
pub map_reverse : {X Y : Type 0} (f : X → Y) (xs : List X) → map f (reverse xs) ≡ reverse (map f xs)
map_reverse f [] = refl
map_reverse f (x ∷ xs) =
    ap (map f) (reverse-append (x ∷ []) xs) ∙ map-append f (reverse xs) (x ∷ [])
    ∙ ap (λ ys. ys ++ f x ∷ []) (map_reverse f xs) ∙ sym (reverse-append (f x ∷ []) (map f xs))

-- a slice from a place on is what is left from there on
pub rest_is : {X : Type 0} (n : ℕ) (ys xs : List X) → ys ≡ xs → take (length ys - n) (drop n ys) ≡ drop n xs
rest_is n ys xs e = let left = length-drop n ys in take_all (length ys - n) (drop n ys) (omega arith) ∙ ap (drop n) e

pub filter_all : {X : Type 0} (p : X → Bool) → ((x : X) → p x ≡ true) → (xs : List X) → filter p xs ≡ xs
filter_all p all [] = refl
filter_all p all (x ∷ xs) = ap (λ b. cond b (x ∷ filter p xs) (filter p xs)) (all x) ∙ ap (λ z. x ∷ z) (filter_all p all xs)

pub filter_twice : {X : Type 0} (p r q : X → Bool) → ((x : X) → q x ≡ (r x && p x)) → (xs : List X) → filter p (filter r xs) ≡ filter q xs
filter_twice p r q both [] = refl
filter_twice {X} p r q both (x ∷ xs) = by (r x) (p x) refl (both x) (filter_twice p r q both xs)
  where
    by : (a b : Bool) → p x ≡ b → q x ≡ (a && b) → filter p (filter r xs) ≡ filter q xs → filter p (cond a (x ∷ filter r xs) (filter r xs)) ≡ cond (q x) (x ∷ filter q xs) (filter q xs)
    by true true e f rest = ap (λ y. cond y (x ∷ filter p (filter r xs)) (filter p (filter r xs))) e ∙ ap (λ z. x ∷ z) rest ∙ sym (ap (λ y. cond y (x ∷ filter q xs) (filter q xs)) f)
    by true false e f rest = ap (λ y. cond y (x ∷ filter p (filter r xs)) (filter p (filter r xs))) e ∙ rest ∙ sym (ap (λ y. cond y (x ∷ filter q xs) (filter q xs)) f)
    by false b e f rest = rest ∙ sym (ap (λ y. cond y (x ∷ filter q xs) (filter q xs)) f)

-- all of a list, by its numbers
pub all_of : {X : Type 0} (P : X → Type 0) (xs : List X) → ((n : ℕ) → IfSome (slice_get xs n) P) → AllByRecursion P xs
all_of P [] h = tt
all_of P (x ∷ xs) h = (h 0, all_of P xs (λ n. h (suc n)))

pub one_of : {X : Type 0} (P : X → Type 0) (xs : List X) → AllByRecursion P xs → (n : ℕ) → IfSome (slice_get xs n) P
one_of P [] h n = tt
one_of P (x ∷ xs) h zero = h.0
one_of P (x ∷ xs) h (suc n) = one_of P xs h.1 n

-- ---- of places of lists

pub slice_get_none : {X : Type 0} (xs : List X) (n : ℕ) → slice_get xs n ≡ None → length xs ≤ n
slice_get_none [] n e = omega arith
slice_get_none (x ∷ xs) zero e = absurd cc
slice_get_none (x ∷ xs) (suc n) e = let k = slice_get_none xs n e in omega (arith, k)
