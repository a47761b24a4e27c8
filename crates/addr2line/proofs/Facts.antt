-- Facts on booleans, options, results and lists that the proofs of this crate cite, and that std
-- doesn't have.
use Rattle.addr2line.proofs.Common.{◌≡◌, ◌≤◌, ◌&&◌, ◌||◌, ℕ, Bool, true, false, List, [], drop, length, map, Option, Some, None, IfSome, option_map, Result, Ok, Err, refl, sym, subst, drop_of_length-le, length-map}

pub both_more : (a b c x y : Bool) → (a ≡ true → x ≡ true) → (c ≡ true → y ≡ true) → (a && (b || c)) ≡ true → (x && (b || y)) ≡ true
both_more true true c x y f g e = rw (f refl) refl
both_more true false c x y f g e = rw (f refl, g e) refl
both_more false b c x y f g e = cc

pub all_hold : (k l a : Bool) (b : Bool) → k ≡ true → l ≡ true → b ≡ true → ((k && (a || l)) && b) ≡ true
all_hold true true true true e f g = refl
all_hold true true false true e f g = refl
all_hold k l a false e f g = absurd cc
all_hold k false a true e f g = absurd cc
all_hold false true a true e f g = absurd cc

-- what is so of each value as it is seen
pub if_seen : {X Y : Type 0} (see : X → Y) (P : Y → Type 0) (o : Option X) → IfSome o (λ x. P (see x)) → IfSome (option_map see o) P
if_seen see P None h = tt
if_seen see P (Some x) h = h

-- what holds of each value holds of the one that there may be
pub always : {X : Type 0} (o : Option X) {P : X → Type 0} → ((x : X) → P x) → IfSome o P
always None h = tt
always (Some x) h = h x

-- two things that hold of it
pub if_some_both : {X : Type 0} (o : Option X) {P Q R : X → Type 0} → IfSome o P → IfSome o Q → ((x : X) → P x → Q x → R x) → IfSome o R
if_some_both None p q f = tt
if_some_both (Some x) p q f = f x p q

-- a value is no fault
pub never_fault : {A E P : Type 0} (x : A) (e : E) → ◌≡◌ {A = Result A E} (Ok x) (Err e) → P
never_fault x e h = absurd cc

-- nothing is left of a mapped list past its end
pub none_left : {A B : Type 0} (f : A → B) (xs : List A) (i : ℕ) → length xs ≤ i → drop i (map f xs) ≡ []
none_left f xs i h = drop_of_length-le (map f xs) (subst (λ n. n ≤ i) (sym (length-map xs f)) h)
