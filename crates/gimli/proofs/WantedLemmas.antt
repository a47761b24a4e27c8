-- Attributes that are asked for, among others that are passed over (on specs/WantedAttributes.antt).
use Rattle.gimli.proofs.Common.{ℕ, zero, suc, ◌+◌, ◌-◌, ◌<◌, ◌≤◌, ◌≡◌, ◌==◌, Bool, true, false, cond, nat_lt, List, [], ◌∷◌, ◌++◌, fold, length, take, drop, slice_index_or, Option, Some, None, Result, Ok, Err, arith, refl, ap, sym, ◌∙◌, append-nil, length-drop, length-take, All, position, position_or_len, nat_tests, drop_more, get_or-take, take-append-drop, take_all, Encoding, Error, AttributeValue, Specification, NamedValue, attribute_at, implicit_of, named_value, rest_of, value_at, Reading, ◌>>=◌, Section}
use Rattle.std.proofs.lemmas.List.Quantifiers.{position-Some}
use Rattle.std.proofs.lemmas.List.Sums.{fails_before_first}
use Rattle.gimli_read.specs.declared.constants.DwAt.{DwAt}
use Rattle.gimli_read.specs.declared.constants.TheConstants.DwForm.{DW_FORM_implicit_const}
use Rattle.gimli.specs.Entry.{attributes_at}
use Rattle.gimli.specs.WantedAttributes.{HasNoWanted, IsSplitAtWanted}

-- where no place is the first of a test the test fails everywhere
pub none_split : (p : Specification → Bool) (xs : List Specification) → position p xs ≡ None → All (λ x. p x ≡ false) xs
none_split p xs h k d l = at (nat_lt (position_or_len p xs) (length xs)) refl h
  where
    at : (b : Bool) → nat_lt (position_or_len p xs) (length xs) ≡ b → ◌≡◌ {A = Option ℕ} (cond b (Some (position_or_len p xs)) None) None → p (slice_index_or xs k d) ≡ false
    at true e h = absurd cc
    at false e h = fails_before_first p xs k d (let m : length xs ≤ position_or_len p xs = grind (arith, nat_tests) in omega arith)

-- a list is what comes before a place, what stands there, and what comes after it
pub split_at : (p : Specification → Bool) (xs : List Specification) (n : ℕ) (x : Specification) → position p xs ≡ Some n → x ≡ slice_index_or xs n x → (xs ≡ take n xs ++ x ∷ take (length xs - (n + 1)) (drop (n + 1) xs)) × All (λ y. p y ≡ false) (take n xs)
split_at p xs n x h is =
    let q = position-Some p xs n x h in
    let l = length-take n xs in
    let m = length-drop (n + 1) xs in (
      sym (take-append-drop n xs)
          ∙ ap (λ ys. take n xs ++ ys) (drop_more xs n x q.0 ∙ ap (λ y. y ∷ drop (n + 1) xs) (sym is) ∙ ap (λ ys. x ∷ ys) (sym (take_all (length xs - (n + 1)) (drop (n + 1) xs) (omega arith)))),
      λ k d b. ap p (get_or-take n xs k d (omega arith)) ∙ fails k d (omega arith),
    )
  where
    fails : (k : ℕ) (d : Specification) → k < n → p (slice_index_or xs k d) ≡ false
    fails k d b = (position-Some p xs n d h).2 k b

-- the test holds there
pub holds_there : (p : Specification → Bool) (xs : List Specification) (n : ℕ) (x : Specification) → position p xs ≡ Some n → x ≡ slice_index_or xs n x → p x ≡ true
holds_there p xs n x h is = ap p is ∙ (position-Some p xs n x h).1

-- an attribute has the name of its specification
pub named : (e : Encoding) (x : Specification) (s t : Section) (a : NamedValue) → attribute_at e x s ≡ Ok (a, t) → a.name ≡ x.name
unfolding attribute_at
named e x s t a h = by_form (x.form.0 == DW_FORM_implicit_const.0) h
  where
    implicit : (r : Result (AttributeValue Section) Error) → ◌≡◌ {A = Reading NamedValue} (r >>= λ value. Ok (named_value x value, s)) (Ok (a, t)) → a.name ≡ x.name
    implicit (Ok v) h = let same : ◌≡◌ {A = NamedValue × Section} (named_value x v, s) (a, t) = cc in ap (λ n. n.0.name) (sym same)
    implicit (Err f) h = absurd cc

    valued : (r : Reading (AttributeValue Section)) → ◌≡◌ {A = Reading NamedValue} (r >>= λ v. Ok (named_value x v.0, v.1)) (Ok (a, t)) → a.name ≡ x.name
    valued (Ok v) h = let same : ◌≡◌ {A = NamedValue × Section} (named_value x v.0, v.1) (a, t) = cc in ap (λ n. n.0.name) (sym same)
    valued (Err f) h = absurd cc

    by_form : (b : Bool) → ◌≡◌ {A = Reading NamedValue} (cond b (implicit_of x.constant >>= λ value. Ok (named_value x value, s)) (value_at e x.form.0 s >>= λ v. Ok (named_value x v.0, v.1))) (Ok (a, t)) → a.name ≡ x.name
    by_form true h = implicit (implicit_of x.constant) h
    by_form false h = valued (value_at e x.form.0 s) h

-- one more attribute, and those after it
abbrev before_more : NamedValue → Reading (List NamedValue) → Reading (List NamedValue)
before_more a read = read >>= λ more. Ok (a ∷ more.0, more.1)

-- what specifications give, one after another: `given` of them and of what is left to read, `taken` of those after an attribute that was read, `last` where none follows;
-- an attribute that isn't asked for changes nothing
pub record PassesOver {Y : Type 0} (e : Encoding) (wanted : DwAt → Bool) (given : List Specification → Section → Result Y Error) (taken : List Specification → NamedValue × Section → Result Y Error) (last : Section → Result Y Error) : Type 0 where
  pub next : (s : Specification) (xs : List Specification) (left : Section) → given (s ∷ xs) left ≡ (attribute_at e s left >>= taken xs)
  pub still : (xs : List Specification) (a : NamedValue × Section) → wanted a.0.name ≡ false → taken xs a ≡ given xs a.1
  pub end : (left : Section) → given [] left ≡ last left

module _ {Y : Type 0} {e : Encoding} {wanted : DwAt → Bool} {given : List Specification → Section → Result Y Error} {taken : List Specification → NamedValue × Section → Result Y Error} {last : Section → Result Y Error} (p : PassesOver e wanted given taken last) where
  -- those that aren't asked for are passed over
  passed_over : (xs ys : List Specification) (left : Section) → HasNoWanted wanted xs → given (xs ++ ys) left ≡ (rest_of (attributes_at e xs left) >>= λ t. given ys t)
  unfolding attributes_at
  passed_over [] ys left h = refl
  passed_over (s ∷ xs) ys left h = p.next s (xs ++ ys) left ∙ at (λ t. passed_over xs ys t (λ k y l. h (suc k) y (omega arith))) (attribute_at e s left) refl
    where
      rest : (a : NamedValue) (read : Reading (List NamedValue)) → (rest_of read >>= λ t. given ys t) ≡ (rest_of (before_more a read) >>= λ t. given ys t)
      rest a (Ok z) = refl
      rest a (Err f) = refl

      at : ((t : Section) → given (xs ++ ys) t ≡ (rest_of (attributes_at e xs t) >>= λ z. given ys z)) → (q : Reading NamedValue) → attribute_at e s left ≡ q
          → (q >>= taken (xs ++ ys)) ≡ (rest_of (q >>= λ a. before_more a.0 (attributes_at e xs a.1)) >>= λ t. given ys t)
      at over (Err f) k = refl
      at over (Ok a) k =
          let other : wanted a.0.name ≡ false = ap wanted (named e s left a.1 a.0 k) ∙ h zero s (omega arith) in
          p.still (xs ++ ys) a other ∙ over a.1 ∙ rest a.0 (attributes_at e xs a.1)

  -- where none is asked for
  pub wanted_end : {xs : List Specification} {left : Section} {t : Result Section Error} → HasNoWanted wanted xs → rest_of (attributes_at e xs left) ≡ t → given xs left ≡ (t >>= last)
  wanted_end {xs = xs} {left = left} {t = t} h k =
      ap (λ ys. given ys left) (sym (append-nil xs)) ∙ passed_over xs [] left h ∙ ap (λ (v : Result Section Error). v >>= λ z. given [] z) k ∙ at t
    where
      at : (v : Result Section Error) → (v >>= λ z. given [] z) ≡ (v >>= last)
      at (Ok z) = p.end z
      at (Err f) = refl

  -- up to the next that is asked for the others are passed over
  pub wanted_passed : {all : List Specification} (before : List Specification) (s : Specification) (after : List Specification) {left : Section} {t : Result Section Error} → IsSplitAtWanted wanted all before s after → rest_of (attributes_at e before left) ≡ t
      → given all left ≡ (t >>= λ z. given (s ∷ after) z)
  wanted_passed before s after {left = left} h k =
      ap (λ xs. given xs left) h.0 ∙ passed_over before (s ∷ after) left h.1 ∙ ap (λ (v : Result Section Error). v >>= λ z. given (s ∷ after) z) k

  -- with the next that is asked for, or with its fault
  pub wanted_next : {all : List Specification} (before : List Specification) (s : Specification) (after : List Specification) {left t : Section} {r : Reading NamedValue} → IsSplitAtWanted wanted all before s after → rest_of (attributes_at e before left) ≡ Ok t → attribute_at e s t ≡ r
      → given all left ≡ (r >>= taken after)
  wanted_next before s after {t = t} h k n = wanted_passed before s after h k ∙ p.next s after t ∙ ap (λ (v : Reading NamedValue). v >>= taken after) n

-- what attributes say, where one that isn't asked for changes nothing of it
pub fold_passes : {X Y : Type 0} (e : Encoding) (wanted : DwAt → Bool) (more : X → NamedValue → X) (last : X → Result Y Error) → ((x : X) (a : NamedValue) → wanted a.name ≡ false → more x a ≡ x) → (x : X)
    → PassesOver e wanted (λ xs left. attributes_at e xs left >>= λ y. last (fold more x y.0)) (λ xs a. attributes_at e xs a.1 >>= λ y. last (fold more (more x a.0) y.0)) (λ _. last x)
unfolding attributes_at
fold_passes e wanted more last same x = record {
  next = λ s xs left. by_read xs (attribute_at e s left);
  still = λ xs a h. ap (λ v. attributes_at e xs a.1 >>= λ y. last (fold more v y.0)) (same x a.0 h);
  end = λ left. refl;
}
  where
    first : (a : NamedValue) (read : Reading (List NamedValue)) → (before_more a read >>= λ y. last (fold more x y.0)) ≡ (read >>= λ y. last (fold more (more x a) y.0))
    first a (Ok y) = refl
    first a (Err f) = refl

    by_read : (xs : List Specification) (q : Reading NamedValue) → ((q >>= λ a. before_more a.0 (attributes_at e xs a.1)) >>= λ y. last (fold more x y.0)) ≡ (q >>= λ a. attributes_at e xs a.1 >>= λ y. last (fold more (more x a.0) y.0))
    by_read xs (Ok a) = first a.0 (attributes_at e xs a.1)
    by_read xs (Err f) = refl

-- what is left after attributes
pub rest_passes : (e : Encoding) (wanted : DwAt → Bool) → PassesOver e wanted (λ xs left. rest_of (attributes_at e xs left)) (λ xs a. rest_of (attributes_at e xs a.1)) Ok
unfolding attributes_at
rest_passes e wanted = record { next = λ s xs left. by_read xs (attribute_at e s left); still = λ xs a h. refl; end = λ left. refl }
  where
    first : (a : NamedValue) (read : Reading (List NamedValue)) → rest_of (before_more a read) ≡ rest_of read
    first a (Ok y) = refl
    first a (Err f) = refl

    by_read : (xs : List Specification) (q : Reading NamedValue) → rest_of (q >>= λ a. before_more a.0 (attributes_at e xs a.1)) ≡ (q >>= λ a. rest_of (attributes_at e xs a.1))
    by_read xs (Ok a) = first a.0 (attributes_at e xs a.1)
    by_read xs (Err f) = refl
