-- Elements of lists, those that pass a test, and those with the greatest number (on
-- specs/Topmost.antt).
use Rattle.gimli_read.proofs.Common.{ℕ, ◌≡◌, ◌≤◌, ◌⊎◌, Bool, true, false, cond, ◌&&◌, List, [], ◌∷◌, Some, arith, inl, inr, ◌∙◌, subst, ap, sym, refl, filter, All}
use Rattle.std.proofs.lemmas.List.Elements.{All-head, All-tail, All-cons, All-nil}
use Rattle.gimli_read.specs.Topmost.{greatest, last}

module _ {X : Type 0} where
  -- x is one of the elements
  abbrev pub In : X → List X → Type 0
  In x [] = ⊥
  In x (y ∷ ys) = (y ≡ x) ⊎ In x ys

  pub In-last : (xs : List X) (z : X) → last xs ≡ Some z → In z xs
  In-last [] z h = cc
  In-last (x ∷ []) z h = inl cc
  In-last (x ∷ y ∷ ys) z h = inr (In-last (y ∷ ys) z h)

  In-cond : (b : Bool) (x z : X) (ys : List X) → In z (cond b (x ∷ ys) ys) → ((b ≡ true) × (x ≡ z)) ⊎ In z ys
  In-cond b x z ys = elim b as (λ v. In z (cond v (x ∷ ys) ys) → ((v ≡ true) × (x ≡ z)) ⊎ In z ys) [ true ↦ (λ h. elim h [ inl e ↦ inl (refl, e) | inr i ↦ inr i ]) | false ↦ (λ h. inr h) ]

  pub In-filter : (p : X → Bool) (xs : List X) (z : X) → In z (filter p xs) → In z xs × (p z ≡ true)
  In-filter p [] z h = absurd h
  In-filter p (x ∷ xs) z h =
      elim (In-cond (p x) x z (filter p xs) h) [
        | inl e ↦ (inl e.1, ap p (sym e.1) ∙ e.0)
        | inr i ↦ (inr (In-filter p xs z i).0, (In-filter p xs z i).1)
      ]

  In-cons : (b : Bool) (x z : X) (ys : List X) → In z ys → In z (cond b (x ∷ ys) ys)
  In-cons b x z ys h = elim b as (λ v. In z (cond v (x ∷ ys) ys)) [ true ↦ inr h | false ↦ h ]

  pub In-passes : (p : X → Bool) (xs : List X) (z : X) → In z xs → p z ≡ true → In z (filter p xs)
  In-passes p [] z h e = absurd h
  In-passes p (x ∷ xs) z h e =
      elim h [
        | inl same ↦ (let P : Bool → Type 0 = λ b. In z (cond b (x ∷ filter p xs) (filter p xs)) in subst P (sym (ap p same ∙ e)) (inl same))
        | inr i ↦ In-cons (p x) x z (filter p xs) (In-passes p xs z i e)
      ]

  All-cond : (P : X → Type 0) (b : Bool) (x : X) (ys : List X) → (b ≡ true → P x) → All P ys → All P (cond b (x ∷ ys) ys)
  All-cond P b x ys = elim b as (λ v. (v ≡ true → P x) → All P ys → All P (cond v (x ∷ ys) ys)) [ true ↦ (λ h all. All-cons P x ys (h refl) all) | false ↦ (λ h all. all) ]

  -- what passes keeps what it has, and has what the test says
  pub All-passing : (P Q : X → Type 0) (p : X → Bool) → ((x : X) → p x ≡ true → P x → Q x) → (xs : List X) → All P xs → All Q (filter p xs)
  All-passing P Q p f [] all = All-nil Q
  All-passing P Q p f (x ∷ xs) all = All-cond Q (p x) x (filter p xs) (λ e. f x e (All-head P x xs all)) (All-passing P Q p f xs (All-tail P x xs all))

  greatest_le : (f : X → ℕ) (n : ℕ) (xs : List X) → All (λ x. f x ≤ n) xs → greatest f xs ≤ n
  greatest_le f n [] all = omega arith
  greatest_le f n (x ∷ xs) all = let h = All-head (λ (y : X). f y ≤ n) x xs all in let t = greatest_le f n xs (All-tail (λ (y : X). f y ≤ n) x xs all) in omega arith

  greatest_ge : (f : X → ℕ) (xs : List X) (z : X) → In z xs → f z ≤ greatest f xs
  greatest_ge f [] z h = absurd h
  greatest_ge f (x ∷ xs) z h = elim h [ inl e ↦ (let e' : f x ≡ f z = ap f e in omega arith) | inr i ↦ (let t = greatest_ge f xs z i in omega arith) ]

  pub greatest_is : (f : X → ℕ) (xs : List X) (z : X) → All (λ x. f x ≤ f z) xs → In z xs → greatest f xs ≡ f z
  greatest_is f xs z all i = let a = greatest_le f (f z) xs all in let b = greatest_ge f xs z i in omega arith

  filter-cond : (q : X → Bool) (b : Bool) (x : X) (ys : List X) → filter q (cond b (x ∷ ys) ys) ≡ cond (b && q x) (x ∷ filter q ys) (filter q ys)
  filter-cond q b x ys = elim b as (λ v. filter q (cond v (x ∷ ys) ys) ≡ cond (v && q x) (x ∷ filter q ys) (filter q ys)) [ true ↦ refl | false ↦ refl ]

  pub filter-filter : (p q : X → Bool) (xs : List X) → filter q (filter p xs) ≡ filter (λ x. p x && q x) xs
  filter-filter p q [] = refl
  filter-filter p q (x ∷ xs) = filter-cond q (p x) x (filter p xs) ∙ ap (λ ys. cond (p x && q x) (x ∷ ys) ys) (filter-filter p q xs)

  last-cons : (x z : X) (ys : List X) → last ys ≡ Some z → last (x ∷ ys) ≡ Some z
  last-cons x z [] h = cc
  last-cons x z (y ∷ ys) h = h

  -- what is last stays last where something comes before it
  pub last-cond : (b : Bool) (x z : X) (ys : List X) → last ys ≡ Some z → last (cond b (x ∷ ys) ys) ≡ Some z
  last-cond b x z ys h = elim b as (λ v. last (cond v (x ∷ ys) ys) ≡ Some z) [ true ↦ last-cons x z ys h | false ↦ h ]
