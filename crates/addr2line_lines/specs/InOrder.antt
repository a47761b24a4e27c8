-- Ranges in order.
-- Own: by begin, then by end, then by place in the list.
use Rattle.std.specs.Prelude.{ℕ, ◌≡◌, Bool, false, List, [], ◌∷◌, if◌then◌else◌}
use Rattle.std.specs.List.{AllByRecursion}
use Rattle.std.specs.Ordering.{is_lt, nat_cmp, ordering_then}
use Rattle.addr2line_lines.specs.Pick.{pick}

-- x put before the first element that is not sooner
abbrev pub put : {X : Type 0} → (X → X → Bool) → X → List X → List X
put sooner x [] = x ∷ []
put sooner x (y ∷ ys) = if sooner y x then y ∷ put sooner x ys else x ∷ y ∷ ys

-- the elements in order, those that tie in the order of the list
abbrev pub in_order : {X : Type 0} → (X → X → Bool) → List X → List X
in_order sooner [] = []
in_order sooner (x ∷ xs) = put sooner x (in_order sooner xs)

-- x begins before y, or with y and ends before it
abbrev pub begins_sooner : {X : Type 0} → (X → ℕ) → (X → ℕ) → X → X → Bool
begins_sooner begin end x y =
    is_lt (ordering_then (nat_cmp (begin x) (begin y)) (nat_cmp (end x) (end y)))

-- no element is sooner than one before it
abbrev pub IsInOrder : {X : Type 0} → (X → X → Bool) → List X → Type 0
IsInOrder sooner [] = Unit {0}
IsInOrder sooner (x ∷ xs) = AllByRecursion (λ y. sooner y x ≡ false) xs × IsInOrder sooner xs

-- what is picked of ranges in order is what is picked of them as they are listed
abbrev pub OrderIsFree : {X : Type 0} → (X → ℕ) → (X → ℕ) → Type 0
OrderIsFree {X} begin end = (probe : ℕ) (xs : List X)
    → pick begin end probe (in_order (begins_sooner begin end) xs) ≡ pick begin end probe xs
