-- Words for a choice among the elements of a list.
use Rattle.std.specs.Prelude.{ℕ, ◌==◌, max, List, [], ◌∷◌, filter, Option, Some, None}

-- the greatest number of an element, 0 where there is none
abbrev pub greatest : {X : Type 0} → (X → ℕ) → List X → ℕ
greatest f [] = 0
greatest f (x ∷ xs) = max (f x) (greatest f xs)

-- the elements with the greatest number
abbrev pub topmost : {X : Type 0} → (X → ℕ) → List X → List X
topmost f xs = filter (λ x. f x == greatest f xs) xs

-- the last one listed
abbrev pub last : {X : Type 0} → List X → Option X
last [] = None
last (x ∷ []) = Some x
last (x ∷ y ∷ ys) = last (y ∷ ys)
