-- Which of several functions whose ranges hold an address counts (DWARF 5, section 3.3, says
-- nothing of it).
-- Own: the one with the shortest range that holds the probe; of equal lengths the one with the
-- least entry offset.
use Rattle.std.specs.Prelude.{ℕ, ◌≡◌, ◌-◌, ◌<◌, ◌≤◌, ◌⊎◌, ◌==◌, ◌&&◌, Bool, true, min, nat_le, nat_lt, List, [], ◌∷◌, filter, Option, Some, None}
use Rattle.std.specs.List.{All, Contains}
use Rattle.addr2line_lines.specs.Pick.{IsDisjoint, pick}

module _ {X : Type 0} (begin end : X → ℕ) where
  -- whether a range holds the probe
  abbrev pub holds : ℕ → X → Bool
  holds probe x = nat_le (begin x) probe && nat_lt probe (end x)

  -- those that hold the probe
  abbrev pub holding : ℕ → List X → List X
  holding probe xs = filter (holds probe) xs

  -- the number of addresses
  abbrev pub range_length : X → ℕ
  range_length x = end x - begin x

-- the least number of an element, 0 where there is none
abbrev pub least : {X : Type 0} → (X → ℕ) → List X → ℕ
least f [] = 0
least f (x ∷ []) = f x
least f (x ∷ y ∷ ys) = min (f x) (least f (y ∷ ys))

-- the elements with the least number
abbrev pub lowest : {X : Type 0} → (X → ℕ) → List X → List X
lowest f xs = filter (λ x. f x == least f xs) xs

-- the first one listed
abbrev pub first_listed : {X : Type 0} → List X → Option X
first_listed [] = None
first_listed (x ∷ xs) = Some x

-- of the ranges that hold the probe the shortest, of equal lengths the one of the least place
abbrev pub shortest : {X : Type 0} → (X → ℕ) → (X → ℕ) → (X → ℕ) → ℕ → List X → Option X
shortest begin end place probe xs =
    first_listed (lowest place (lowest (range_length begin end) (holding begin end probe xs)))

-- a range is shorter than another, or as long and of no greater place
abbrev pub IsNoLonger : {X : Type 0} → (X → ℕ) → (X → ℕ) → (X → ℕ) → X → X → Type 0
IsNoLonger begin end place x y =
    (range_length begin end x < range_length begin end y)
    ⊎ ((range_length begin end x ≡ range_length begin end y) × (place x ≤ place y))

-- a range that holds the probe is of the place of the shortest one where no other that holds it is
-- shorter, or as long and of a lesser place
abbrev pub NoneIsShorter : {X : Type 0} → (X → ℕ) → (X → ℕ) → (X → ℕ) → Type 0
NoneIsShorter {X} begin end place =
    (probe : ℕ) (xs : List X) (z : X) → Contains xs z → holds begin end probe z ≡ true
    → All (λ x. holds begin end probe x ≡ true → IsNoLonger begin end place z x) xs
    → (x : X) × (shortest begin end place probe xs ≡ Some x) × (place x ≡ place z)

-- where no other range overlaps one that holds the probe, it is the shortest, and the one that is
-- picked
abbrev pub LoneIsShortest : {X : Type 0} → (X → ℕ) → (X → ℕ) → (X → ℕ) → Type 0
LoneIsShortest {X} begin end place =
    (probe : ℕ) (xs : List X) (z : X) → Contains xs z → begin z ≤ probe → probe < end z
    → All (λ x. (x ≡ z) ⊎ IsDisjoint begin end z x) xs
    → (shortest begin end place probe xs ≡ Some z) × (pick begin end probe xs ≡ Some z)
