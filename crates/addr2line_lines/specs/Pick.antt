-- Which of several ranges that hold an address counts (DWARF 5, section 2.17, says nothing of it).
-- Own: of the ranges that begin at or below the probe those with the greatest begin, of these those
-- with the greatest end, of these the last listed; it is picked where it holds the probe, else none
-- is.
use Rattle.std.specs.Prelude.{ℕ, ◌≡◌, ◌<◌, ◌≤◌, ◌⊎◌, List, Option, Some, None, filter, nat_le, nat_lt, if◌then◌else◌, option_and_then}
use Rattle.std.specs.List.{All, Contains}
use Rattle.addr2line_lines.specs.Common.{topmost, last}

-- those that begin at or below the probe
abbrev pub at_or_below : {X : Type 0} → (X → ℕ) → ℕ → List X → List X
at_or_below begin probe xs = filter (λ x. nat_le (begin x) probe) xs

-- the range that counts
abbrev pub candidate : {X : Type 0} → (X → ℕ) → (X → ℕ) → ℕ → List X → Option X
candidate begin end probe xs = last (topmost end (topmost begin (at_or_below begin probe xs)))

-- a range where it ends past the probe
abbrev pub if_past : {X : Type 0} → (X → ℕ) → ℕ → X → Option X
if_past end probe x = if nat_lt probe (end x) then Some x else None

-- the range that counts, where it holds the probe
abbrev pub pick : {X : Type 0} → (X → ℕ) → (X → ℕ) → ℕ → List X → Option X
pick begin end probe xs = option_and_then (if_past end probe) (candidate begin end probe xs)

-- x has addresses, and none of those of z
abbrev pub IsDisjoint : {X : Type 0} → (X → ℕ) → (X → ℕ) → X → X → Type 0
IsDisjoint begin end z x = (begin x < end x) × ((end x ≤ begin z) ⊎ (end z ≤ begin x))

-- a range that holds the probe is picked where all others are disjoint from it
abbrev pub LoneIsPicked : {X : Type 0} → (X → ℕ) → (X → ℕ) → Type 0
LoneIsPicked {X} begin end =
    (probe : ℕ) (xs : List X) (z : X) → Contains xs z → begin z ≤ probe → probe < end z
    → All (λ x. (x ≡ z) ⊎ IsDisjoint begin end z x) xs → pick begin end probe xs ≡ Some z
