-- Lists in buffers of a fixed length, as C lends them.
-- Own: how many places a list needs is said up to the greatest number of 64 bits; it stands at the
-- front of a buffer that has room for the whole of it.
use Rattle.std.specs.Prelude.{◌≡◌, ◌≤◌, ◌-◌, ◌^◌, ℕ, List, length, min, take}

-- a number, cut to 64 bits
abbrev pub saturated : ℕ → ℕ
saturated n = min n (2 ^ 64 - 1)

-- the list needs so many places, and stands at the front of the buffer if that has room for it
pub record IsFilled {A : Type 0} (used : ℕ) (out items : List A) : Type 0 where
  pub needed : used ≡ saturated (length items)
  pub front : length items ≤ length out → take (length items) out ≡ items
