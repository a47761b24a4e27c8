-- A law of the slots of an identifier (on specs/Search.antt).
use Rattle.std.specs.Prelude.{◌≡◌, ℕ, ◌<◌}
use Rattle.package.specs.Search.{probe}

-- no slot is looked at twice; so each one is looked at, where as many are as there are
abbrev pub LooksOnce : ℕ → ℕ → Type 0
LooksOnce id slot_count = (i j : ℕ) → i < slot_count → j < slot_count
    → probe id slot_count i ≡ probe id slot_count j → i ≡ j
