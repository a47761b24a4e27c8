-- The addresses of a size in bytes (DWARF 5, section 7.3).
-- Own: all ones and all ones less one stand for code that is not there.
use Rattle.std.specs.Prelude.{ℕ, ◌+◌, ◌-◌, ◌*◌, ◌^◌, Bool, nat_le}

-- how many addresses a size has
abbrev pub address_limit : ℕ → ℕ
address_limit size = 2 ^ (8 * size)

-- all ones, the greatest address of a size
abbrev pub greatest_address : ℕ → ℕ
greatest_address size = address_limit size - 1

-- the two greatest addresses of a size, and all past them, stand for code that is not there
abbrev pub is_tombstone : ℕ → ℕ → Bool
is_tombstone size a = nat_le (address_limit size) (a + 2)
