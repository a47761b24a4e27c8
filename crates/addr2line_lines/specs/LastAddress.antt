-- The greatest address of 64 bits, which no range holds.
use Rattle.std.specs.Prelude.{ℕ, ◌-◌, ◌^◌}

-- the last address
abbrev pub last_address : ℕ
last_address = 2 ^ 64 - 1
