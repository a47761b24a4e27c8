-- The bits of a line or a column that are stored.
-- Own: the low 32 bits count.
use Rattle.std.specs.Prelude.{ℕ, ◌%◌, ◌^◌}

-- the low 32 bits of a number
abbrev pub low_bits : ℕ → ℕ
low_bits n = n % 2 ^ 32
