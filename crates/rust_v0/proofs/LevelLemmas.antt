-- The names of lifetimes, one after another.
use Rattle.std.proofs.Common.{◌≡◌, ℕ, zero, suc, ◌+◌, ◌-◌, ◌<◌, Some, refl, arith, sub-one}
use Rattle.rust_v0.specs.State.{State, say, ◌>>=◌}
use Rattle.std.specs.Prelude.{codes}
use Rattle.rust_v0.specs.Leaves.{more_levels, say_level}

pub levels_end : (level count : ℕ) (s : State) → count ≡ 0 → more_levels level count s ≡ Some s
unfolding more_levels
levels_end level zero s e = refl
levels_end level (suc count) s e = absurd (omega (arith, e))

pub levels_more : (level count : ℕ) (s : State) → 0 < count
    → more_levels level count s ≡ (say (codes ", ") s >>= λ comma. say_level level comma >>= more_levels (level + 1) (count - 1))
unfolding more_levels
levels_more level zero s e = absurd (omega (arith, e))
levels_more level (suc count) s e = rw sub-one refl
