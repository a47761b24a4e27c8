-- Lists that grow at their end.
use Rattle.std.specs.Prelude.{◌≡◌, List, ◌++◌}

-- a list, and the same with more at its end
pub record IsGrown {X : Type 0} (xs ys : List X) : Type 0 where
  pub more : List X
  pub is : ys ≡ xs ++ more
