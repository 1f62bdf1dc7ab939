-- A list of the workers that died in a sweep.
use Rattle.std.specs.Prelude.{ℕ, List}

-- who died, by number, and of how many workers there is room for
pub record DeadValue : Type 0 where
  pub items : List ℕ
  pub room : ℕ
