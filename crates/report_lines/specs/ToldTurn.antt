-- Turns of a report.
use Rattle.std.specs.Prelude.{ℕ, List}

-- what stands before the orders of a `copies`, and how many events came before it
pub record ToldTurn : Type 0 where
  pub before : List ℕ
  pub events : ℕ

-- all turns, and how many events had come when the last one was made
pub record ToldTurns : Type 0 where
  pub each : List ToldTurn
  pub seen : ℕ
