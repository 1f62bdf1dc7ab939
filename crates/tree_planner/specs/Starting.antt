-- The starts of a wave, told without the plan and the prices that show them to be best.
use Rattle.std.specs.Prelude.{ℕ, ◌≡◌, List, Option, length}
use Rattle.wave_problem.specs.Assignment.{pairs_of, IsBest}
use Rattle.wave_problem.specs.Wave.{Wave, IsUsable}
use Rattle.price_certificate.specs.Certificate.{claim, worker_price, Certifies, HasOneSize}
use Rattle.price_certificate.specs.PriceList.{PriceList}

-- A plan makes just these starts, by rising split, and some prices certify it. Slots that nobody can take
-- cost nothing.
pub record AreBestStarts (wave : Wave) (pairs : List (ℕ × ℕ)) : Type 0 where
  pub plan : List (Option ℕ)
  pub prices : PriceList
  pub starts : pairs_of plan ≡ pairs
  pub sizes : HasOneSize (claim wave plan prices) (length wave.workers)
  pub certifies : Certifies (claim wave plan prices)
  pub idle : (w : ℕ) → (IsUsable wave.workers w → ⊥) → worker_price prices w ≡ 0
  pub best : IsBest wave pairs
