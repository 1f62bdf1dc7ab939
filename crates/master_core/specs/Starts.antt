-- What is asked of a plan that is handed in, and of one that is started.
use Rattle.std.specs.Prelude.{◌≡◌, ℕ, List, Option, length}
use Rattle.wave_problem.specs.Assignment.{IsBest, Plan, pairs_of, total}
use Rattle.wave_problem.specs.Wave.{Wave}
use Rattle.price_certificate.specs.Certificate.{Certifies, claim}
use Rattle.price_certificate.specs.PriceList.{PriceList}
use Rattle.certificate_checker.specs.declared.Certified.{Certified}
use Rattle.flow_network.specs.declared.kinds.NetworkKind.TheVariants.{Racks}
use Rattle.wave_planner.specs.Planned.{IsMadeOver}
use Rattle.master_state.specs.declared.answers.Wave.{Wave as Told}
use Rattle.master_state.specs.States.{Setup}
use Rattle.master_state.specs.Steps.{HasPrices, problem_of}
use Rattle.master_state.specs.Jobs.{IsCommitted, Job}

-- a plan and prices are for as many splits and workers as the cluster has
pub record HasSizesOf (setup : Setup) (plan : Plan) (prices : PriceList) : Type 0 where
  pub starts : length plan.starts ≡ length setup.cluster.splits
  pub workers : plan.workers ≡ length setup.cluster.slots
  pub split_prices : length prices.splits ≡ length setup.cluster.splits
  pub worker_prices : length prices.workers ≡ length setup.cluster.slots

-- how many the plan starts in the present state, and at which byte-distance
pub record HasTotals (job : Job) (plan : List (Option ℕ)) (certified : Certified) : Type 0 where
  pub count : certified.count ≡ length (pairs_of plan)
  pub cost : certified.cost ≡ total (problem_of job.setup job.state) (pairs_of plan)

-- a plan made over the network with racks makes just these starts, by rising split, and some prices certify
-- it
pub record ArePlanned (wave : Wave) (pairs : List (ℕ × ℕ)) : Type 0 where
  pub plan : List (Option ℕ)
  pub prices : PriceList
  pub starts : pairs_of plan ≡ pairs
  pub over : IsMadeOver Racks wave plan prices
  pub certifies : Certifies (claim wave plan prices)
  pub best : IsBest wave pairs

-- the best wave of a state was started: such a plan was committed
pub record HasStarted (old : Job) (pairs : List (ℕ × ℕ)) (wave : Told) (new : Job) : Type 0 where
  pub planned : ArePlanned (problem_of old.setup old.state) pairs
  pub committed : IsCommitted old planned.plan wave new

-- some plan makes just these starts in the present state, and some prices certify it
abbrev pub ArePriced : Job → List (ℕ × ℕ) → Type 0
ArePriced job pairs = (plan : List (Option ℕ)) × (pairs_of plan ≡ pairs) × HasPrices job.setup job.state plan

-- ANY such plan was committed as the wave
abbrev pub AreCommitted : Job → List (ℕ × ℕ) → Told → Job → Type 0
AreCommitted old pairs wave new =
    (plan : List (Option ℕ)) → pairs_of plan ≡ pairs → HasPrices old.setup old.state plan → IsCommitted old plan wave new
