-- A plan ahead of a master's present state, with its heads.
use Rattle.std.specs.Prelude.{ℕ, List, ◌≡◌, ◌≤◌, length}
use Rattle.wave_problem.specs.declared.TheConstants.{MAX_SPLITS}
use Rattle.wave_problem.specs.Wave.{Wave}
use Rattle.wave_problem.specs.Assignment.{IsBest, pairs_of, total}
use Rattle.price_certificate.specs.Certificate.{Certifies, claim}
use Rattle.wave_planner.specs.Planned.{Planned}
use Rattle.master_state.specs.Steps.{AreHeads, problem_of, with_places}
use Rattle.master_state.specs.Jobs.{Job}
use Rattle.master_core.specs.Starts.{HasTotals}
use Rattle.master_core.specs.declared.ahead.Queued.{Queued}

-- the present problem with the places of queues
abbrev pub queue_problem : Job → List ℕ → Wave
queue_problem job asked = with_places asked (problem_of job.setup job.state)

-- the plan is best onto the queues, as its prices certify, and its count and cost are told
pub record IsQueued (job : Job) (asked : List ℕ) (planned : Planned) : Type 0 where
  pub best : IsBest (queue_problem job asked) (pairs_of planned.plan.starts)
  pub certifies : Certifies (claim (queue_problem job asked) planned.plan.starts planned.prices)
  pub count : planned.certified.count ≡ length (pairs_of planned.plan.starts)
  pub cost : planned.certified.cost ≡ total (queue_problem job asked) (pairs_of planned.plan.starts)

-- and these are its heads
pub record IsQueuePlan (job : Job) (asked : List ℕ) (queued : Queued) : Type 0 where
  pub queued_is : IsQueued job asked queued.planned
  pub heads : AreHeads (problem_of job.setup job.state).workers queued.planned.plan.starts queued.heads.starts
  pub pairs : queued.pairs.items ≡ pairs_of queued.heads.starts
  pub totals : HasTotals job queued.heads.starts queued.totals
  pub few : length queued.heads.starts ≤ MAX_SPLITS
