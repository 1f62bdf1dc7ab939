-- The rule of a lane: what was put is what was taken, and then what it holds.
use Rattle.std.specs.Prelude.{◌≡◌, ℕ, ◌-◌, ◌^◌, true, List, [], ◌++◌}
use Rattle.std.specs.List.{sum_by}
use mathlib.Core.Option.{some}
use lib.ListN.{get_elem?}
use Rattle.lane_queue.specs.declared.order.Order.{Order}
use Rattle.lane_queue.specs.declared.view.View.{View}
use Rattle.lane_queue.specs.Orders.{IsSub}
use Rattle.lane_queue.specs.Lanes.{AreAtMost}

-- the parts of a view, counted in parts of a depth
abbrev pub weight : ℕ → View → ℕ
weight depth v = sum_by (λ d. 2 ^ (depth - d)) v.depths

-- what a pass put and took is among what was sent and what was got, in their order; one with no part did
-- neither
pub record Fits (sent got : List Order) (depth : ℕ) (v : View) : Type 0 where
  pub subs : v.ordered ≡ true → IsSub v.puts sent × IsSub v.takes got
  pub within : AreAtMost depth v.depths
  pub spent : v.depths ≡ [] → (v.puts ≡ []) × (v.takes ≡ [])

-- There is one list of all that was sent and one of all that was got, whoever sent and got it
pub record Balanced (items : List Order) (views : List View) : Type 0 where
  pub sent : List Order
  pub got : List Order
  pub depth : ℕ
  pub line : sent ≡ got ++ items
  pub puts : (h : Order → ℕ) → sum_by (λ v. sum_by h v.puts) views ≡ sum_by h sent
  pub takes : (h : Order → ℕ) → sum_by (λ v. sum_by h v.takes) views ≡ sum_by h got
  pub whole : sum_by (weight depth) views ≡ 2 ^ depth
  pub each : (id : ℕ) (v : View) → get_elem? views id ≡ some v → Fits sent got depth v
