-- What plan and prices are read off a least-cost flow of a network, and that they certify.
use Rattle.std.specs.Prelude.{◌≡◌, ℕ, ◌+◌, ◌-◌, ◌*◌, ◌<◌, ◌≤◌, true, false, List, length, Option, Some, None}
use Rattle.std.specs.Prelude.{unwrap_or}
use Rattle.flow_network.specs.declared.arcs.FlowArc.{FlowArc}
use Rattle.flow_network.specs.Flows.{outflow, NoNegative}
use Rattle.flow_network.specs.Laws.{flow_cost}
use Rattle.augmenting_paths.specs.Shipping.{IsCheapest, IsShipment}
use Rattle.wave_problem.specs.Wave.{Wave, split_at, cost, reward, IsUsable}
use Rattle.wave_problem.specs.Assignment.{start_of, pairs_of, load, total, IsAssignment}
use Rattle.price_certificate.specs.PriceList.{PriceList}
use Rattle.price_certificate.specs.Certificate.{claim, Certifies, split_price, worker_price}
use Rattle.network_prices.specs.Pending.{pending_splits}
use Rattle.network_prices.specs.Ways.{deepest, CameFrom}
use Rattle.network_prices.specs.Networks.{WaveNodes, way_of, IsWaveNetwork}

-- one unit goes from each pending split to the sink
abbrev pub IsShipped : Wave → WaveNodes → List FlowArc → List ℕ → Type 0
IsShipped wave nodes arcs flows = IsShipment arcs (pending_splits wave) nodes.sink flows

-- where the unit of a split ends, before it goes to the sink
abbrev pub end_of : WaveNodes → Option ℕ → ℕ
end_of nodes None = nodes.unstarted
end_of nodes (Some w) = nodes.worker w

-- each pending split has a way of units to its worker's node, or to that of the splits that are not
-- started, and a worker's load is what flows out of it
pub record IsPlanOf (wave : Wave) (nodes : WaveNodes) (arcs : List FlowArc) (flows : List ℕ)
    (starts : List (Option ℕ)) : Type 0 where
  pub size : length starts ≡ length wave.splits
  pub known : (s w : ℕ) → start_of starts s ≡ Some w → w < length wave.workers
  pub idle : (s : ℕ) → (split_at wave s).pending ≡ false → start_of starts s ≡ None
  pub came : (s : ℕ) → (split_at wave s).pending ≡ true
      → (path : List ℕ) × CameFrom arcs flows path s (end_of nodes (start_of starts s))
  pub loads : (w : ℕ) → w < length wave.workers →
      load (pairs_of starts) w ≡ outflow arcs flows (nodes.worker w)

-- prices of a plan by how far below 0 the potentials lie: a slot of a usable worker costs as much as the
-- deepest node on its way up, another nothing; a started split costs what its start leaves of the reward
pub record ArePricesOf (wave : Wave) (nodes : WaveNodes) (h : ℕ → ℕ) (starts : List (Option ℕ))
    (prices : PriceList) : Type 0 where
  pub split_size : length prices.splits ≡ length wave.splits
  pub worker_size : length prices.workers ≡ length wave.workers
  pub usable : (w : ℕ) → IsUsable wave.workers w → worker_price prices w ≡ deepest h (way_of nodes w)
  pub unusable : (w : ℕ) → (IsUsable wave.workers w → ⊥) → worker_price prices w ≡ 0
  pub started : (s w : ℕ) → start_of starts s ≡ Some w →
      split_price prices s ≡ reward wave - (worker_price prices w + unwrap_or (cost wave s w) 0)
  pub unstarted : (s : ℕ) → start_of starts s ≡ None → split_price prices s ≡ 0

-- read off a flow and potentials under which no residual arc has a negative reduced cost, the prices certify
-- the plan, whatever nodes the network has above the workers
abbrev pub PricesCertify : Type 0
PricesCertify =
    (wave : Wave) (nodes : WaveNodes) (arcs : List FlowArc) (flows : List ℕ) (h : ℕ → ℕ)
    (starts : List (Option ℕ)) (prices : PriceList)
    → IsWaveNetwork wave nodes arcs → IsShipped wave nodes arcs flows
    → NoNegative arcs flows h → h nodes.sink ≡ 0
    → IsPlanOf wave nodes arcs flows starts → ArePricesOf wave nodes h starts prices
    → Certifies (claim wave starts prices)

-- A flow costs as much as a set of starts: their byte-distance, and the reward for each pending split that
-- does not start.
abbrev pub CostsAsMuch : Wave → List FlowArc → List ℕ → List (ℕ × ℕ) → Type 0
CostsAsMuch wave arcs flows pairs = flow_cost arcs flows + reward wave * length pairs
    ≡ total wave pairs + reward wave * length (pending_splits wave)

-- no less than that
abbrev pub CostsNoLess : Wave → List FlowArc → List ℕ → List (ℕ × ℕ) → Type 0
CostsNoLess wave arcs flows pairs = total wave pairs + reward wave * length (pending_splits wave)
    ≤ flow_cost arcs flows + reward wave * length pairs

-- each admissible assignment is a flow of the same cost
abbrev pub AssignmentIsFlow : Type 0
AssignmentIsFlow =
    (wave : Wave) (nodes : WaveNodes) (arcs : List FlowArc) (pairs : List (ℕ × ℕ))
    → IsWaveNetwork wave nodes arcs → IsAssignment wave pairs
    → (flows : List ℕ) × IsShipped wave nodes arcs flows × CostsAsMuch wave arcs flows pairs

-- each flow is an admissible assignment that costs no more: the plan that is read off it
abbrev pub FlowIsAssignment : Type 0
FlowIsAssignment =
    (wave : Wave) (nodes : WaveNodes) (arcs : List FlowArc) (flows : List ℕ) (starts : List (Option ℕ))
    → IsWaveNetwork wave nodes arcs → IsShipped wave nodes arcs flows → IsPlanOf wave nodes arcs flows starts
    → IsAssignment wave (pairs_of starts) × CostsNoLess wave arcs flows (pairs_of starts)

-- so a cheapest flow costs what its plan does
abbrev pub CheapestCostsAsPlan : Type 0
CheapestCostsAsPlan =
    (wave : Wave) (nodes : WaveNodes) (arcs : List FlowArc) (flows : List ℕ) (starts : List (Option ℕ))
    → IsWaveNetwork wave nodes arcs → IsCheapest arcs (pending_splits wave) nodes.sink flows
    → IsPlanOf wave nodes arcs flows starts → CostsAsMuch wave arcs flows (pairs_of starts)

-- A plan and prices that are read off a least-cost flow of a network of this definition, and off potentials
-- that show that it is one: no residual arc has a negative reduced cost, and the sink's is 0. The flow costs
-- what the plan does.
pub record IsReadOff (wave : Wave) (nodes : WaveNodes) (network : List FlowArc →
    Type 0) (starts : List (Option ℕ))
    (prices : PriceList) : Type 0 where
  pub arcs : List FlowArc
  pub flows : List ℕ
  pub depths : ℕ → ℕ
  pub over : network arcs
  pub cheapest : IsCheapest arcs (pending_splits wave) nodes.sink flows
  pub reduced : NoNegative arcs flows depths
  pub at_sink : depths nodes.sink ≡ 0
  pub plan : IsPlanOf wave nodes arcs flows starts
  pub priced : ArePricesOf wave nodes depths starts prices
  pub cost : CostsAsMuch wave arcs flows (pairs_of starts)
