-- Plan and prices of a state in which all is settled, and that they certify.
use Rattle.std.specs.Prelude.{ℕ, All, ◌≡◌, ◌≢◌, ◌+◌, ◌-◌, ◌<◌, true, max, List, length, Option, Some, None, unwrap_or}
use Rattle.rack_tree.specs.Tree.{Tree, IsWithinReach}
use Rattle.wave_problem.specs.Wave.{Wave, cost, IsUsable}
use Rattle.wave_problem.specs.Assignment.{start_of, pairs_of, load}
use Rattle.price_certificate.specs.PriceList.{PriceList}
use Rattle.price_certificate.specs.Places.{full_reward, place_price, IsBestByCharge, IsFitRow}
use Rattle.price_certificate.specs.Certificate.{charged_claim, Certifies, split_price, worker_price}
use Rattle.tree_flow.specs.declared.nodes.TreeNode.{TreeNode}
use Rattle.tree_flow.specs.declared.nodes.TreeNode.TheVariants.{Worker}
use Rattle.tree_flow.specs.declared.nodes.End.{End}
use Rattle.tree_flow.specs.declared.nodes.Place.TheVariants.{Stands, Waits}
use Rattle.tree_flow.specs.Nodes.{is_under, node_above, IsKnown}
use Rattle.tree_flow.specs.State.{State, Terms, place_of, standing_under, IsKept}

-- a unit can have come down from a node to a worker: units go to each node on the way
pub record HasComeDown (tree : Tree) (state : State) (v : TreeNode) (w : ℕ) : Type 0 where
  pub under : is_under tree (Worker w) v ≡ true
  pub flows : (u : TreeNode) → is_under tree (Worker w) u ≡ true → is_under tree u v ≡ true → u ≢ v
      → 0 < state.flow u

-- each split that stands starts on a worker to which its unit has come down, and no other starts
pub record IsHandedDown (wave : Wave) (state : State) (starts : List (Option ℕ)) : Type 0 where
  pub size : length starts ≡ length wave.splits
  pub started : (s w : ℕ) → start_of starts s ≡ Some w
      → (e : End) × (place_of state s ≡ Stands e) × HasComeDown wave.tree state e.node w
  pub waiting : (s : ℕ) → start_of starts s ≡ None → place_of state s ≡ Waits
  pub loads : (w : ℕ) → load (pairs_of starts) w
      ≡ state.flow (Worker w) + standing_under wave state (Worker w)

-- how deep the deepest node above a worker lies
abbrev pub deepest_above : Tree → State → ℕ → ℕ
deepest_above tree state w = max (state.depth (node_above tree 0 w)) (max (state.depth (node_above tree 1 w))
    (max (state.depth (node_above tree 2 w)) (state.depth (node_above tree 3 w))))

pub record ArePrices (wave : Wave) (state : State) (starts : List (Option ℕ)) (prices : PriceList)
    : Type 0 where
  pub usable : (w : ℕ) → IsUsable wave.workers w → worker_price prices w ≡ deepest_above wave.tree state w
  pub unusable : (w : ℕ) → (IsUsable wave.workers w → ⊥) → worker_price prices w ≡ 0
  pub started : (s w : ℕ) → start_of starts s ≡ Some w
      → split_price prices s ≡ state.terms.worth - (worker_price prices w + unwrap_or (cost wave s w) 0)
  pub unstarted : (s : ℕ) → start_of starts s ≡ None → split_price prices s ≡ 0

-- the terms of a wave with these prices of places: each place costs its price, and a start is worth more than any
-- admissible assignment is charged
pub record AreTermsOf (wave : Wave) (places : List (List ℕ)) (terms : Terms) : Type 0 where
  pub worth : terms.worth ≡ full_reward places wave
  pub price : (w k : ℕ) → terms.price w k ≡ place_price places w k

-- the prices certify the plan
abbrev pub EngineCertifies : Type 0
EngineCertifies = (wave : Wave) (places : List (List ℕ)) (state : State) (starts : List (Option ℕ))
    (prices : PriceList) → AreTermsOf wave places state.terms → IsWithinReach wave.tree → IsKnown wave
    → IsKept wave state → IsHandedDown wave state starts → ArePrices wave state starts prices
    → Certifies (charged_claim wave places starts prices)

-- so that the plan is best
abbrev pub EngineIsBest : Type 0
EngineIsBest = (wave : Wave) (places : List (List ℕ)) (state : State) (starts : List (Option ℕ))
    (prices : PriceList) → All IsFitRow places → AreTermsOf wave places state.terms → IsWithinReach wave.tree
    → IsKnown wave → IsKept wave state → IsHandedDown wave state starts → ArePrices wave state starts prices
    → IsBestByCharge places wave (pairs_of starts)
