-- The state of the engine, and what every state keeps to.
use Rattle.std.specs.Prelude.{ℕ, ◌≡◌, ◌+◌, ◌-◌, ◌<◌, ◌≤◌, Bool, false, cond, List, length, count_by, Option, Some, None}
use Rattle.std.specs.Prelude.{slice_index_or}
use Rattle.rack_tree.specs.Tree.{Tree}
use Rattle.wave_problem.specs.Sums.{sum_below}
use Rattle.wave_problem.specs.Wave.{Wave, worker_at}
use Rattle.tree_flow.specs.declared.nodes.TreeNode.{TreeNode}
use Rattle.tree_flow.specs.declared.nodes.TreeNode.TheVariants.{Worker, Cluster}
use Rattle.tree_flow.specs.declared.nodes.End.{End}
use Rattle.tree_flow.specs.declared.nodes.Place.{Place}
use Rattle.tree_flow.specs.declared.nodes.Place.TheVariants.{Stands, Waits, Unshipped}
use Rattle.tree_flow.specs.Nodes.{parent, is_under, IsEnd, end_cost}

-- what a start is worth, and what each place of a worker costs, the first being 0
pub record Terms : Type 0 where
  pub worth : ℕ
  pub price : ℕ → ℕ → ℕ

-- the splits' places; how many units come to a node from its parent; how deep a node lies; how many slots of
-- a worker are free; and the terms, which no step changes
pub record State : Type 0 where
  pub terms : Terms
  pub places : List Place
  pub flow : TreeNode → ℕ
  pub depth : TreeNode → ℕ
  pub free : ℕ → ℕ

abbrev pub place_of : State → ℕ → Place
place_of state s = slice_index_or state.places s Waits

-- what it costs s to end at an end
abbrev pub reach_cost : Wave → State → ℕ → End → ℕ
reach_cost wave state s e = end_cost wave s e + state.depth e.node

-- a number of each worker, over those under a node
abbrev pub sum_under : Wave → TreeNode → (ℕ → ℕ) → ℕ
sum_under wave v f = sum_below (length wave.workers) (λ w. cond (is_under wave.tree (Worker w) v) (f w) 0)

-- the slots that a worker can give
abbrev pub slots_of : Wave → ℕ → ℕ
slots_of wave w = cond (worker_at wave w).live (worker_at wave w).free 0

abbrev pub stands_under : Tree → TreeNode → Place → Bool
stands_under tree v (Stands e) = is_under tree e.node v
stands_under tree v Waits = false
stands_under tree v Unshipped = false

-- how many splits stand on the node or under it
abbrev pub standing_under : Wave → State → TreeNode → ℕ
standing_under wave state v = count_by (λ place. stands_under wave.tree v place) state.places

-- no other end of a split that stands is cheaper, nor is waiting; a split that waits has no end cheaper
pub record AreCheapest (wave : Wave) (state : State) : Type 0 where
  pub ends : (s : ℕ) (e : End) → place_of state s ≡ Stands e → IsEnd wave s e
  pub least : (s : ℕ) (e x : End) → place_of state s ≡ Stands e → IsEnd wave s x
      → reach_cost wave state s e ≤ reach_cost wave state s x
  pub below_waiting : (s : ℕ) (e : End) → place_of state s ≡ Stands e
      → reach_cost wave state s e ≤ state.terms.worth
  pub waiting : (s : ℕ) (x : End) → place_of state s ≡ Waits → IsEnd wave s x
      → state.terms.worth ≤ reach_cost wave state s x

-- how many places of a worker are taken; a hole takes one
abbrev pub taken : Wave → State → ℕ → ℕ
taken wave state w = slots_of wave w - state.free w

-- no place of a worker costs less than the one before it, and no place that it can give more than a start is worth
pub record AreFair (wave : Wave) (terms : Terms) : Type 0 where
  pub rising : (w j k : ℕ) → j ≤ k → terms.price w j ≤ terms.price w k
  pub capped : (w k : ℕ) → k < slots_of wave w → terms.price w k ≤ terms.worth

-- all places are free
abbrev pub IsFree : Terms → Type 0
IsFree terms = (w k : ℕ) → terms.price w k ≡ 0

-- A node with room for more units is at least as deep as its parent. A node with any flow is at most as deep.
-- A worker with a free slot is at most as deep as its next place costs, and one that has given a slot at least as
-- deep as its last place costs.
pub record AreLevel (wave : Wave) (state : State) : Type 0 where
  pub down : (v : TreeNode) → state.flow v < sum_under wave v (slots_of wave)
      → state.depth (parent wave.tree v) ≤ state.depth v
  pub up : (v : TreeNode) → 0 < state.flow v → state.depth v ≤ state.depth (parent wave.tree v)
  pub bottom : (w : ℕ) → w < length wave.workers → 0 < state.free w
      → state.depth (Worker w) ≤ state.terms.price w (taken wave state w)
  pub floor : (w : ℕ) → w < length wave.workers → state.free w < slots_of wave w
      → state.terms.price w (taken wave state w - 1) ≤ state.depth (Worker w)

-- one, where the node is on or under another
abbrev pub one_under : Tree → Option TreeNode → TreeNode → ℕ
one_under tree None v = 0
one_under tree (Some u) v = cond (is_under tree u v) 1 0

-- The slots under each node: those of the units that come from above, of the splits that stand there, and the
-- free ones. Under a hole there is one more, which nobody has.
pub record IsBalancedBut (wave : Wave) (state : State) (hole : Option TreeNode) : Type 0 where
  pub size : length state.places ≡ length wave.splits
  pub top : state.flow Cluster ≡ 0
  pub each : (v : TreeNode) → state.flow v + standing_under wave state v + sum_under wave v state.free
      + one_under wave.tree hole v ≡ sum_under wave v (slots_of wave)

pub record IsKeptBut (wave : Wave) (state : State) (hole : Option TreeNode) : Type 0 where
  pub cheapest : AreCheapest wave state
  pub level : AreLevel wave state
  pub balanced : IsBalancedBut wave state hole
  pub fair : AreFair wave state.terms

abbrev pub IsKept : Wave → State → Type 0
IsKept wave state = IsKeptBut wave state None
