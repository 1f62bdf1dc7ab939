-- What each split would pay at least at another node than its own, two racks left out.
use Rattle.std.specs.Prelude.{ℕ, ◌≡◌, ◌⊎◌, ◌^◌, ◌≤◌, slice_index_or}
use Rattle.wave_problem.specs.Wave.{Wave}
use Rattle.tree_flow.specs.declared.nodes.End.{End}
use Rattle.tree_flow.specs.declared.nodes.TreeNode.{TreeNode}
use Rattle.tree_flow.specs.declared.nodes.TreeNode.TheVariants.{Rack, Cluster}
use Rattle.tree_flow.specs.Nodes.{IsEnd}
use Rattle.tree_flow.specs.State.{State, reach_cost}
use Rattle.tree_planner.specs.declared.lows.Low.{Low}
use Rattle.tree_planner.specs.declared.lows.Lows.{Lows}
use Rattle.tree_planner.specs.declared.lows.Spared.{Spared}

-- a low that says nothing
abbrev pub no_low : Low
no_low = record { spared = record { node = Cluster; one = 0; two = 0 }; least = 0 }

-- the low of a split
abbrev pub low_at : Lows → ℕ → Low
low_at lows s = slice_index_or lows.each.items s no_low

-- the node is the spared one, or one of the two racks
abbrev pub IsSpared : Spared → TreeNode → Type 0
IsSpared spared v = (v ≡ spared.node) ⊎ ((v ≡ Rack spared.one) ⊎ (v ≡ Rack spared.two))

-- no end of the split costs less that is at a node which is not spared
abbrev pub IsLeastBut : Wave → State → ℕ → Spared → ℕ → Type 0
IsLeastBut wave state s spared least = (x : End) → IsEnd wave s x → (IsSpared spared x.node → ⊥)
    → least ≤ reach_cost wave state s x

-- so says the low; and it is no more than any way goes
pub record IsLow (wave : Wave) (state : State) (s : ℕ) (low : Low) : Type 0 where
  pub least : IsLeastBut wave state s low.spared low.least
  pub most : low.least ≤ 2 ^ 60

abbrev pub AreLow : Wave → State → Lows → Type 0
AreLow wave state lows = (s : ℕ) → IsLow wave state s (low_at lows s)
