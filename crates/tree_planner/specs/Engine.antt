-- What of a problem is read beside it, and which tables a split may be shipped in.
use Rattle.std.specs.Prelude.{ℕ, ◌≡◌, ◌^◌, ◌<◌, ◌≤◌, length, Option, None}
use Rattle.wave_problem.specs.declared.TheConstants.{MAX_SPLITS}
use Rattle.wave_problem.specs.Wave.{Wave, reward}
use Rattle.tree_planner.specs.declared.engine.Fixed.{Fixed}
use Rattle.tree_flow.specs.declared.node_table.NodeTable.{NodeTable}
use Rattle.tree_flow.specs.declared.nodes.TreeNode.{TreeNode}
use Rattle.tree_planner.specs.declared.tables.Tables.{Tables}
use Rattle.tree_planner.specs.Ends.{AreEnds}
use Rattle.tree_planner.specs.Hanging.{AreChildren}
use Rattle.tree_flow.specs.Nodes.{AreNodes, IsKnown}
use Rattle.tree_flow.specs.State.{State, slots_of, sum_under, IsFree, IsKept, IsKeptBut}
use Rattle.tree_flow.specs.Table.{at_node, IsOver}
use Rattle.tree_planner.specs.View.{state_of, AreTables}

-- the nodes of the tree, the nodes that hang from each, the ends of the splits, the slots under each node
-- and the reward, of a wave within its limits
pub record IsFixed (wave : Wave) (fixed : Fixed) : Type 0 where
  pub known : IsKnown wave
  pub small : reward wave < 2 ^ 54
  pub few : length wave.splits ≤ MAX_SPLITS
  pub nodes : AreNodes wave.tree fixed.nodes.items
  pub children : AreChildren wave.tree fixed.children
  pub ends : AreEnds wave fixed.ends
  pub worth : fixed.reward ≡ reward wave
  pub over : IsOver wave.tree fixed.slots
  pub slots : (v : TreeNode) → at_node fixed.slots v ≡ sum_under wave v (slots_of wave)

-- the tables show a state that is kept to, in which no node lies deeper than a start is worth
pub record IsHeld (wave : Wave) (t : Tables) : Type 0 where
  pub tables : AreTables wave t
  pub small : t.worth < 2 ^ 60
  pub low : (v : TreeNode) → at_node t.depth v ≤ t.worth
  pub kept : IsKept wave (state_of t)

-- the tables show a state that is kept to but for a hole, where all places are free and a start is worth the
-- reward; no node lies deeper than that
pub record IsStandingBut (wave : Wave) (t : Tables) (hole : Option TreeNode) : Type 0 where
  pub plain : IsFree (state_of t).terms
  pub worth : t.worth ≡ reward wave
  pub tables : AreTables wave t
  pub low : (v : TreeNode) → at_node t.depth v ≤ reward wave
  pub kept : IsKeptBut wave (state_of t) hole

abbrev pub IsStanding : Wave → Tables → Type 0
IsStanding wave t = IsStandingBut wave t None

-- a state with the depths of a table
abbrev pub with_depth : State → NodeTable ℕ → State
with_depth state depth = record state { depth = λ v. at_node depth v }
