-- How units are handed down, split by split.
use Rattle.std.specs.Prelude.{ℕ, ◌≡◌, ◌+◌, ◌<◌, ◌≤◌, ◌==◌, cond, List, length, Option, Some, None, slice_set}
use Rattle.std.specs.Prelude.{All, Contains, IfSome}
use Rattle.std.specs.List.{AllPairs}
use Rattle.wave_problem.specs.Wave.{Wave}
use Rattle.wave_problem.specs.Assignment.{load, pairs_of, start_of}
use Rattle.tree_flow.specs.declared.node_table.NodeTable.{NodeTable}
use Rattle.tree_flow.specs.declared.nodes.End.{End}
use Rattle.tree_flow.specs.declared.nodes.Place.TheVariants.{Stands, Unshipped, Waits}
use Rattle.tree_flow.specs.declared.nodes.TreeNode.{TreeNode}
use Rattle.tree_flow.specs.Settled.{HasComeDown, IsHandedDown}
use Rattle.tree_flow.specs.State.{State, place_of, IsBalancedBut}
use Rattle.tree_flow.specs.Table.{at_node}

-- a split stands on the node, in a balanced state in which so many units are left to each node
pub record IsUnitAt (wave : Wave) (left : NodeTable ℕ) (v : TreeNode) (now : State) (s : ℕ) (e : End) : Type 0 where
  pub flow : (u : TreeNode) → now.flow u ≡ at_node left u
  pub balanced : IsBalancedBut wave now None
  pub known : s < length now.places
  pub stands : place_of now s ≡ Stands e
  pub at : e.node ≡ v

abbrev pub HasUnitAt : Wave → NodeTable ℕ → TreeNode → Type 0
HasUnitAt wave left v = (now : State) × (s : ℕ) × (e : End) × IsUnitAt wave left v now s e

-- the state after it was taken off, with a free slot of the worker to which its unit went
abbrev pub landed : State → ℕ → ℕ → NodeTable ℕ → State
landed now s w left = record now {
  places = slice_set now.places s Unshipped;
  flow = λ v. at_node left v;
  free = λ x. now.free x + cond (w == x) 1 0;
}

-- the first splits have their starts; in what is left none of them stands, and their slots are free
pub record IsHandedTo (wave : Wave) (state : State) (left : NodeTable ℕ) (starts : List (Option ℕ)) : Type 0 where
  pub now : State
  pub flow : (v : TreeNode) → now.flow v ≡ at_node left v
  pub balanced : IsBalancedBut wave now None
  pub gone : (s : ℕ) (e : End) → s < length starts → place_of now s ≡ Stands e → ⊥
  pub later : (s : ℕ) → length starts ≤ s → place_of now s ≡ place_of state s
  pub fell : (v : TreeNode) → at_node left v ≤ state.flow v
  pub free : (w : ℕ) → now.free w ≡ state.free w + load (pairs_of starts) w
  pub started : (s w : ℕ) → start_of starts s ≡ Some w → (w < length wave.workers)
      × ((e : End) × (place_of state s ≡ Stands e) × HasComeDown wave.tree state e.node w)
  pub waiting : (s : ℕ) → s < length starts → start_of starts s ≡ None → place_of state s ≡ Waits

-- a split stands at some end
abbrev pub HasStand : State → ℕ → Type 0
HasStand state s = (e : End) × (place_of state s ≡ Stands e)

-- these splits stand, each once, by rising number, and no others
pub record AreStanding (state : State) (splits : List ℕ) : Type 0 where
  pub rise : AllPairs (λ s t. s < t) splits
  pub each : All (HasStand state) splits
  pub all : (s : ℕ) → HasStand state s → Contains splits s

-- a plan of the wave makes just these starts, by rising split
pub record ArePlanned (wave : Wave) (pairs : List (ℕ × ℕ)) : Type 0 where
  pub starts : List (Option ℕ)
  pub made : pairs_of starts ≡ pairs
  pub size : length starts ≡ length wave.splits
  pub known : All (λ start. IfSome start (λ w. w < length wave.workers)) starts

-- and to these workers the units of the splits that stand go down
pub record AreHandedDown (wave : Wave) (state : State) (pairs : List (ℕ × ℕ)) : Type 0 where
  pub planned : ArePlanned wave pairs
  pub down : IsHandedDown wave state planned.starts
