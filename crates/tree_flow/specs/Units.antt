-- Where the units at a node go on.
use Rattle.std.specs.Prelude.{ℕ, ◌≡◌, ◌+◌, ◌<◌, ◌⊎◌, length, List, Option, Some, None}
use Rattle.wave_problem.specs.Wave.{Wave}
use Rattle.tree_flow.specs.declared.nodes.TreeNode.{TreeNode}
use Rattle.tree_flow.specs.declared.nodes.TreeNode.TheVariants.{Worker}
use Rattle.tree_flow.specs.declared.nodes.End.{End}
use Rattle.tree_flow.specs.declared.nodes.Place.TheVariants.{Stands, Waits}
use Rattle.tree_flow.specs.Nodes.{parent, IsKnown}
use Rattle.tree_flow.specs.State.{State, place_of, IsBalancedBut}
use Rattle.tree_flow.specs.Settled.{HasComeDown, IsHandedDown}
use Rattle.wave_problem.specs.Assignment.{start_of, pairs_of, load}

-- units come to the node, or a split stands there
abbrev pub HasUnit : State → TreeNode → Type 0
HasUnit state v = (0 < state.flow v) ⊎ ((s : ℕ) × (e : End) × (place_of state s ≡ Stands e) × (e.node ≡ v))

-- from a node above the workers a unit goes on to one that hangs from it
abbrev pub UnitGoesOn : Type 0
UnitGoesOn = (wave : Wave) (state : State) (v : TreeNode) → IsKnown wave → IsBalancedBut wave state None
    → ((w : ℕ) → v ≡ Worker w → ⊥) → HasUnit state v
    → (c : TreeNode) × (parent wave.tree c ≡ v) × (0 < state.flow c)

-- no split stands anywhere
abbrev pub NoneStands : State → Type 0
NoneStands state = (s : ℕ) (e : End) → place_of state s ≡ Stands e → ⊥

-- `left` is the state after every split was taken off: its unit was followed down to a worker, whose slot is
-- free again. So each worker has as many more free slots as `starts` puts on it.
pub record IsFollowed (wave : Wave) (state left : State) (starts : List (Option ℕ)) : Type 0 where
  pub size : length starts ≡ length wave.splits
  pub known : (s w : ℕ) → start_of starts s ≡ Some w → w < length wave.workers
  pub spent : NoneStands left
  pub balanced : IsBalancedBut wave left None
  pub free : (w : ℕ) → left.free w ≡ state.free w + load (pairs_of starts) w
  pub started : (s w : ℕ) → start_of starts s ≡ Some w
      → (e : End) × (place_of state s ≡ Stands e) × HasComeDown wave.tree state e.node w
  pub waiting : (s : ℕ) → start_of starts s ≡ None → place_of state s ≡ Waits

-- so all have come down
abbrev pub FollowedDown : Type 0
FollowedDown = (wave : Wave) (state left : State) (starts : List (Option ℕ)) → IsKnown wave
    → IsBalancedBut wave state None → IsFollowed wave state left starts
    → IsHandedDown wave state starts
