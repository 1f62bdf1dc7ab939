-- What is cheapest for a split, as far as its ends show it.
use Rattle.std.specs.Prelude.{ℕ, ◌≡◌, ◌<◌, ◌≤◌, IfSome}
use Rattle.wave_problem.specs.Wave.{Wave}
use Rattle.tree_flow.specs.declared.nodes.End.{End}
use Rattle.tree_flow.specs.Nodes.{IsEnd}
use Rattle.tree_flow.specs.State.{State, reach_cost, sum_under}
use Rattle.tree_planner.specs.declared.choice.Cheapest.{Cheapest}
use Rattle.tree_planner.specs.declared.choice.Choice.{Choice}
use Rattle.tree_planner.specs.declared.choice.Choice.TheVariants.{Wait, Stand, Search}
use Rattle.tree_planner.specs.declared.search.Ground.{Ground}
use Rattle.tree_planner.specs.Searching.{state_at, wave_of, worth_at}
use Rattle.tree_planner.specs.Way.{AreCheap, StartsTight}

-- an end of the split of this cost, with a free slot under it
pub record IsOpen (wave : Wave) (state : State) (s least : ℕ) (e : End) : Type 0 where
  pub is_end : IsEnd wave s e
  pub cost : reach_cost wave state s e ≡ least
  pub free : 0 < sum_under wave e.node state.free
  pub cheap : AreCheap wave state e.node

pub record IsCheapest (g : Ground) (s : ℕ) (best : Cheapest) : Type 0 where
  pub most : best.least ≤ worth_at g
  pub end : IfSome best.end (λ e. IsOpen (wave_of g) (state_at g) s best.least e)

-- no more than another, and than what the end costs
pub record IsBetter (g : Ground) (s : ℕ) (best : Cheapest) (e : End) (next : Cheapest) : Type 0 where
  pub before : next.least ≤ best.least
  pub here : next.least ≤ reach_cost (wave_of g) (state_at g) s e

-- none of its ends costs less than this, nor does waiting
pub record IsLeast (wave : Wave) (state : State) (s least : ℕ) : Type 0 where
  pub most : least ≤ state.terms.worth
  pub ends : (x : End) → IsEnd wave s x → least ≤ reach_cost wave state s x

-- the split may wait, or stand at an end with a free slot under it: nothing is cheaper
abbrev pub IsChoice : Wave → State → ℕ → Choice → Type 0
IsChoice wave state s Wait = (x : End) → IsEnd wave s x → state.terms.worth ≤ reach_cost wave state s x
IsChoice wave state s (Stand e) = StartsTight wave state s e × (0 < sum_under wave e.node state.free)
    × AreCheap wave state e.node
IsChoice wave state s (Search least) = IsLeast wave state s least
