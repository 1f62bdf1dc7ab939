-- Steps from state to state that keep what every state keeps to.
use Rattle.std.specs.Prelude.{ℕ, ◌≡◌, ◌≢◌, ◌+◌, ◌-◌, ◌<◌, ◌≤◌, min, length, slice_set, Option, Some}
use Rattle.wave_problem.specs.Wave.{Wave}
use Rattle.tree_flow.specs.declared.nodes.TreeNode.{TreeNode}
use Rattle.tree_flow.specs.declared.nodes.TreeNode.TheVariants.{Worker, Cluster}
use Rattle.tree_flow.specs.declared.nodes.End.{End}
use Rattle.tree_flow.specs.declared.nodes.Place.{Place}
use Rattle.tree_flow.specs.declared.nodes.Place.TheVariants.{Stands, Waits, Unshipped}
use Rattle.tree_flow.specs.Nodes.{parent, IsEnd}
use Rattle.tree_flow.specs.State.{State, place_of, reach_cost, sum_under}
use Rattle.tree_flow.specs.State.{slots_of, taken, IsFree, IsKept, IsKeptBut}

-- the units that come to one node have changed, and nothing else
pub record IsFlowSet (old new : State) (c : TreeNode) (units : ℕ) : Type 0 where
  pub terms : new.terms ≡ old.terms
  pub places : new.places ≡ old.places
  pub depth : new.depth ≡ old.depth
  pub free : new.free ≡ old.free
  pub here : new.flow c ≡ units
  pub others : (v : TreeNode) → v ≢ c → new.flow v ≡ old.flow v

-- the place of one split has changed, and nothing else
pub record IsPlaced (old new : State) (s : ℕ) (place : Place) : Type 0 where
  pub known : s < length old.places
  pub terms : new.terms ≡ old.terms
  pub places : new.places ≡ slice_set old.places s place
  pub flow : new.flow ≡ old.flow
  pub depth : new.depth ≡ old.depth
  pub free : new.free ≡ old.free

-- a worker has one free slot less
pub record IsTaken (wave : Wave) (old new : State) (w : ℕ) : Type 0 where
  pub known : w < length wave.workers
  pub terms : new.terms ≡ old.terms
  pub places : new.places ≡ old.places
  pub flow : new.flow ≡ old.flow
  pub depth : new.depth ≡ old.depth
  pub here : new.free w + 1 ≡ old.free w
  pub others : (x : ℕ) → x ≢ w → new.free x ≡ old.free x

-- one unit more goes down to c, or up from it, where that costs nothing: a hole moves the other way
abbrev pub PushesDown : Type 0
PushesDown = (wave : Wave) (old new : State) (c : TreeNode) → IsKeptBut wave old (Some c)
    → c ≢ Cluster → old.depth (parent wave.tree c) ≡ old.depth c → IsFlowSet old new c (old.flow c + 1)
    → IsKeptBut wave new (Some (parent wave.tree c))

abbrev pub PushesUp : Type 0
PushesUp = (wave : Wave) (old new : State) (c : TreeNode)
    → IsKeptBut wave old (Some (parent wave.tree c))
    → c ≢ Cluster → old.depth (parent wave.tree c) ≡ old.depth c → 0 < old.flow c
    → IsFlowSet old new c (old.flow c - 1) → IsKeptBut wave new (Some c)

-- a split goes from one end to another as cheap
abbrev pub HandsOver : Type 0
HandsOver = (wave : Wave) (old new : State) (s : ℕ) (e x : End) → IsKeptBut wave old (Some x.node)
    → place_of old s ≡ Stands e → IsEnd wave s x → reach_cost wave old s x ≡ reach_cost wave old s e
    → IsPlaced old new s (Stands x) → IsKeptBut wave new (Some e.node)

-- a split waits, where that is as cheap: a hole begins
abbrev pub SendsOff : Type 0
SendsOff = (wave : Wave) (old new : State) (s : ℕ) (e : End) → IsKept wave old
    → place_of old s ≡ Stands e → reach_cost wave old s e ≡ old.terms.worth
    → IsPlaced old new s Waits → IsKeptBut wave new (Some e.node)

-- or a free slot is taken, of a worker that lies as deep as its next place costs
abbrev pub TakesSlot : Type 0
TakesSlot = (wave : Wave) (old new : State) (w : ℕ) → IsKept wave old → IsTaken wave old new w
    → old.terms.price w (taken wave old w) ≤ old.depth (Worker w)
    → IsKeptBut wave new (Some (Worker w))

-- a split that was not shipped fills the hole
abbrev pub Ships : Type 0
Ships = (wave : Wave) (old new : State) (s : ℕ) (x : End) → IsKeptBut wave old (Some x.node)
    → place_of old s ≡ Unshipped → IsEnd wave s x
    → ((y : End) → IsEnd wave s y → reach_cost wave old s x ≤ reach_cost wave old s y)
    → reach_cost wave old s x ≤ old.terms.worth
    → IsPlaced old new s (Stands x) → IsKept wave new

-- or waits at once
abbrev pub LetsWait : Type 0
LetsWait = (wave : Wave) (old new : State) (s : ℕ) → IsKept wave old → place_of old s ≡ Unshipped
    → ((y : End) → IsEnd wave s y → old.terms.worth ≤ reach_cost wave old s y)
    → IsPlaced old new s Waits → IsKept wave new

-- distances forward, as far as a bound: no step leads to a node nearer than it can be
pub record AreDistances (wave : Wave) (state : State) (far : TreeNode → ℕ) (bound : ℕ) : Type 0 where
  pub down : (v : TreeNode) → state.flow v < sum_under wave v (slots_of wave)
      → min bound (far v) + state.depth (parent wave.tree v) ≤ far (parent wave.tree v) + state.depth v
  pub up : (v : TreeNode) → 0 < state.flow v
      → min bound (far (parent wave.tree v)) + state.depth v ≤ far v + state.depth (parent wave.tree v)
  pub over : (s : ℕ) (e x : End) → place_of state s ≡ Stands e → IsEnd wave s x
      → min bound (far x.node) + reach_cost wave state s e ≤ far e.node + reach_cost wave state s x
  pub out : (s : ℕ) (e : End) → place_of state s ≡ Stands e
      → bound + reach_cost wave state s e ≤ far e.node + state.terms.worth
  pub bottom : (w : ℕ) → w < length wave.workers → 0 < state.free w
      → bound + state.depth (Worker w) ≤ far (Worker w) + state.terms.price w (taken wave state w)

-- each node nearer than the bound lies deeper by the rest
pub record IsRaised (old new : State) (far : TreeNode → ℕ) (bound : ℕ) : Type 0 where
  pub terms : new.terms ≡ old.terms
  pub places : new.places ≡ old.places
  pub flow : new.flow ≡ old.flow
  pub free : new.free ≡ old.free
  pub depth : (v : TreeNode) → new.depth v ≡ old.depth v + (bound - far v)

abbrev pub Raises : Type 0
Raises = (wave : Wave) (old new : State) (far : TreeNode → ℕ) (bound : ℕ) (hole : Option TreeNode)
    → IsKeptBut wave old hole → AreDistances wave old far bound → IsRaised old new far bound
    → IsKeptBut wave new hole

-- distances backward, to where a slot is given back
pub record AreDistancesBack (wave : Wave) (state : State) (far : TreeNode → ℕ) (bound : ℕ) : Type 0 where
  pub down : (v : TreeNode) → state.flow v < sum_under wave v (slots_of wave)
      → min bound (far (parent wave.tree v)) + state.depth (parent wave.tree v) ≤ far v + state.depth v
  pub up : (v : TreeNode) → 0 < state.flow v
      → min bound (far v) + state.depth v ≤ far (parent wave.tree v) + state.depth (parent wave.tree v)
  pub over : (s : ℕ) (e x : End) → place_of state s ≡ Stands e → IsEnd wave s x
      → min bound (far e.node) + reach_cost wave state s e ≤ far x.node + reach_cost wave state s x
  pub waits : (s : ℕ) (x : End) → place_of state s ≡ Waits → IsEnd wave s x
      → bound + state.terms.worth ≤ far x.node + reach_cost wave state s x
  pub low : (v : TreeNode) → bound ≤ far v + state.depth v

pub record IsLowered (old new : State) (far : TreeNode → ℕ) (bound : ℕ) : Type 0 where
  pub terms : new.terms ≡ old.terms
  pub places : new.places ≡ old.places
  pub flow : new.flow ≡ old.flow
  pub free : new.free ≡ old.free
  pub depth : (v : TreeNode) → new.depth v ≡ old.depth v - (bound - far v)

abbrev pub Lowers : Type 0
Lowers = (wave : Wave) (old new : State) (far : TreeNode → ℕ) (bound : ℕ) (hole : Option TreeNode)
    → IsFree old.terms → IsKeptBut wave old hole → AreDistancesBack wave old far bound → IsLowered old new far bound
    → IsKeptBut wave new hole

-- where each node nearer than the bound has been looked from: no step out of it leads to a node nearer than far
-- says
pub record IsLookedFrom (wave : Wave) (state : State) (far : TreeNode → ℕ) (bound : ℕ) (u : TreeNode) : Type 0 where
  pub down : (v : TreeNode) → parent wave.tree v ≡ u → state.flow v < sum_under wave v (slots_of wave)
      → min bound (far v) + state.depth u ≤ far u + state.depth v
  pub up : 0 < state.flow u
      → min bound (far (parent wave.tree u)) + state.depth u ≤ far u + state.depth (parent wave.tree u)
  pub over : (s : ℕ) (e x : End) → place_of state s ≡ Stands e → e.node ≡ u → IsEnd wave s x
      → min bound (far x.node) + reach_cost wave state s e ≤ far u + reach_cost wave state s x
  pub out : (s : ℕ) (e : End) → place_of state s ≡ Stands e → e.node ≡ u
      → bound + reach_cost wave state s e ≤ far u + state.terms.worth
  pub bottom : (w : ℕ) → w < length wave.workers → u ≡ Worker w → 0 < state.free w
      → bound + state.depth u ≤ far u + state.terms.price w (taken wave state w)

-- then they are distances, whatever the search left unlooked at
abbrev pub SearchEnds : Type 0
SearchEnds = (wave : Wave) (state : State) (far : TreeNode → ℕ) (bound : ℕ) (hole : Option TreeNode)
    → IsKeptBut wave state hole
    → ((u : TreeNode) → far u < bound → IsLookedFrom wave state far bound u) → AreDistances wave state far bound

-- backward: no step into the node comes from one nearer than far says, nor from a split that waits nearer than the
-- bound, and its own depth is enough
pub record IsLookedTo (wave : Wave) (state : State) (far : TreeNode → ℕ) (bound : ℕ) (u : TreeNode) : Type 0 where
  pub down : state.flow u < sum_under wave u (slots_of wave)
      → min bound (far (parent wave.tree u)) + state.depth (parent wave.tree u) ≤ far u + state.depth u
  pub up : (v : TreeNode) → parent wave.tree v ≡ u → 0 < state.flow v
      → min bound (far v) + state.depth v ≤ far u + state.depth u
  pub over : (s : ℕ) (e x : End) → place_of state s ≡ Stands e → IsEnd wave s x → x.node ≡ u
      → min bound (far e.node) + reach_cost wave state s e ≤ far u + reach_cost wave state s x
  pub waits : (s : ℕ) (x : End) → place_of state s ≡ Waits → IsEnd wave s x → x.node ≡ u
      → bound + state.terms.worth ≤ far u + reach_cost wave state s x
  pub low : bound ≤ far u + state.depth u

abbrev pub SearchBackEnds : Type 0
SearchBackEnds = (wave : Wave) (state : State) (far : TreeNode → ℕ) (bound : ℕ) (hole : Option TreeNode)
    → IsKeptBut wave state hole
    → ((u : TreeNode) → far u < bound → IsLookedTo wave state far bound u) → AreDistancesBack wave state far bound

-- no node has to lie deeper than a start is worth
pub record IsCapped (wave : Wave) (old new : State) : Type 0 where
  pub terms : new.terms ≡ old.terms
  pub places : new.places ≡ old.places
  pub flow : new.flow ≡ old.flow
  pub free : new.free ≡ old.free
  pub depth : (v : TreeNode) → new.depth v ≡ min old.terms.worth (old.depth v)

abbrev pub Caps : Type 0
Caps = (wave : Wave) (old new : State) (hole : Option TreeNode) → IsKeptBut wave old hole
    → IsCapped wave old new → IsKeptBut wave new hole
