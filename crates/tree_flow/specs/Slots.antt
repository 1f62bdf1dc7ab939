-- Slots that come back.
use Rattle.std.specs.Prelude.{ℕ, ◌≡◌, ◌≢◌, ◌+◌, ◌-◌, ◌<◌, ◌≤◌, true, ◌↔◌, List, max, length, Option, Some, All}
use Rattle.wave_problem.specs.declared.lines.WorkerLine.{WorkerLine}
use Rattle.wave_problem.specs.Wave.{Wave}
use Rattle.tree_flow.specs.declared.nodes.TreeNode.{TreeNode}
use Rattle.tree_flow.specs.declared.nodes.TreeNode.TheVariants.{Worker}
use Rattle.tree_flow.specs.declared.nodes.End.{End}
use Rattle.tree_flow.specs.declared.nodes.Place.TheVariants.{Stands, Waits, Unshipped}
use Rattle.tree_flow.specs.Nodes.{parent, is_under, IsEnd, end_cost}
use Rattle.tree_flow.specs.State.{State, place_of, reach_cost, sum_under, slots_of, taken, AreFair}
use Rattle.tree_flow.specs.State.{IsFree, IsKept, IsKeptBut}
use Rattle.tree_flow.specs.Moves.{IsPlaced, IsTaken}

-- a hole at a worker that lies no deeper than its last place costs becomes a free slot
abbrev pub GivesSlot : Type 0
GivesSlot = (wave : Wave) (old new : State) (w : ℕ) → IsKeptBut wave old (Some (Worker w))
    → old.depth (Worker w) ≤ old.terms.price w (taken wave old w - 1) → IsTaken wave new old w → IsKept wave new

-- or a split that waits fills it
abbrev pub Joins : Type 0
Joins = (wave : Wave) (old new : State) (s : ℕ) (x : End) → IsKeptBut wave old (Some x.node)
    → place_of old s ≡ Waits → IsEnd wave s x → reach_cost wave old s x ≡ old.terms.worth
    → IsPlaced old new s (Stands x) → IsKept wave new

-- a node that the units from its parent fill lies as deep as its parent
pub record IsDeepened (wave : Wave) (old new : State) (u : TreeNode) : Type 0 where
  pub full : old.flow u ≡ sum_under wave u (slots_of wave)
  pub terms : new.terms ≡ old.terms
  pub places : new.places ≡ old.places
  pub flow : new.flow ≡ old.flow
  pub free : new.free ≡ old.free
  pub here : new.depth u ≡ max (old.depth u) (old.depth (parent wave.tree u))
  pub others : (v : TreeNode) → v ≢ u → new.depth v ≡ old.depth v

abbrev pub Deepens : Type 0
Deepens = (wave : Wave) (old new : State) (u : TreeNode) (hole : Option TreeNode) → IsKeptBut wave old hole
    → IsDeepened wave old new u → IsKeptBut wave new hole

-- the wave with other lines of its workers
abbrev pub with_workers : Wave → List WorkerLine → Wave
with_workers wave workers = record wave { workers = workers }

-- in these lines one worker can give a slot more, and all else is the same
pub record HasSlotMore (wave : Wave) (workers : List WorkerLine) (w : ℕ) : Type 0 where
  pub known : w < length wave.workers
  pub size : length workers ≡ length wave.workers
  pub ends : (s : ℕ) (e : End) → IsEnd (with_workers wave workers) s e ↔ IsEnd wave s e
  pub here : slots_of wave w + 1 ≡ slots_of (with_workers wave workers) w
  pub others : (x : ℕ) → x ≢ w → slots_of wave x ≡ slots_of (with_workers wave workers) x

-- it is a hole there, where no node above the worker lies higher than its parent
abbrev pub AddsSlot : Type 0
AddsSlot = (wave : Wave) (workers : List WorkerLine) (state : State) (w : ℕ) → IsFree state.terms
    → IsKept wave state
    → HasSlotMore wave workers w
    → ((u : TreeNode) → is_under wave.tree (Worker w) u ≡ true
    → state.depth (parent wave.tree u) ≤ state.depth u)
    → IsKeptBut (with_workers wave workers) state (Some (Worker w))

-- a split is taken off: a hole begins where it stood
abbrev pub TakesOff : Type 0
TakesOff = (wave : Wave) (old new : State) (s : ℕ) (e : End) → IsKept wave old → place_of old s ≡ Stands e
    → IsPlaced old new s Unshipped → IsKeptBut wave new (Some e.node)

-- at a hole a worker can give a slot less
abbrev pub RemovesSlot : Type 0
RemovesSlot = (wave : Wave) (workers : List WorkerLine) (state : State) (w : ℕ) → IsFree state.terms
    → IsKeptBut (with_workers wave workers) state (Some (Worker w))
    → HasSlotMore wave workers w → IsKept wave state

-- another wave of the same tree and slots, in which the splits whose ends or costs are others are not shipped
pub record IsAnother (old new : Wave) (state : State) : Type 0 where
  pub tree : new.tree ≡ old.tree
  pub size : length new.splits ≡ length old.splits
  pub workers : length new.workers ≡ length old.workers
  pub slots : (w : ℕ) → slots_of new w ≡ slots_of old w
  pub others : (s : ℕ) → (place_of state s ≡ Unshipped → ⊥)
      → ((e : End) → end_cost new s e ≡ end_cost old s e) × ((e : End) → IsEnd new s e ↔ IsEnd old s e)

-- holders, bars and pending splits may change so
abbrev pub Changes : Type 0
Changes = (wave other : Wave) (state : State) → IsKept wave state → IsAnother wave other state
    → IsKept other state

-- a state on fair terms in which all slots are free, nothing is shipped, and all lies at 0
pub record IsFresh (wave : Wave) (state : State) : Type 0 where
  pub fair : AreFair wave state.terms
  pub size : length state.places ≡ length wave.splits
  pub places : All (λ place. place ≡ Unshipped) state.places
  pub flow : (v : TreeNode) → state.flow v ≡ 0
  pub depth : (v : TreeNode) → state.depth v ≡ 0
  pub free : (w : ℕ) → state.free w ≡ slots_of wave w

-- it is kept to, where no split but those of the wave is pending
abbrev pub Begins : Type 0
Begins = (wave : Wave) (state : State) → IsFresh wave state → IsKept wave state
