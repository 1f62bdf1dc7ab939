-- What a search back from a hole keeps to, and what it finds: to which nodes the hole can move, and at what
-- cost.
use Rattle.std.specs.Prelude.{ℕ, ◌≡◌, ◌≢◌, ◌+◌, ◌^◌, ◌<◌, ◌≤◌, ◌⊎◌, min, Option, Some, None, MatchOption}
use Rattle.std.specs.Prelude.{[], vec_capacity}
use Rattle.rack_tree.specs.Tree.{Tree}
use Rattle.wave_problem.specs.Wave.{Wave}
use Rattle.tree_flow.specs.declared.nodes.End.{End}
use Rattle.tree_flow.specs.declared.nodes.Place.TheVariants.{Stands, Waits}
use Rattle.tree_flow.specs.declared.nodes.TreeNode.{TreeNode}
use Rattle.tree_flow.specs.declared.nodes.TreeNode.TheVariants.{Cluster}
use Rattle.tree_planner.specs.declared.back.Hollow.{Hollow}
use Rattle.tree_planner.specs.declared.back.Rest.{Rest}
use Rattle.tree_planner.specs.declared.back.Rest.TheVariants.{Free, Join}
use Rattle.tree_planner.specs.declared.back.SearchBack.{SearchBack}
use Rattle.tree_planner.specs.declared.back.StepBack.{StepBack}
use Rattle.tree_planner.specs.declared.back.StepBack.TheVariants.{Start, Rise, Sink, Over}
use Rattle.tree_planner.specs.Engine.{IsFixed, IsStandingBut}
use Rattle.tree_planner.specs.Reaching.{node_count, IsRow}
use Rattle.tree_flow.specs.Moves.{IsLookedTo}
use Rattle.tree_flow.specs.Nodes.{parent, IsEnd, IsNode}
use Rattle.tree_flow.specs.State.{State, place_of, reach_cost, slots_of, sum_under}
use Rattle.tree_flow.specs.Table.{at_or, IsOver}
use Rattle.tree_planner.specs.View.{state_of}

abbrev pub wave_of : Hollow → Wave
wave_of h = h.problem.now

abbrev pub state_at : Hollow → State
state_at h = state_of h.tables.now

-- what a search back stands on: a state that is kept to but for a hole
pub record IsHollow (h : Hollow) : Type 0 where
  pub fixed : IsFixed (wave_of h) h.fixed.now
  pub known : IsNode (wave_of h).tree h.hole
  pub standing : IsStandingBut (wave_of h) h.tables.now (Some h.hole)

-- how far a node is at most: as the search reached it, or 2 ^ 60, a distance past all ways
abbrev pub far_at : SearchBack → TreeNode → ℕ
far_at search v = at_or search.far (2 ^ 60) v

-- as which one it was looked from, from 1, or 0 if it was not yet
abbrev pub order_at : SearchBack → TreeNode → ℕ
order_at search v = at_or search.order 0 v

-- how the hole comes to it
abbrev pub step_at : SearchBack → TreeNode → StepBack
step_at search v = at_or search.how Start v

-- the first was looked from, before the second was
abbrev pub IsBefore : SearchBack → TreeNode → TreeNode → Type 0
IsBefore search u x = (0 < order_at search u) × ((order_at search x ≡ 0) ⊎
    (order_at search u < order_at search x))

-- the hole rises to the node from c: a unit more goes down to c
pub record GoesUp (h : Hollow) (search : SearchBack) (x : TreeNode) (distance : ℕ)
    (c : TreeNode) : Type 0 where
  pub known : IsNode (wave_of h).tree c
  pub hangs : c ≢ Cluster
  pub above : parent (wave_of h).tree c ≡ x
  pub before : IsBefore search c x
  pub room : (state_at h).flow c < sum_under (wave_of h) c (slots_of (wave_of h))
  pub cost : far_at search c + (state_at h).depth c ≤ distance + (state_at h).depth x

-- the hole sinks to the node from its parent: a unit less goes down to it
pub record GoesDown (h : Hollow) (search : SearchBack) (x : TreeNode) (distance : ℕ) : Type 0 where
  pub hangs : x ≢ Cluster
  pub before : IsBefore search (parent (wave_of h).tree x) x
  pub some : 0 < (state_at h).flow x
  pub cost : far_at search (parent (wave_of h).tree x) + (state_at h).depth (parent (wave_of h).tree x)
      ≤ distance + (state_at h).depth x

-- the split t, which stands on the node, goes over to another end, where the hole is
pub record GoesOver (h : Hollow) (search : SearchBack) (x : TreeNode) (distance t : ℕ)
    (to : End) : Type 0 where
  pub from : End
  pub stands : place_of (state_at h) t ≡ Stands from
  pub at : from.node ≡ x
  pub is_end : IsEnd (wave_of h) t to
  pub before : IsBefore search to.node x
  pub cost : far_at search to.node + reach_cost (wave_of h) (state_at h) t to
      ≤ distance + reach_cost (wave_of h) (state_at h) t from

-- a step brings the hole to a node, at no more than this distance
abbrev pub LeadsTo : Hollow → SearchBack → TreeNode → ℕ → StepBack → Type 0
LeadsTo h search x distance Start = x ≡ h.hole
LeadsTo h search x distance (Rise c) = GoesUp h search x distance c
LeadsTo h search x distance Sink = GoesDown h search x distance
LeadsTo h search x distance (Over t to) = GoesOver h search x distance t to

-- units stay where they are, and a slot under the node becomes free, at no more than the bound
pub record EndsFree (h : Hollow) (search : SearchBack) (bound : ℕ) (v : TreeNode) : Type 0 where
  pub known : IsNode (wave_of h).tree v
  pub reached : far_at search v < 2 ^ 60
  pub settled : 0 < order_at search v
  pub near : far_at search v + (state_at h).depth v ≤ bound

-- a split that waits takes the hole, at no more than the bound
pub record EndsJoined (h : Hollow) (search : SearchBack) (bound t : ℕ) (to : End) : Type 0 where
  pub waits : place_of (state_at h) t ≡ Waits
  pub is_end : IsEnd (wave_of h) t to
  pub reached : far_at search to.node < 2 ^ 60
  pub settled : 0 < order_at search to.node
  pub near : far_at search to.node + reach_cost (wave_of h) (state_at h) t to
      ≤ bound + (state_at h).terms.worth

-- a way of the hole ends there, at no more than the bound
abbrev pub EndsIn : Hollow → SearchBack → ℕ → Rest → Type 0
EndsIn h search bound (Free v) = EndsFree h search bound v
EndsIn h search bound (Join t to) = EndsJoined h search bound t to

-- its tables have the nodes of the tree, and its row has room for all of them
pub record HasTables (tree : Tree) (search : SearchBack) : Type 0 where
  pub far : IsOver tree search.far
  pub how : IsOver tree search.how
  pub order : IsOver tree search.order
  pub room : node_count tree ≤ vec_capacity search.reached

-- a search back that has reached no node
pub record IsBlank (tree : Tree) (search : SearchBack) : Type 0 where
  pub tables : HasTables tree search
  pub row : search.reached.items ≡ []
  pub away : (v : TreeNode) → far_at search v ≡ 2 ^ 60
  pub none : (v : TreeNode) → order_at search v ≡ 0

-- and that may go as far as any way
pub record IsUnused (wave : Wave) (search : SearchBack) : Type 0 where
  pub blank : IsBlank wave.tree search
  pub bound : search.bound ≡ 2 ^ 60
  pub looked : search.looked ≡ 0

-- the reached nodes stand in its row, and it has looked from no other node
pub record HasReached (tree : Tree) (search : SearchBack) : Type 0 where
  pub row : IsRow tree (far_at search) search.reached.items
  pub looked : (v : TreeNode) → 0 < order_at search v → far_at search v < 2 ^ 60

-- what a search back keeps to
pub record IsSearching (h : Hollow) (search : SearchBack) : Type 0 where
  pub tables : HasTables (wave_of h).tree search
  pub reached : HasReached (wave_of h).tree search
  pub bound : search.bound ≤ 2 ^ 60
  pub most : (v : TreeNode) → far_at search v ≤ 2 ^ 60
  pub few : (v : TreeNode) → order_at search v ≤ search.looked
  pub start : far_at search h.hole ≡ 0
  pub steps : (v : TreeNode) → far_at search v < 2 ^ 60
      → LeadsTo h search v (far_at search v) (step_at search v)
  pub level : (u v : TreeNode) → 0 < order_at search u → order_at search v ≡ 0
      → far_at search u ≤ far_at search v
  pub goal : search.bound < 2 ^ 60 → EndsIn h search search.bound search.goal

-- the node has been looked from
abbrev pub HasLookedFrom : Hollow → SearchBack → TreeNode → Type 0
HasLookedFrom h search u = IsLookedTo (wave_of h) (state_at h) (far_at search) search.bound u

-- nodes that were not looked from may have come nearer, and the end
pub record IsNearer (old new : SearchBack) : Type 0 where
  pub bound : new.bound ≤ old.bound
  pub far : (v : TreeNode) → far_at new v ≤ far_at old v
  pub settled : (u : TreeNode) → 0 < order_at old u → far_at new u ≡ far_at old u

-- and nothing else
pub record Improves (old new : SearchBack) : Type 0 where
  pub nearer : IsNearer old new
  pub looked : new.looked ≡ old.looked
  pub order : new.order ≡ old.order

-- the search looks from this node, and no other that it has looked from is farther
pub record IsAt (search : SearchBack) (c : TreeNode) : Type 0 where
  pub settled : 0 < order_at search c
  pub reached : far_at search c < 2 ^ 60
  pub last : (u : TreeNode) → 0 < order_at search u → far_at search u ≤ far_at search c

-- what a search back finds: it has looked from each node nearer than the end
pub record IsSearched (h : Hollow) (search : SearchBack) : Type 0 where
  pub searching : IsSearching h search
  pub looked : (u : TreeNode) → far_at search u < search.bound → HasLookedFrom h search u

-- the nearest node that was not looked from, nearer than the bound
pub record IsNearest (h : Hollow) (search : SearchBack) (c : TreeNode) : Type 0 where
  pub known : IsNode (wave_of h).tree c
  pub fresh : order_at search c ≡ 0
  pub near : far_at search c < search.bound
  pub least : (v : TreeNode) → order_at search v ≡ 0 → far_at search c ≤ far_at search v

-- a node that may be looked from next, if any
abbrev pub IsFresh : Hollow → SearchBack → Option TreeNode → Type 0
IsFresh h search best = MatchOption best (Unit {0})
    (λ c. IsNode (wave_of h).tree c × (order_at search c ≡ 0) × (far_at search c < search.bound))

-- how far it is, or how far the end is
abbrev pub far_of : SearchBack → Option TreeNode → ℕ
far_of search None = search.bound
far_of search (Some c) = far_at search c

-- c was looked from next
pub record Settles (old new : SearchBack) (c : TreeNode) : Type 0 where
  pub nearer : IsNearer old new
  pub looked : new.looked ≡ old.looked + 1
  pub here : order_at new c ≡ old.looked + 1
  pub others : (v : TreeNode) → v ≢ c → order_at new v ≡ order_at old v

-- the step from c down to v was taken
abbrev pub IsDown : Hollow → SearchBack → TreeNode → TreeNode → Type 0
IsDown h search c v = parent (wave_of h).tree v ≡ c → 0 < (state_at h).flow v
    → min search.bound (far_at search v) + (state_at h).depth v ≤ far_at search c + (state_at h).depth c

-- the step of t to its end x was taken back, where that is at c
pub record IsInto (h : Hollow) (search : SearchBack) (c : TreeNode) (t : ℕ) (x : End) : Type 0 where
  pub over : (e : End) → place_of (state_at h) t ≡ Stands e → x.node ≡ c
      → min search.bound (far_at search e.node) + reach_cost (wave_of h) (state_at h) t e
      ≤ far_at search c + reach_cost (wave_of h) (state_at h) t x
  pub waits : place_of (state_at h) t ≡ Waits → x.node ≡ c
      → search.bound + (state_at h).terms.worth ≤ far_at search c + reach_cost (wave_of h) (state_at h) t x

-- so it is with all ends of t
abbrev pub AreInto : Hollow → SearchBack → TreeNode → ℕ → Type 0
AreInto h search c t = (x : End) → IsEnd (wave_of h) t x → IsInto h search c t x
