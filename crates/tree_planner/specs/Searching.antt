-- What a search for a slot keeps to, and what it finds.
use Rattle.std.specs.Prelude.{ℕ, ◌≡◌, ◌≢◌, ◌+◌, ◌*◌, ◌/◌, ◌^◌, ◌<◌, ◌≤◌, ◌⊎◌, min, true, length}
use Rattle.std.specs.Prelude.{Bool, count_by, nat_lt, slice_index_or}
use Rattle.rack_tree.specs.Tree.{Tree}
use Rattle.wave_problem.specs.declared.TheConstants.{MAX_SPLITS}
use Rattle.wave_problem.specs.Wave.{Wave}
use Rattle.tree_flow.specs.declared.nodes.End.{End}
use Rattle.tree_flow.specs.declared.nodes.Place.TheVariants.{Stands}
use Rattle.tree_flow.specs.declared.nodes.TreeNode.{TreeNode}
use Rattle.tree_flow.specs.declared.nodes.TreeNode.TheVariants.{Cluster, Worker}
use Rattle.tree_planner.specs.declared.nearest.Candidate.{Candidate}
use Rattle.tree_planner.specs.declared.covers.Cover.{Cover}
use Rattle.tree_planner.specs.declared.search.Goal.{Goal}
use Rattle.tree_planner.specs.declared.search.Goal.TheVariants.{Wait, Slot, Off}
use Rattle.tree_planner.specs.declared.search.Ground.{Ground}
use Rattle.tree_planner.specs.declared.over.Leaving.{Leaving}
use Rattle.tree_planner.specs.declared.search.Search.{Search}
use Rattle.tree_planner.specs.declared.search.Step.{Step}
use Rattle.tree_planner.specs.declared.search.Step.TheVariants.{Start, Down, Up, Over}
use Rattle.tree_planner.specs.declared.split_ends.Group.{Group}
use Rattle.tree_planner.specs.Covers.{no_cover, IsOverInner}
use Rattle.tree_planner.specs.Ends.{ends_at, AreEnds, Grouped, IsBarred, IsLeft, IsOf}
use Rattle.tree_planner.specs.Reaching.{floor_in, place_in}
use Rattle.tree_planner.specs.Hanging.{AreChildren}
use Rattle.tree_planner.specs.Lows.{AreLow}
use Rattle.tree_flow.specs.Moves.{IsLookedFrom}
use Rattle.tree_flow.specs.Nodes.{is_under, parent, AreNodes, IsEnd, IsKnown, IsNode}
use Rattle.tree_flow.specs.State.{State, place_of, reach_cost, slots_of, sum_under, taken, IsKept}
use Rattle.tree_flow.specs.Table.{at_node, at_or, IsOver}
use Rattle.tree_planner.specs.View.{state_of, AreTables}

abbrev pub wave_of : Ground → Wave
wave_of g = g.problem.now

abbrev pub state_at : Ground → State
state_at g = state_of g.tables.now

-- what a start is worth
abbrev pub worth_at : Ground → ℕ
worth_at g = (state_at g).terms.worth

-- what a search stands on: a state that is kept to, none of whose nodes lies deeper than a start is worth
pub record IsGround (g : Ground) : Type 0 where
  pub known : IsKnown (wave_of g)
  pub small : worth_at g < 2 ^ 60
  pub few : length (wave_of g).splits ≤ MAX_SPLITS
  pub nodes : AreNodes (wave_of g).tree g.nodes.now
  pub children : AreChildren (wave_of g).tree g.children.now
  pub ends : AreEnds (wave_of g) g.ends.now
  pub worth : g.reward ≡ worth_at g
  pub over : IsOver (wave_of g).tree g.slots.now
  pub slots : (v : TreeNode) → at_node g.slots.now v ≡ sum_under (wave_of g) v (slots_of (wave_of g))
  pub tables : AreTables (wave_of g) g.tables.now
  pub low : (v : TreeNode) → (state_at g).depth v ≤ worth_at g
  pub kept : IsKept (wave_of g) (state_at g)

-- how far a node is at most: as the search came to it, or 2 ^ 60, which is farther than any way goes
abbrev pub far_at : Search → TreeNode → ℕ
far_at search v = at_or search.far (2 ^ 60) v

-- as which one it was looked from, from 1, or 0 if it was not yet
abbrev pub order_at : Search → TreeNode → ℕ
order_at search v = at_or search.order 0 v

-- the node that was come to as the one after k others
abbrev pub reached_at : Search → ℕ → TreeNode
reached_at search k = slice_index_or search.reached.nodes.items k Cluster

-- the place of a node among the nodes that were come to
abbrev pub place_at : Search → TreeNode → ℕ
place_at search v = place_in search.reached v

-- the floor of the block of this place
abbrev pub floor_at : Search → ℕ → ℕ
floor_at search place = floor_in search.reached (place / 32)

-- what is known of the nodes that hang from a node
abbrev pub cover_at : Search → TreeNode → Cover
cover_at search u = at_or search.covers no_cover u

-- a node that the groups leave out
abbrev pub IsOutBy : Ground → Grouped → TreeNode → Type 0
IsOutBy g ends = IsBarred (wave_of g).tree ends.barred

-- a node that the groups of the split leave out
abbrev pub IsOut : Ground → ℕ → TreeNode → Type 0
IsOut g s = IsOutBy g (ends_at g.ends.now s)

-- what is of the group is an end of the split
abbrev pub AreOf : Ground → ℕ → (TreeNode → Type 0) → Group → Type 0
AreOf g s Out group = (x : End) → IsOf (wave_of g).tree Out group x → IsEnd (wave_of g) s x

-- whether it was come to
abbrev pub has_come : Search → TreeNode → Bool
has_come search v = nat_lt (far_at search v) (2 ^ 60)

-- the nodes that were come to stand first in their row, each once and at its place; there is a floor for each
-- place; and the search has looked from no other node
pub record HasReached (tree : Tree) (search : Search) : Type 0 where
  pub room : search.reached.count ≤ length search.reached.nodes.items
  pub blocks : length search.reached.nodes.items < 32 * length search.reached.floors.items
  pub known : (k : ℕ) → k < search.reached.count → IsNode tree (reached_at search k)
  pub near : (k : ℕ) → k < search.reached.count → far_at search (reached_at search k) < search.limit
  pub once : (j k : ℕ) → j < k → k < search.reached.count → reached_at search j ≢ reached_at search k
  pub placed : (v : TreeNode) → far_at search v < 2 ^ 60
      → (place_at search v < search.reached.count) × (reached_at search (place_at search v) ≡ v)
  pub looked : (v : TreeNode) → 0 < order_at search v → far_at search v < search.limit

-- its tables have an entry for each node, and its covers for each node but workers
pub record HasTables (tree : Tree) (search : Search) : Type 0 where
  pub far : IsOver tree search.far
  pub how : IsOver tree search.how
  pub order : IsOver tree search.order
  pub places : IsOver tree search.reached.places
  pub covers : IsOverInner tree search.covers

-- no node was come to yet, and there is room for so many
pub record IsBlank (tree : Tree) (nodes : ℕ) (search : Search) : Type 0 where
  pub tables : HasTables tree search
  pub room : length search.reached.nodes.items ≡ nodes
  pub blocks : nodes < 32 * length search.reached.floors.items
  pub far : (v : TreeNode) → 2 ^ 60 ≤ far_at search v
  pub none : (v : TreeNode) → order_at search v ≡ 0

-- how it was come to
abbrev pub step_at : Search → TreeNode → Step
step_at search v = at_or search.how Down v

-- the first was looked from, before the second was
abbrev pub IsBefore : Search → TreeNode → TreeNode → Type 0
IsBefore search u x = (0 < order_at search u) × ((order_at search x ≡ 0) ⊎ (order_at search u < order_at search x))

-- the split that is to be shipped has an end there, at no more than this distance
pub record StartsAt (g : Ground) (search : Search) (x : TreeNode) (distance level : ℕ) : Type 0 where
  pub is_end : IsEnd (wave_of g) search.split (record { node = x; level = level })
  pub cost : reach_cost (wave_of g) (state_at g) search.split (record { node = x; level = level })
      ≤ distance + search.least

-- a unit more can go down to the node, at no more than this distance
pub record GoesDown (g : Ground) (search : Search) (x : TreeNode) (distance : ℕ) : Type 0 where
  pub hangs : x ≢ Cluster
  pub before : IsBefore search (parent (wave_of g).tree x) x
  pub room : (state_at g).flow x < sum_under (wave_of g) x (slots_of (wave_of g))
  pub cost : far_at search (parent (wave_of g).tree x) + (state_at g).depth x
      ≤ distance + (state_at g).depth (parent (wave_of g).tree x)

-- a unit less can go down from it to c
pub record GoesUp (g : Ground) (search : Search) (x : TreeNode) (distance : ℕ) (c : TreeNode) : Type 0 where
  pub known : IsNode (wave_of g).tree c
  pub hangs : c ≢ Cluster
  pub above : parent (wave_of g).tree c ≡ x
  pub before : IsBefore search c x
  pub some : 0 < (state_at g).flow c
  pub cost : far_at search c + (state_at g).depth x ≤ distance + (state_at g).depth c

-- the split t can go over to it
pub record GoesOver (g : Ground) (search : Search) (x : TreeNode) (distance t level : ℕ) : Type 0 where
  pub from : End
  pub stands : place_of (state_at g) t ≡ Stands from
  pub is_end : IsEnd (wave_of g) t (record { node = x; level = level })
  pub before : IsBefore search from.node x
  pub cost : far_at search from.node
      + reach_cost (wave_of g) (state_at g) t (record { node = x; level = level })
      ≤ distance + reach_cost (wave_of g) (state_at g) t from

-- a step leads to a node, at no more than this distance
abbrev pub LeadsTo : Ground → Search → TreeNode → ℕ → Step → Type 0
LeadsTo g search x distance (Start level) = StartsAt g search x distance level
LeadsTo g search x distance Down = GoesDown g search x distance
LeadsTo g search x distance (Up c) = GoesUp g search x distance c
LeadsTo g search x distance (Over t level) = GoesOver g search x distance t level

-- what the next place of a worker costs
abbrev pub next_price : Ground → ℕ → ℕ
next_price g w = (state_at g).terms.price w (taken (wave_of g) (state_at g) w)

-- a slot is free under the node; and the next place of each worker with a free slot there costs no more than
-- the node's depth and this rest
pub record IsOpenAt (g : Ground) (v : TreeNode) (rest : ℕ) : Type 0 where
  pub some : 0 < sum_under (wave_of g) v (state_at g).free
  pub near : (w : ℕ) → w < length (wave_of g).workers → is_under (wave_of g).tree (Worker w) v ≡ true
      → 0 < (state_at g).free w → next_price g w ≤ (state_at g).depth v + rest

-- how far a free slot is from the node: if this rest is no farther than a way may go, a free slot is as near;
-- and where the node is a worker, no free slot of its own is nearer
pub record IsRest (g : Ground) (v : TreeNode) (rest : ℕ) : Type 0 where
  pub found : rest < 2 ^ 60 → IsOpenAt g v rest
  pub own : (w : ℕ) → w < length (wave_of g).workers → v ≡ Worker w → 0 < (state_at g).free w
      → (state_at g).depth v + rest ≤ next_price g w

-- a free slot lies under the node, at no more than the bound
pub record EndsInSlot (g : Ground) (search : Search) (bound : ℕ) (v : TreeNode) : Type 0 where
  pub known : IsNode (wave_of g).tree v
  pub reached : far_at search v < search.limit
  pub rest : ℕ
  pub slots : IsOpenAt g v rest
  pub near : far_at search v + rest ≤ bound

-- a split can be sent off
pub record EndsOff (g : Ground) (search : Search) (bound t : ℕ) : Type 0 where
  pub from : End
  pub stands : place_of (state_at g) t ≡ Stands from
  pub reached : far_at search from.node < search.limit
  pub settled : 0 < order_at search from.node
  pub near : far_at search from.node + worth_at g ≤ bound + reach_cost (wave_of g) (state_at g) t from

-- a way ends there, at no more than the bound
abbrev pub EndsIn : Ground → Search → ℕ → Goal → Type 0
EndsIn g search bound Wait = bound ≡ search.limit
EndsIn g search bound (Slot v) = EndsInSlot g search bound v
EndsIn g search bound (Off t) = EndsOff g search bound t

-- each node below this one that the cover's split does not leave out is as near as it says, or past the bound
pub record IsCovered (g : Ground) (search : Search) (cover : Cover) (u : TreeNode) : Type 0 where
  pub known : cover.split < length (wave_of g).splits
  pub near : (v : TreeNode) → IsLeft (wave_of g).tree (IsOut g cover.split) u v
      → min search.bound (far_at search v) + worth_at g ≤ cover.offset + (state_at g).depth v

-- what a search keeps to
pub record IsSearching (g : Ground) (search : Search) : Type 0 where
  pub tables : HasTables (wave_of g).tree search
  pub reached : HasReached (wave_of g).tree search
  pub room : length search.reached.nodes.items ≡ length g.nodes.now
  pub fit : search.reached.count ≤ count_by (has_come search) g.nodes.now
  pub floors : (v : TreeNode) → far_at search v < 2 ^ 60 → order_at search v ≡ 0
      → floor_at search (place_at search v) ≤ far_at search v
  pub limit : search.limit + search.least ≡ worth_at g
  pub bound : search.bound ≤ search.limit
  pub few : (v : TreeNode) → order_at search v ≤ search.looked
  pub steps : (v : TreeNode) → far_at search v < search.limit
      → LeadsTo g search v (far_at search v) (step_at search v)
  pub level : (u v : TreeNode) → 0 < order_at search u → order_at search v ≡ 0 → far_at search u ≤ far_at search v
  pub goal : EndsIn g search search.bound search.goal
  pub bottom : (w : ℕ) → w < length (wave_of g).workers → 0 < (state_at g).free w
      → search.bound + (state_at g).depth (Worker w) ≤ far_at search (Worker w) + next_price g w
  pub covered : (u : TreeNode) → IsCovered g search (cover_at search u) u
  pub low : AreLow (wave_of g) (state_at g) search.lows

-- a node in which the way ends was looked from too
abbrev pub IsLastOne : Search → Goal → Type 0
IsLastOne search Wait = Unit {0}
IsLastOne search (Slot v) = 0 < order_at search v
IsLastOne search (Off t) = Unit {0}

-- what is left of it when the search has ended
pub record IsFound (g : Ground) (search : Search) : Type 0 where
  pub tables : HasTables (wave_of g).tree search
  pub reached : HasReached (wave_of g).tree search
  pub room : length search.reached.nodes.items ≡ length g.nodes.now
  pub limit : search.limit + search.least ≡ worth_at g
  pub bound : search.bound ≤ search.limit
  pub steps : (v : TreeNode) → far_at search v < search.limit
      → LeadsTo g search v (far_at search v) (step_at search v)
  pub goal : EndsIn g search search.bound search.goal
  pub last : IsLastOne search search.goal

-- an end of the split was come to, or lies past the bound
abbrev pub IsStartedAt : Ground → Search → End → Type 0
IsStartedAt g search x = min search.bound (far_at search x.node) + search.least
    ≤ reach_cost (wave_of g) (state_at g) search.split x

abbrev pub HasStarted : Ground → Search → Type 0
HasStarted g search = (x : End) → IsEnd (wave_of g) search.split x → IsStartedAt g search x

-- the node has been looked from
abbrev pub HasLookedFrom : Ground → Search → TreeNode → Type 0
HasLookedFrom g search u = IsLookedFrom (wave_of g) (state_at g) (far_at search) search.bound u

-- nodes that were not looked from may have come nearer, and the goal
pub record IsNearer (old new : Search) : Type 0 where
  pub split : new.split ≡ old.split
  pub least : new.least ≡ old.least
  pub limit : new.limit ≡ old.limit
  pub bound : new.bound ≤ old.bound
  pub far : (v : TreeNode) → far_at new v ≤ far_at old v
  pub settled : (u : TreeNode) → 0 < order_at old u → far_at new u ≡ far_at old u

-- and nothing else
pub record Improves (old new : Search) : Type 0 where
  pub nearer : IsNearer old new
  pub looked : new.looked ≡ old.looked
  pub order : new.order ≡ old.order

-- the search looks from this node, and no other that it has looked from is farther
pub record IsAt (search : Search) (c : TreeNode) : Type 0 where
  pub settled : 0 < order_at search c
  pub reached : far_at search c < search.limit
  pub last : (u : TreeNode) → 0 < order_at search u → far_at search u ≤ far_at search c

-- a split stands at an end that the search looks from, which is so far and costs it so much
pub record IsLeaving (g : Ground) (search : Search) (m : Leaving) : Type 0 where
  pub known : m.split < length (wave_of g).splits
  pub at : IsAt search m.end.node
  pub far : m.far ≡ far_at search m.end.node
  pub stands : place_of (state_at g) m.split ≡ Stands m.end
  pub spent : m.spent ≡ reach_cost (wave_of g) (state_at g) m.split m.end

-- what a search finds: it has looked from each node nearer than the goal
pub record IsSearched (g : Ground) (search : Search) : Type 0 where
  pub searching : IsFound g search
  pub started : HasStarted g search
  pub looked : (u : TreeNode) → far_at search u < search.bound → HasLookedFrom g search u

-- only floors of blocks are new
abbrev pub AreFloorsNew : Search → Search → Type 0
AreFloorsNew old new = new ≡ record old { reached = record old.reached { floors = new.reached.floors } }

-- the nearest node that was not looked from, nearer than the bound
pub record IsNearest (g : Ground) (search : Search) (c : TreeNode) : Type 0 where
  pub known : IsNode (wave_of g).tree c
  pub fresh : order_at search c ≡ 0
  pub near : far_at search c < search.bound
  pub least : (v : TreeNode) → order_at search v ≡ 0 → far_at search c ≤ far_at search v

-- the next node to look from, by its place among the reached nodes, or none
pub record IsCandidate (search : Search) (best : Candidate) : Type 0 where
  pub far : best.far ≤ search.bound
  pub none : best.place ≡ search.reached.count → best.far ≡ search.bound
  pub some : best.place ≢ search.reached.count → (best.place < search.reached.count)
      × (order_at search (reached_at search best.place) ≡ 0)
      × (far_at search (reached_at search best.place) ≡ best.far) × (best.far < search.bound)

-- c was looked from next
pub record Settles (old new : Search) (c : TreeNode) : Type 0 where
  pub nearer : IsNearer old new
  pub looked : new.looked ≡ old.looked + 1
  pub here : order_at new c ≡ old.looked + 1
  pub others : (v : TreeNode) → v ≢ c → order_at new v ≡ order_at old v

-- the step down from c to v was taken
abbrev pub IsDown : Ground → Search → TreeNode → TreeNode → Type 0
IsDown g search c v = parent (wave_of g).tree v ≡ c
    → (state_at g).flow v < sum_under (wave_of g) v (slots_of (wave_of g))
    → min search.bound (far_at search v) + (state_at g).depth c ≤ far_at search c + (state_at g).depth v

-- the step of t from an end to another was taken
abbrev pub IsOverTo : Ground → Search → End → ℕ → End → Type 0
IsOverTo g search e t x = min search.bound (far_at search x.node) + reach_cost (wave_of g) (state_at g) t e
    ≤ far_at search e.node + reach_cost (wave_of g) (state_at g) t x

-- all steps of t, where it stands on c, were taken
pub record GoesAllOver (g : Ground) (search : Search) (c : TreeNode) (t : ℕ) : Type 0 where
  pub over : (e x : End) → place_of (state_at g) t ≡ Stands e → e.node ≡ c → IsEnd (wave_of g) t x
      → IsOverTo g search e t x
  pub out : (e : End) → place_of (state_at g) t ≡ Stands e → e.node ≡ c
      → search.bound + reach_cost (wave_of g) (state_at g) t e ≤ far_at search e.node + worth_at g
