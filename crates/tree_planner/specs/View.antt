-- The tables as a state.
use Rattle.std.specs.Prelude.{ℕ, ◌≡◌, length, slice_index}
use Rattle.wave_problem.specs.Wave.{Wave}
use Rattle.tree_flow.specs.declared.node_table.NodeTable.{NodeTable}
use Rattle.price_certificate.specs.Places.{place_price}
use Rattle.tree_planner.specs.declared.tables.Tables.{Tables}
use Rattle.tree_flow.specs.declared.nodes.End.{End}
use Rattle.tree_flow.specs.declared.nodes.Place.TheVariants.{Stands}
use Rattle.tree_flow.specs.declared.nodes.TreeNode.{TreeNode}
use Rattle.tree_flow.specs.Nodes.{IsNode}
use Rattle.tree_flow.specs.State.{State, place_of, sum_under}
use Rattle.tree_flow.specs.Table.{at_node, IsOver}
use Rattle.tree_planner.specs.Listing.{AreLists, HasListed}

-- the state that the tables show
abbrev pub state_of : Tables → State
state_of t = record {
  terms = record { worth = t.worth; price = place_price t.prices };
  places = t.places.items;
  flow = λ v. at_node t.flow v;
  depth = λ v. at_node t.depth v;
  free = λ w. slice_index t.free.items w;
}

-- each split that stands, stands on a node of the tree
abbrev pub AreOnNodes : Wave → Tables → Type 0
AreOnNodes wave t = (s : ℕ) (e : End) → place_of (state_of t) s ≡ Stands e → IsNode wave.tree e.node

-- each split that stands is on the list of its node
abbrev pub AreListed : Tables → Type 0
AreListed t = (s : ℕ) (e : End) → place_of (state_of t) s ≡ Stands e → HasListed t.standing e.node s

-- the numbers are the sums of some numbers of workers
abbrev pub AreSums : Wave → NodeTable ℕ → Type 0
AreSums wave below = (free : ℕ → ℕ) × ((v : TreeNode) → at_node below v ≡ sum_under wave v free)

-- The tables have an entry for each split, each node and each worker. They count the free slots under each
-- node, and each split that stands is on the list of its node.
pub record AreTables (wave : Wave) (t : Tables) : Type 0 where
  pub places : length t.places.items ≡ length wave.splits
  pub flow : IsOver wave.tree t.flow
  pub depth : IsOver wave.tree t.depth
  pub free : length t.free.items ≡ length wave.workers
  pub below : IsOver wave.tree t.below
  pub sums : (v : TreeNode) → at_node t.below v ≡ sum_under wave v (state_of t).free
  pub lists : AreLists wave.tree (length wave.splits) t.standing
  pub known : AreOnNodes wave t
  pub listed : AreListed t
