-- The tables of a search as its contracts see them.
use Rattle.std.specs.Prelude.{◌≡◌, ℕ, Bool, true, false, ◌<◌, ◌≤◌, ◌*◌, ◌+◌, ◌⊎◌, List, [], ◌∷◌, length}
use Rattle.std.specs.Prelude.{slice_index, slice_index_or, slice_set, Option, Some, None}
use Rattle.flow_network.specs.Flow.{Flow, Counted}
use Rattle.flow_network.specs.declared.arcs.ArcNo.{ArcNo}
use Rattle.flow_network.specs.declared.arcs.ArcNo.TheVariants.{Forward}
use Rattle.shortest_paths.specs.Paths.{IsPriced}
use Rattle.shortest_paths.specs.declared.query.Query.{Query}
use Rattle.shortest_paths.specs.declared.search.Search.{Search}
use Rattle.shortest_paths.specs.Lists.{ArcLists, source_at, stack_arcs, AreSized, AreResidualArcs}
use Rattle.shortest_paths.specs.Searching.{Problem, Tables, IsSearching}

abbrev pub tables : Search → Tables
tables s = record {
  distances = s.distances.items;
  arrivals = s.arrivals.items;
  reached = s.reached.items;
  settled = s.settled.items;
  left = s.left.items;
  stack = s.stack.items;
  queue = s.queue;
}

-- what is searched, over the network as it is
abbrev pub problem : {L : Type 0} → Flow L → Query → Problem
problem network q = record {
  arcs = network.arcs;
  flows = network.flows;
  depths = q.potentials.now;
  lists = q.lists.now;
  start = q.start;
  sink = q.sink;
}

abbrev pub option_list : Option ℕ → List ℕ
option_list None = []
option_list (Some v) = v ∷ []

-- what a search asks of the network, of its potentials and of the lists
pub record MaySearch {L : Type 0} (node_count : L → ℕ) (network : Flow L) (q : Query) : Type 0 where
  pub priced : IsPriced (node_count network.layout) network.arcs network.flows q.potentials.now
  pub sized : AreSized (length q.potentials.now) q.lists.now
  pub lists : AreResidualArcs network.arcs network.flows q.sink q.lists.now
  pub sink_apart : source_at q.lists.now q.sink ≡ false
  pub start_in : q.start < length q.potentials.now

-- a search stands here, and may go on
pub record Searches {L : Type 0} (node_count : L → ℕ) (m : Counted L) (q : Query) (level : ℕ)
    (entering : List ℕ) (rest : List ArcNo) (s : Search) : Type 0 where
  pub may : MaySearch node_count m.network q
  pub now : IsSearching (problem m.network q) (length q.potentials.now) level m.count entering rest (tables s)

-- where a move comes to: the sink is entered next, or the search goes on
abbrev pub ComesTo : {L : Type 0} → Bool → (L → ℕ) → Counted L → Query → ℕ → List ArcNo → Search → Type 0
ComesTo true node_count m q level rest s =
    (others : List ArcNo) × Searches node_count m q level (q.sink ∷ []) others s
ComesTo false node_count m q level rest s = Searches node_count m q level [] rest s

-- the sink is entered next, at its distance, or no node is left
abbrev pub EndsSearch : Option ℕ → Problem → ℕ → Tables → Type 0
EndsSearch (Some total) p count t =
    (others : List ArcNo) × IsSearching p (length p.depths) total count (p.sink ∷ []) others t
EndsSearch None p count t =
    (level : ℕ) × IsSearching p (length p.depths) level count [] [] t × (t.stack ≡ []) × (t.queue ≡ [])

-- the cursor of a node is within its list
abbrev pub IsCursor : ArcLists → Tables → ℕ → Type 0
IsCursor g t v = slice_index t.left v ≤ length (stack_arcs g v)

-- the arc before the cursor, which is moved
abbrev pub IsNextArc : ArcLists → ℕ → Tables → Option ArcNo → Tables → Type 0
IsNextArc g v t (Some a) t' =
    (left : ℕ) × (slice_index t.left v ≡ left + 1) × (a ≡ slice_index_or (stack_arcs g v) left (Forward 0))
    × (t' ≡ record t { left = slice_set t.left v left })
IsNextArc g v t None t' = (slice_index t.left v ≡ 0) × (t' ≡ t)

-- Each look pays for the entry and the node that it may bring: so the search ends.
abbrev pub Spends : {L : Type 0} → ℕ → Counted L → Search → Counted L → Search → Type 0
Spends extra m s m' s' =
    2 * length (tables s').queue + length (tables s').stack + 4 * m.count
    ≤ 2 * length (tables s).queue + length (tables s).stack + 4 * m'.count + extra

-- and where it brings both, some of the pay is left
abbrev pub Falls : {L : Type 0} → Counted L → Search → Counted L → Search → Type 0
Falls m s m' s' =
    2 * length (tables s').queue + length (tables s').stack + 4 * m.count
    < 2 * length (tables s).queue + length (tables s).stack + 4 * m'.count
