-- What a search from one node to another keeps. A settled node stands on the stack while its cursor leaves
-- some of its arcs; a node that was reached and is not settled is entered next, or waits in the queue.
use Rattle.std.specs.Prelude.{◌≡◌, ℕ, ◌+◌, ◌*◌, ◌^◌, ◌<◌, ◌≤◌, Bool, true, false, List, [], ◌∷◌, ◌++◌, zero}
use Rattle.std.specs.Prelude.{suc, length, Contains, slice_index, slice_index_or, ◌⊎◌}
use Rattle.flow_network.specs.declared.arcs.FlowArc.{FlowArc}
use Rattle.flow_network.specs.declared.arcs.ArcNo.{ArcNo}
use Rattle.flow_network.specs.declared.arcs.ArcNo.TheVariants.{Forward}
use Rattle.flow_network.specs.Flows.{tail_of, head_of, arc_index, IsResidual, reduced_cost, leaving_of}
use Rattle.flow_network.specs.Leaving.{marked_sum}
use Rattle.shortest_paths.specs.declared.arrival.Arrival.{Arrival}
use Rattle.shortest_paths.specs.Lists.{ArcLists, first_arcs, stack_arcs}
use Rattle.shortest_paths.specs.ToSink.{far}

abbrev pub is_settled : List Bool → ℕ → Bool
is_settled settled v = slice_index_or settled v false

-- over what is searched
pub record Problem : Type 0 where
  pub arcs : List FlowArc
  pub flows : List ℕ
  pub depths : List ℕ
  pub lists : ArcLists
  pub start : ℕ
  pub sink : ℕ

-- the tables of a search
pub record Tables : Type 0 where
  pub distances : List ℕ
  pub arrivals : List Arrival
  pub reached : List ℕ
  pub settled : List Bool
  pub left : List ℕ
  pub stack : List ℕ
  pub queue : List (ℕ × ℕ)

abbrev pub distance_at : List ℕ → ℕ → ℕ
distance_at distances v = slice_index_or distances v far

abbrev pub no_arrival : Arrival
no_arrival = record { arc = Forward 0; before = 0; arcs = 0 }

abbrev pub arrival_at : List Arrival → ℕ → Arrival
arrival_at arrivals v = slice_index_or arrivals v no_arrival

abbrev pub rc : Problem → ArcNo → ℕ
rc p a = reduced_cost p.arcs (slice_index p.depths) a

-- the node was reached from a settled one
pub record IsArrival (p : Problem) (distances : List ℕ) (arrivals : List Arrival) (settled : List Bool)
    (v : ℕ) (last : Arrival) : Type 0 where
  pub residual : IsResidual p.arcs p.flows last.arc
  pub leaves : tail_of p.arcs last.arc ≡ last.before
  pub comes : head_of p.arcs last.arc ≡ v
  pub before_settled : is_settled settled last.before ≡ true
  pub distance : distance_at distances v ≡ distance_at distances last.before + rc p last.arc
  pub more : last.arcs ≡ (arrival_at arrivals last.before).arcs + 1

-- how many nodes are settled
abbrev pub settled_number : List Bool → ℕ
settled_number settled = marked_sum settled 0 (λ _. 1)

-- distances with their reasons
pub record AreReached (p : Problem) (nodes level : ℕ) (distances : List ℕ) (arrivals : List Arrival)
    (settled : List Bool) : Type 0 where
  pub size : length distances ≡ nodes
  pub arrivals_size : length arrivals ≡ nodes
  pub settled_size : length settled ≡ nodes
  pub level_in : level < far
  pub within : (v : ℕ) → distance_at distances v ≤ far
  pub begun : (distance_at distances p.start ≡ 0) × ((arrival_at arrivals p.start).arcs ≡ 0)
  pub sound : (v : ℕ) → distance_at distances v < far
      → (v ≡ p.start) ⊎ IsArrival p distances arrivals settled v (arrival_at arrivals v)
  pub low : (u : ℕ) → is_settled settled u ≡ true → distance_at distances u ≤ level
  pub bounded : (v : ℕ) → distance_at distances v < far
      → ((arrival_at arrivals v).arcs ≤ settled_number settled)
      × (distance_at distances v + slice_index p.depths p.start
      ≤ slice_index p.depths v + (arrival_at arrivals v).arcs * 2 ^ 47)
  pub sooner : (u : ℕ) → is_settled settled u ≡ true → (arrival_at arrivals u).arcs < settled_number settled

-- what was reached and is not settled; the nodes of entering are settled next
pub record AreWaiting (level : ℕ) (distances : List ℕ) (settled : List Bool) (entering : List ℕ)
    (queue : List (ℕ × ℕ)) : Type 0 where
  pub next : (v : ℕ) → Contains entering v
      → (is_settled settled v ≡ false) × (distance_at distances v ≡ level)
  pub waiting : (v : ℕ) → is_settled settled v ≡ false → distance_at distances v < far
      → Contains entering v ⊎ Contains queue (distance_at distances v, v)
  pub queued : (c v : ℕ) → Contains queue (c, v) → (level ≤ c) × (distance_at distances v ≤ c) × (c < far)

-- the nodes that were reached are listed
pub record ListsReached (distances : List ℕ) (listed : List ℕ) : Type 0 where
  pub inside : (v : ℕ) → Contains listed v → v < length distances
  pub all : (v : ℕ) → distance_at distances v < far → Contains listed v

-- Each residual arc that leaves a settled node was looked at, or is still to be: as one of rest, or by a
-- cursor.
pub record AreCovered (p : Problem) (level : ℕ) (rest : List ArcNo) (t : Tables) : Type 0 where
  pub on_stack : (u : ℕ) → Contains t.stack u
      → (is_settled t.settled u ≡ true) × (distance_at t.distances u ≡ level)
  pub cursors : (u : ℕ) → Contains t.stack u → slice_index t.left u ≤ length (stack_arcs p.lists u)
  pub of_rest : (a : ArcNo) → Contains rest a
      → (arc_index a < length p.arcs) × (is_settled t.settled (tail_of p.arcs a) ≡ true)
      × (distance_at t.distances (tail_of p.arcs a) ≡ level)
  pub covered : (a : ArcNo) → IsResidual p.arcs p.flows a → is_settled t.settled (tail_of p.arcs a) ≡ true
      → (distance_at t.distances (head_of p.arcs a) ≤ distance_at t.distances (tail_of p.arcs a) + rc p a)
      ⊎ (Contains rest a ⊎ (Contains t.stack (tail_of p.arcs a)
      × Contains (first_arcs p.lists (tail_of p.arcs a) (slice_index t.left (tail_of p.arcs a))) a))

-- Looks that were made, and those still to be made, are no more than the arcs that leave settled nodes.
abbrev pub AreFewLooks : Problem → ℕ → List ArcNo → Tables → Type 0
AreFewLooks p count rest t =
    count + length rest + marked_sum t.settled 0 (λ u. slice_index t.left u)
    ≤ marked_sum t.settled 0 (λ u. length (leaving_of p.arcs u))

-- in the middle of a search, after count looks
pub record IsSearching (p : Problem) (nodes level count : ℕ) (entering : List ℕ) (rest : List ArcNo)
    (t : Tables) : Type 0 where
  pub left_size : length t.left ≡ nodes
  pub reached : AreReached p nodes level t.distances t.arrivals t.settled
  pub listed : ListsReached t.distances t.reached
  pub waiting : AreWaiting level t.distances t.settled entering t.queue
  pub covered : AreCovered p level rest t
  pub looks : AreFewLooks p count rest t
  pub sink_left : is_settled t.settled p.sink ≡ false

-- no node is reached, and nothing waits
pub record IsAtRest (nodes : ℕ) (t : Tables) : Type 0 where
  pub size : length t.distances ≡ nodes
  pub arrivals_size : length t.arrivals ≡ nodes
  pub settled_size : length t.settled ≡ nodes
  pub left_size : length t.left ≡ nodes
  pub unreached : (v : ℕ) → distance_at t.distances v ≡ far
  pub unsettled : (v : ℕ) → is_settled t.settled v ≡ false
  pub none_listed : t.reached ≡ []
  pub none_stacked : t.stack ≡ []
  pub none_queued : t.queue ≡ []

-- what is forgotten after a search: the nodes that were reached are listed, and the settled ones are among
-- them
pub record IsLeft (nodes : ℕ) (t : Tables) : Type 0 where
  pub within : (v : ℕ) → distance_at t.distances v ≤ far
  pub size : length t.distances ≡ nodes
  pub arrivals_size : length t.arrivals ≡ nodes
  pub settled_size : length t.settled ≡ nodes
  pub left_size : length t.left ≡ nodes
  pub listed : ListsReached t.distances t.reached
  pub marked : (v : ℕ) → is_settled t.settled v ≡ true → distance_at t.distances v < far

-- one may go back so many arcs within the table
abbrev pub LeadsBack : List Arrival → ℕ → ℕ → Type 0
LeadsBack arrivals v zero = Unit {0}
LeadsBack arrivals v (suc n) = (v < length arrivals) × LeadsBack arrivals (arrival_at arrivals v).before n

-- the arcs that lead back from a node, so many
abbrev pub trace_of : List Arrival → ℕ → ℕ → List ArcNo
trace_of arrivals v zero = []
trace_of arrivals v (suc n) = trace_of arrivals (arrival_at arrivals v).before n ++
    (arrival_at arrivals v).arc ∷ []

abbrev pub trace_to : List Arrival → ℕ → List ArcNo
trace_to arrivals v = trace_of arrivals v (arrival_at arrivals v).arcs
