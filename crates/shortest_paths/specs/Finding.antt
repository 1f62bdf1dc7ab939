-- What a search found, as its callers see it.
use Rattle.std.specs.Prelude.{◌≡◌, ℕ, ◌<◌, ◌≤◌, cond, nat_le, List, [], ◌∷◌, length, suc, Option, Some, None, IsSome}
use Rattle.flow_network.specs.declared.arcs.ArcNo.{ArcNo}
use Rattle.shortest_paths.specs.declared.arrival.Arrival.{Arrival}
use Rattle.shortest_paths.specs.Searching.{Tables, distance_at, arrival_at, trace_to, IsLeft, LeadsBack}
use Rattle.shortest_paths.specs.ToSink.{far}

pub record Finding : Type 0 where
  pub distances : List ℕ
  pub total : Option ℕ
  pub path : List ArcNo

-- the sink's distance, or none where it is past all
abbrev pub IsTotal : Option ℕ → ℕ → Type 0
IsTotal None d = far ≤ d
IsTotal (Some total) d = (total ≡ d) × (total < far)

-- by how much a depth falls at most
abbrev pub total_of : Option ℕ → ℕ
total_of None = 0
total_of (Some total) = total

-- what the tables of a finished search keep
pub record IsFinished (t : Tables) (sink : ℕ) (total : Option ℕ) : Type 0 where
  pub left : IsLeft (length t.distances) t
  pub sink_in : sink < length t.distances
  pub back : IsSome total → LeadsBack t.arrivals sink (arrival_at t.arrivals sink).arcs

-- the distance of a node, if it was reached, and the same with its path
abbrev pub reached_at : ℕ → Option ℕ
reached_at d = cond (nat_le far d) None (Some d)

abbrev pub found_at : List Arrival → ℕ → ℕ → Option (ℕ × List ArcNo)
found_at arrivals v d = cond (nat_le far d) None (Some (d, trace_to arrivals v))

-- distance and path of each node, of which the first has number v
abbrev pub paths_from : List Arrival → ℕ → List ℕ → List (Option (ℕ × List ArcNo))
paths_from arrivals v [] = []
paths_from arrivals v (d ∷ distances) = found_at arrivals v d ∷ paths_from arrivals (suc v) distances

abbrev pub paths_of : List ℕ → List Arrival → List (Option (ℕ × List ArcNo))
paths_of distances arrivals = paths_from arrivals 0 distances

-- one may go back from each node that was reached
pub record AreTracedBack (distances : List ℕ) (arrivals : List Arrival) : Type 0 where
  pub size : length arrivals ≡ length distances
  pub back : (v : ℕ) → distance_at distances v < far → LeadsBack arrivals v (arrival_at arrivals v).arcs
