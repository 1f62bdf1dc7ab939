-- The least paths to all nodes, which a search to no sink leaves.
use Rattle.std.proofs.Common.{◌≡◌, ℕ, zero, suc, ◌+◌, ◌<◌, ◌≤◌, cond, leb, List, [], ◌∷◌, length, get_or, true, Option}
use Rattle.std.proofs.Common.{Some, None, refl, sym, ap, ◌∙◌, subst, arith}
use Rattle.std.proofs.lemmas.Bool.{cases_lt, false≢true}
use Rattle.std.specs.Prelude.{slice_index, is_some}
use Rattle.flow_network.specs.declared.arcs.ArcNo.{ArcNo}
use Rattle.flow_network.specs.Flows.{IsResidual, IsPath, IsDistinct, tail_of, head_of, path_cost}
use Rattle.shortest_paths.specs.declared.arrival.Arrival.{Arrival}
use Rattle.shortest_paths.specs.Search.{EndsSearch}
use Rattle.shortest_paths.specs.Finding.{reached_at, found_at, paths_from, paths_of, AreTracedBack}
use Rattle.shortest_paths.specs.Paths.{IsPriced, AreLeastPaths, option_distance, option_path}
use Rattle.shortest_paths.specs.Searching.{Problem, Tables, distance_at, arrival_at, trace_to, rc, IsSearching}
use Rattle.shortest_paths.specs.ToSink.{far}
use Rattle.shortest_paths.proofs.Costs.{residual_cost, reduced_bound}
use Rattle.shortest_paths.proofs.Lowering.{steps_cost}
use Rattle.shortest_paths.proofs.Sums.{ones_le}
use Rattle.shortest_paths.proofs.Searching.{entered_inside}
use Rattle.shortest_paths.proofs.SearchEnds.{path_back, all_covered, leads_back}

pub get_or-paths : (arrivals : List Arrival) (distances : List ℕ) (i v : ℕ)
    → get_or (paths_from arrivals i distances) v None ≡ found_at arrivals (i + v) (distance_at distances v)
get_or-paths arrivals [] i v = refl
get_or-paths arrivals (d ∷ distances) i zero = let at : i ≡ i + 0 = omega arith in
    ap (λ w. found_at arrivals w d) at
get_or-paths arrivals (d ∷ distances) i (suc v) = grind (arith, get_or-paths arrivals distances (suc i) v)

pub path_found : (arrivals : List Arrival) (distances : List ℕ) (v : ℕ)
    → get_or (paths_of distances arrivals) v None ≡ found_at arrivals v (distance_at distances v)
path_found arrivals distances v = let at : 0 + v ≡ v = omega arith in
    get_or-paths arrivals distances 0 v ∙ ap (λ w. found_at arrivals w (distance_at distances v)) at

pub length-paths : (arrivals : List Arrival) (distances : List ℕ) (i : ℕ)
    → length (paths_from arrivals i distances) ≡ length distances
length-paths arrivals [] i = refl
length-paths arrivals (d ∷ distances) i = ap suc (length-paths arrivals distances (suc i))

pub reached_far : {X : Type 0} (x : X) (d : ℕ) → far ≤ d → cond (leb far d) None (Some x) ≡ None
reached_far x d l = grind arith

pub reached_near : {X : Type 0} (x : X) (d : ℕ) → d < far → cond (leb far d) None (Some x) ≡ Some x
reached_near x d l = grind arith

-- the distance that is found, and the path
pub distance_found : (arrivals : List Arrival) (distances : List ℕ) (v : ℕ)
    → option_distance (get_or (paths_of distances arrivals) v None) ≡ reached_at (distance_at distances v)
distance_found arrivals distances v = grind (arith, path_found)

pub trace_found : (arrivals : List Arrival) (distances : List ℕ) (v : ℕ) → distance_at distances v < far
    → option_path (get_or (paths_of distances arrivals) v None) ≡ Some (trace_to arrivals v)
trace_found arrivals distances v near = ap option_path (path_found arrivals distances v
    ∙ reached_near (distance_at distances v, trace_to arrivals v) (distance_at distances v) near)

pub near_where_some : (arrivals : List Arrival) (distances : List ℕ) (v : ℕ)
    → is_some (option_distance (get_or (paths_of distances arrivals) v None)) ≡ true
    → distance_at distances v < far
near_where_some arrivals distances v some = grind (arith, cases_lt, false≢true, distance_found, reached_far)

-- what is found of a node that was reached
found_some : (arrivals : List Arrival) (v d c : ℕ) (path : List ArcNo)
    → found_at arrivals v d ≡ Some (c, path)
    → (d < far) × (d ≡ c) × (trace_to arrivals v ≡ path)
found_some arrivals v d c path e = grind arith

-- a search from which nothing is left
module _ (n : ℕ) (p : Problem) (level count : ℕ) (t : Tables)
    (s : IsSearching p (length p.depths) level count [] [] t) (empty : t.stack ≡ []) (none : t.queue ≡ [])
    (priced : IsPriced n p.arcs p.flows p.depths) where
  -- the potentials bound the distances, so that an arc leads on to a node that was reached
  goes_on : (a : ArcNo) → IsResidual p.arcs p.flows a → distance_at t.distances (tail_of p.arcs a) < far
      → (distance_at t.distances (head_of p.arcs a) ≤ distance_at t.distances (tail_of p.arcs a) + rc p a)
      × (distance_at t.distances (head_of p.arcs a) < far)
  goes_on a r near =
      let on = all_covered p (length p.depths) level count t s empty none a r near in
      let b = s.reached.bounded (tail_of p.arcs a) near in
      let arcs = b.0 in
      let most = b.1 in
      let marks = s.reached.settled_size in
      let size = priced.size in
      let limit = priced.network.node_limit in
      let ones = ones_le t.settled 0 in
      let least = residual_cost p.arcs p.flows (slice_index p.depths) a priced.reduced r in
      let cost = reduced_bound p.arcs n (slice_index p.depths) a priced.network.arcs_in r.listed least in
      let from = priced.deep (tail_of p.arcs a) in
      let to = priced.deep (head_of p.arcs a) in
      (on, omega arith)

  least_from : (path : List ArcNo) (u v m : ℕ) → distance_at t.distances u < far
      → distance_at t.distances u ≤ m
      → IsPath p.arcs p.flows path u v
      → (distance_at t.distances v < far)
      × (distance_at t.distances v ≤ m + path_cost p.arcs (slice_index p.depths) path)
  least_from [] u v m near at w = let same = ap (distance_at t.distances) w in (omega arith, omega arith)
  least_from (a ∷ path) u v m near at w =
      let from : distance_at t.distances (tail_of p.arcs a) ≡ distance_at t.distances u =
      ap (distance_at t.distances) w.1 in
      let on = goes_on a w.0 (omega arith) in
      let farther = on.0 in
      let rest = least_from path (head_of p.arcs a) v (m + rc p a) on.1 (omega arith) w.2 in
      let cost = rest.1 in
      (rest.0, omega arith)

  pub all_least : AreLeastPaths p.arcs p.flows (slice_index p.depths) p.start
      (paths_of t.distances t.arrivals)
  all_least =
      let begun = s.reached.begun.0 in
      record {
        reached = λ v c path e.
            (let f = found_some t.arrivals v (distance_at t.distances v) c path
            (sym (path_found t.arrivals t.distances v) ∙ e) in
            let b = path_back p (length p.depths) level t.distances t.arrivals t.settled s.reached
            (arrival_at t.arrivals v).arcs v f.0 refl in
            let cost = steps_cost p.arcs p.flows (slice_index p.depths) (distance_at t.distances)
            (trace_to t.arrivals v) p.start v b.0 b.1 in
            let same = f.1 in
            let sum : path_cost p.arcs (slice_index p.depths) (trace_to t.arrivals v) ≡ c = omega arith in
            subst (λ (q : List ArcNo). IsPath p.arcs p.flows q p.start v
            × (path_cost p.arcs (slice_index p.depths) q ≡ c) × IsDistinct q) f.2 (b.0, sum, b.2));
        least = λ v path w.
            (let r = least_from path p.start v 0 (omega arith) (omega arith) w in
            let cost = r.1 in (
              (distance_at t.distances v, trace_to t.arrivals v),
              path_found t.arrivals t.distances v
                  ∙ reached_near (distance_at t.distances v, trace_to t.arrivals v)
                  (distance_at t.distances v) r.0,
              omega arith,
            ));
      }

-- a search to a sink that is no node comes to an end where nothing is left
ends_all : (p : Problem) (count : ℕ) (t : Tables) (found : Option ℕ) → length p.depths ≤ p.sink
    → EndsSearch found p count t → EndsSearch None p count t
ends_all p count t None past e = e
ends_all p count t (Some total) past e = absurd
    (let inside = entered_inside e.1 in omega arith)

-- what it leaves for its callers
pub record FindsAll (p : Problem) (t : Tables) : Type 0 where
  pub least : AreLeastPaths p.arcs p.flows (slice_index p.depths) p.start (paths_of t.distances t.arrivals)
  pub back : AreTracedBack t.distances t.arrivals
  pub size : length (paths_of t.distances t.arrivals) ≡ length p.depths

pub finds_all : {n : ℕ} {p : Problem} (count : ℕ) {t : Tables} (found : Option ℕ) → length p.depths ≤ p.sink
    → IsPriced n p.arcs p.flows p.depths → EndsSearch found p count t → FindsAll p t
finds_all {n = n} {p = p} count {t = t} found past priced ends =
    let e = ends_all p count t found past ends in
    let r = e.1 in
    record {
      least = all_least n p e.0 count t r e.2 e.3 priced;
      back = record {
        size = r.reached.arrivals_size ∙ sym r.reached.size;
        back = λ v near. leads_back p (length p.depths) e.0 t r.reached _ v near refl;
      };
      size = length-paths t.arrivals t.distances 0 ∙ r.reached.size;
    }
