-- A look at an arc of a search, by what the code reads, and what it asks.
use Rattle.std.proofs.Common.{◌≡◌, ℕ, ◌+◌, ◌*◌, ◌^◌, ◌<◌, ◌≤◌, ℤ, List, [], ◌∷◌, length, get_or, ◌-◌, take, set}
use Rattle.std.proofs.Common.{IsPermutation, Option, Some, None, sym, ap, ◌∙◌, subst, inl, inr, arith}
use Rattle.std.proofs.lemmas.Bool.{cases_lt}
use Rattle.std.proofs.lemmas.List.{get_or_default}
use Rattle.std.specs.Prelude.{slice_index, is_some, IfSome, pos, neg_ℤ, ◌+ℤ◌, ◌-ℤ◌, ◌≤ℤ◌}
use Rattle.flow_network.specs.declared.arcs.FlowArc.{FlowArc}
use Rattle.flow_network.specs.declared.arcs.ArcNo.{ArcNo}
use Rattle.flow_network.specs.declared.arcs.ArcNo.TheVariants.{Forward}
use Rattle.flow_network.specs.Flow.{Counted}
use Rattle.flow_network.specs.Flows.{AreArcs, NoNegative, tail_of, head_of, arc_index, cost_of, IsResidual}
use Rattle.flow_network.specs.Flows.{residual_of, reduced_cost}
use Rattle.flow_network.proofs.Members.{Contains-here}
use Rattle.shortest_paths.specs.declared.arrival.Arrival.{Arrival}
use Rattle.shortest_paths.specs.declared.query.Query.{Query}
use Rattle.shortest_paths.specs.declared.search.Search.{Search}
use Rattle.shortest_paths.specs.Paths.{IsPriced}
use Rattle.shortest_paths.specs.Search.{option_list, problem, Searches, ComesTo}
use Rattle.shortest_paths.specs.Searching.{Problem, Tables, distance_at, no_arrival, arrival_at, rc}
use Rattle.shortest_paths.specs.Searching.{ListsReached, IsSearching}
use Rattle.shortest_paths.specs.ToSink.{far}
use Rattle.shortest_paths.proofs.Costs.{tail_in, residual_cost, reduced_is, cost_fits}
use Rattle.shortest_paths.proofs.Searching.{few_so_far, no_shorter, near_way, far_way, next_from_the_end}
use Rattle.shortest_paths.proofs.Sums.{ones_le}

-- an arc of a search that is seen to have room is residual, and what is seen of it is within what the code
-- asks
pub record IsOpen (p : Problem) (a : ArcNo) (node to : ℕ) (cost : ℤ) : Type 0 where
  pub residual : IsResidual p.arcs p.flows a
  pub inside : to < length p.depths
  pub low : neg_ℤ (pos (2 ^ 47)) ≤ℤ cost
  pub high : cost ≤ℤ pos (2 ^ 47)
  pub reduced : pos (slice_index p.depths node) ≤ℤ (cost +ℤ pos (slice_index p.depths to))

pub is_open : {L : Type 0} {node_count : L → ℕ} {m : Counted L} {q : Query} {level : ℕ} {a : ArcNo}
    {rest : List ArcNo} {s : Search} {node to room : ℕ} {cost : ℤ}
    → Searches node_count m q level [] (a ∷ rest) s → tail_of m.network.arcs a ≡ node
    → to ≡ head_of m.network.arcs a → room ≡ residual_of m.network.arcs m.network.flows a
    → cost ≡ cost_of m.network.arcs a → (room ≡ 0 → ⊥) → IsOpen (problem m.network q) a node to cost
is_open {m = m} {q = q} {a = a} {rest = rest} {room = room} state leaves at is seen some =
    let p = problem m.network q in
    let priced = state.may.priced in
    let r : IsResidual p.arcs p.flows a = record {
      listed = (state.now.covered.of_rest a (Contains-here rest a)).0;
      room = elim (cases_lt 0 (residual_of p.arcs p.flows a)) [
        | inl l ↦ l
        | inr none ↦ absurd (some (omega arith))
      ];
    } in
    let are = subst (λ n. AreArcs n p.arcs) (sym priced.size) priced.network.arcs_in in
    let fits = cost_fits (length p.depths) p.arcs (slice_index p.depths) a are r.listed
    (residual_cost p.arcs p.flows (slice_index p.depths) a priced.reduced r) in
    grind arith

-- what is seen of a residual arc gives its reduced cost
pub seen_cost : (arcs : List FlowArc) (flows : List ℕ) (h : ℕ → ℕ) (a : ArcNo) (node to r : ℕ)
    → NoNegative arcs flows h → IsResidual arcs flows a
    → tail_of arcs a ≡ node → to ≡ head_of arcs a → pos r ≡ (cost_of arcs a +ℤ pos (h to)) -ℤ pos (h node)
    → r ≡ reduced_cost arcs h a
seen_cost arcs flows h a node to r none residual leaves at e =
    reduced_is arcs h a r (residual_cost arcs flows h a none residual) (rw (at, ← leaves) at e)

abbrev arrives : ArcNo → ℕ → ℕ → Arrival
arrives a node n = record { arc = a; before = node; arcs = n }

-- a look, by what the code reads
module _ {n : ℕ} {p : Problem} {level count : ℕ} {entering : List ℕ} {a : ArcNo} {rest : List ArcNo}
    {t : Tables}
    (s : IsSearching p (length p.depths) level count entering (a ∷ rest) t)
    (priced : IsPriced n p.arcs p.flows p.depths)
    (residual : IsResidual p.arcs p.flows a) {node to cost x : ℕ} (leaves : tail_of p.arcs a ≡ node)
    (at : to ≡ head_of p.arcs a)
    (seen : pos cost ≡ (cost_of p.arcs a +ℤ pos (slice_index p.depths to)) -ℤ pos (slice_index p.depths node))
    (read : x ≡ get_or t.distances to x) where
  are : AreArcs (length p.depths) p.arcs
  are = subst (λ m. AreArcs m p.arcs) (sym priced.size) priced.network.arcs_in

  is : cost ≡ rc p a
  is = seen_cost p.arcs p.flows (slice_index p.depths) a node to cost priced.reduced residual leaves at seen

  inside : head_of p.arcs a < length p.depths
  inside = (cost_fits (length p.depths) p.arcs (slice_index p.depths) a are residual.listed
      (residual_cost p.arcs p.flows (slice_index p.depths) a priced.reduced residual)).3

  knows : x ≡ distance_at t.distances (head_of p.arcs a)
  knows = let size = s.reached.size in let l = inside in read ∙ get_or_default t.distances to x far
      (omega arith) ∙ ap (distance_at t.distances) at

  pub seen_known : x ≤ level + cost → IsSearching p (length p.depths) level (count + 1) entering rest t
  seen_known l = let k = knows in let c = is in no_shorter s
      (omega arith)

  module _ (b : Arrival) (read_arrival : b ≡ get_or t.arrivals node b) (shorter : level + cost < x) where
    arrival_is : arrives a node (b.arcs + 1)
        ≡ arrives a (tail_of p.arcs a) ((arrival_at t.arrivals (tail_of p.arcs a)).arcs + 1)
    arrival_is =
        let size = s.reached.arrivals_size in
        let at_node = tail_in (length p.depths) p.arcs a are residual.listed in
        let same : b ≡ arrival_at t.arrivals (tail_of p.arcs a) = read_arrival
        ∙ get_or_default t.arrivals node b no_arrival (omega arith)
        ∙ ap (arrival_at t.arrivals) (sym leaves) in
        ap (λ m. arrives a m (b.arcs + 1)) (sym leaves)
        ∙ ap (λ (q : Arrival). arrives a (tail_of p.arcs a) (q.arcs + 1)) same

    short : level + rc p a < distance_at t.distances (head_of p.arcs a)
    short = let k = knows in let c = is in omega arith

    pub seen_near : (reached : List ℕ) → ListsReached (set t.distances to (level + cost)) reached → cost ≡ 0
        → IsSearching p (length p.depths) level (count + 1) (to ∷ entering) rest (record t {
          distances = set t.distances to (level + cost);
          arrivals = set t.arrivals to (record { arc = a; before = node; arcs = b.arcs + 1 });
          reached = reached;
        })
    seen_near reached listed zero_cost =
        let tight : rc p a ≡ 0 = (let c = is in omega arith) in
        rw (arrival_is, at, is)
        (near_way s are priced.reduced residual short inside
        reached (rw (at, is) at listed) tight)

    pub seen_far : (queue : List (ℕ × ℕ)) (reached : List ℕ)
        → ListsReached (set t.distances to (level + cost)) reached → (cost ≡ 0 → ⊥)
        → IsPermutation ((level + cost, to) ∷ t.queue) queue
        → IsSearching p (length p.depths) level (count + 1) entering rest (record t {
          distances = set t.distances to (level + cost);
          arrivals = set t.arrivals to (record { arc = a; before = node; arcs = b.arcs + 1 });
          queue = queue;
          reached = reached;
        })
    seen_far queue reached listed some more =
        let pair : (level + cost, to) ≡ (level + rc p a, head_of p.arcs a) = ap (λ m. (level + m, to)) is
        ∙ ap (λ v. (level + rc p a, v)) at in
        let costs : 0 < rc p a = elim (cases_lt 0 (rc p a)) [
          | inl l ↦ l
          | inr z ↦ absurd
              (some (let c = is in omega arith))
        ] in
        let fits : level + rc p a < far = (let near = short in
        let most = s.reached.within (head_of p.arcs a) in omega arith) in
        let more' : IsPermutation ((level + rc p a, head_of p.arcs a) ∷ t.queue) queue = subst
        (λ (q : ℕ × ℕ). IsPermutation (q ∷ t.queue) queue) pair more in
        rw (arrival_is, at, is)
        (far_way s are priced.reduced residual short inside
        queue reached (rw (at, is) at listed) costs fits more')

-- what the code asks before a look
pub may_look : {n : ℕ} {p : Problem} {level count : ℕ} {entering : List ℕ} {a : ArcNo} {rest : List ArcNo}
    {t : Tables}
    → IsSearching p (length p.depths) level count entering (a ∷ rest) t → IsPriced n p.arcs p.flows p.depths
    → (count + 1 < 2 ^ 64) × (level ≤ 2 ^ 62) × ((arrival_at t.arrivals (tail_of p.arcs a)).arcs ≤ 4096)
    × (arc_index a < length p.arcs)
may_look {p = p} {a = a} {rest = rest} {t = t} s priced =
    let q = s.covered.of_rest a (Contains-here rest a) in
    let here = q.2 in
    let top = s.reached.level_in in
    let b = s.reached.bounded (tail_of p.arcs a) (omega arith) in
    let arcs = b.0 in
    let far = b.1 in
    let ones = ones_le t.settled 0 in
    let marks = s.reached.settled_size in
    let size = priced.size in
    let limit = priced.network.node_limit in
    let arc_limit = priced.network.arc_limit in
    let deep = priced.deep (tail_of p.arcs a) in
    let few = few_so_far s in
    (omega arith, omega arith, omega arith, q.0)

-- the node has a place in the tables
pub node_inside : {n : ℕ} {p : Problem} {level count : ℕ} {entering : List ℕ} {a : ArcNo} {rest : List ArcNo}
    {t : Tables} {node : ℕ}
    → IsSearching p (length p.depths) level count entering (a ∷ rest) t → IsPriced n p.arcs p.flows p.depths
    → tail_of p.arcs a ≡ node → node < length p.depths
node_inside {p = p} {a = a} s priced leaves =
    let are = subst (λ m. AreArcs m p.arcs) (sym priced.size) priced.network.arcs_in in
    let inside = tail_in (length p.depths) p.arcs a are (may_look s priced).3 in omega arith

-- and what is read of its arrival
pub few_arcs : {n : ℕ} {p : Problem} {level count : ℕ} {entering : List ℕ} {a : ArcNo} {rest : List ArcNo}
    {t : Tables} {node : ℕ} {b : Arrival}
    → IsSearching p (length p.depths) level count entering (a ∷ rest) t → IsPriced n p.arcs p.flows p.depths
    → tail_of p.arcs a ≡ node → b ≡ get_or t.arrivals node b → b.arcs ≤ 4096
few_arcs {p = p} {a = a} {t = t} {node = node} {b = b} s priced leaves read =
    let few = (may_look s priced).2 in
    let inside = node_inside s priced leaves in
    let size = s.reached.arrivals_size in
    let same : b ≡ arrival_at t.arrivals (tail_of p.arcs a) = read
    ∙ get_or_default t.arrivals node b no_arrival (omega arith) ∙ ap (arrival_at t.arrivals) (sym leaves) in
    rw same few

-- and after it looks are few
pub look_counts : {L : Type 0} {node_count : L → ℕ} {m m' : Counted L} {q : Query} {level : ℕ}
    {entering : List ℕ} {a : ArcNo} {rest : List ArcNo} {s : Search}
    → Searches node_count m q level entering (a ∷ rest) s → m' ≡ record m { count = m.count + 1 }
    → m'.count ≤ 2 * length m.network.arcs
look_counts {L = L} state e =
    let few = few_so_far state.now in
    let n = ap (λ (c : Counted L). c.count) e in
    omega arith

-- of a list of arcs that is looked over from its end the next one
pub next_arc_of : {L : Type 0} {node_count : L → ℕ} {m : Counted L} {q : Query} {level : ℕ} (xs : List ArcNo)
    (i : ℕ) {s : Search} → i < length xs
    → Searches node_count m q level [] (take (length xs - i) xs) s
    → Searches node_count m q level []
    (get_or xs (length xs - 1 - i) (Forward 0) ∷ take (length xs - (i + 1)) xs) s
next_arc_of xs i l state = search (arith, next_from_the_end)

-- the sink is entered next where a look at an arc to it found something to enter
pub comes_of : {L : Type 0} {node_count : L → ℕ} {m : Counted L} {q : Query} {level : ℕ} {rest : List ArcNo}
    {s : Search} (found : Option ℕ) → IfSome found (λ v. v ≡ q.sink)
    → Searches node_count m q level (option_list found) rest s
    → ComesTo (is_some found) node_count m q level rest s
comes_of None lead state = state
comes_of {node_count = node_count} {m = m} {q = q} {level = level} {rest = rest} {s = s} (Some v) lead state =
    (rest, subst (λ w. Searches node_count m q level (w ∷ []) rest s) lead state)
