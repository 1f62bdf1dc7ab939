-- Covered and traced distances are least as far as the sink.
use Rattle.std.proofs.Common.{◌≡◌, ℕ, ◌+◌, ◌<◌, ◌≤◌, List, [], ◌∷◌, ap, inl, inr, arith}
use Rattle.std.proofs.lemmas.Bool.{cases_lt}
use Rattle.flow_network.specs.declared.arcs.FlowArc.{FlowArc}
use Rattle.flow_network.specs.declared.arcs.ArcNo.{ArcNo}
use Rattle.flow_network.specs.Flows.{tail_of, head_of, IsPath, reduced_cost, path_cost}
use Rattle.shortest_paths.specs.Lowering.{IsCovered}
use Rattle.shortest_paths.specs.ToSink.{far, IsLeastCost, IsSearched}

-- a path that goes on from a node within m comes to the sink within m and its cost
no_less : (arcs : List FlowArc) (flows : List ℕ) (h d : ℕ → ℕ) (sink : ℕ) → IsCovered arcs flows h d (d sink)
    → (path : List ArcNo) (u m : ℕ) → d u ≤ m → IsPath arcs flows path u sink
    → d sink ≤ m + path_cost arcs h path
no_less arcs flows h d sink covered [] u m at p = let same = ap d p in omega arith
no_less arcs flows h d sink covered (a ∷ path) u m at p =
    let from : d (tail_of arcs a) ≡ d u = ap d p.1 in
    elim (cases_lt (d (tail_of arcs a)) (d sink)) [
      | inr past ↦ omega arith
      | inl near ↦ elim (covered a p.0 near) [
        | inr past ↦ omega arith
        | inl on ↦ (let rest = no_less arcs flows h d sink covered path (head_of arcs a)
            (m + reduced_cost arcs h a) (omega arith) p.2 in omega arith)
      ]
    ]

pub searched_is_least : (arcs : List FlowArc) (flows : List ℕ) (h : ℕ → ℕ) (start sink : ℕ) (d : ℕ → ℕ)
    → IsSearched arcs flows h start sink d
    → (d sink < far → IsLeastCost arcs flows h start sink (d sink))
    × ((path : List ArcNo) → IsPath arcs flows path start sink → d sink ≤ path_cost arcs h path)
searched_is_least arcs flows h start sink d t =
    let begun = t.begun in
    let least = λ (path : List ArcNo) (p : IsPath arcs flows path start sink).
    (let most = no_less arcs flows h d sink t.covered path start 0 (omega arith) p in
    let here : d sink ≤ path_cost arcs h path = omega arith in here) in (
      (λ reached. let way = t.traced sink reached in
          record { path = way.0; leads = way.1; cost = way.2; least = least }),
      least,
    )
