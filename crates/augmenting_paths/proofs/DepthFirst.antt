-- A trail grows at its end, or loses its last arc.
use Rattle.std.proofs.Common.{ℕ, ◌<◌, List, ◌∷◌, ◌++◌, [], Bool, true, false, length, map, get_or, set, ap}
use Rattle.std.proofs.Common.{◌∙◌, subst, inl, inr, arith, get_or-set_same, get_or-set_other, All}
use Rattle.std.proofs.lemmas.Bool.{cases_eq}
use Rattle.std.specs.Prelude.{slice_index}
use Rattle.std.proofs.lemmas.List.Elements.{Contains-get_or, Contains-append_left, Contains-append_right}
use Rattle.flow_network.specs.declared.arcs.FlowArc.{FlowArc}
use Rattle.flow_network.specs.declared.arcs.ArcNo.{ArcNo}
use Rattle.flow_network.specs.declared.arcs.ArcNo.TheVariants.{Forward, Reverse}
use Rattle.flow_network.specs.Flows.{arc_at, arc_index, tail_of, head_of, leaving_of}
use Rattle.flow_network.proofs.Listed.{leaving_at}
use Rattle.flow_network.proofs.Members.{Contains-map}
use Rattle.shortest_paths.specs.Lists.{ArcLists, AreResidualArcs, sink_arcs_at, stack_arcs, inner_at, matched_at}
use Rattle.augmenting_paths.specs.DepthFirst.{GoesOn, IsClosed, IsOf, IsTrail}
use Rattle.augmenting_paths.proofs.TightPath.{tight_push, tight_pop, GoesOver-push, GoesOver-before, GoesOver-last}

-- both ends of an arc are closed
abbrev AreClosed : List FlowArc → List Bool → ℕ → Type 0
AreClosed arcs closed k =
    IsClosed closed (arc_at arcs k).from × IsClosed closed (arc_at arcs k).to

tail_closed : (arcs : List FlowArc) (closed : List Bool) (a : ArcNo)
    → AreClosed arcs closed (arc_index a) → IsClosed closed (tail_of arcs a)
tail_closed arcs closed (Forward k) e = e.0
tail_closed arcs closed (Reverse k) e = e.1

head_closed : (arcs : List FlowArc) (closed : List Bool) (a : ArcNo)
    → AreClosed arcs closed (arc_index a) → IsClosed closed (head_of arcs a)
head_closed arcs closed (Forward k) e = e.1
head_closed arcs closed (Reverse k) e = e.0

ends_closed : (arcs : List FlowArc) (closed : List Bool) (a : ArcNo)
    → IsClosed closed (tail_of arcs a) → IsClosed closed (head_of arcs a)
    → AreClosed arcs closed (arc_index a)
ends_closed arcs closed (Forward k) t h = (t, h)
ends_closed arcs closed (Reverse k) t h = (h, t)

-- one node more is closed
stays_closed : (closed : List Bool) (v w : ℕ) → v < length closed → IsClosed closed w
    → IsClosed (set closed v true) w
stays_closed closed v w l c = grind (arith, cases_eq, get_or-set_same, get_or-set_other)

pub trail_goes_on : {arcs : List FlowArc} {flows : List ℕ} {h : ℕ → ℕ} {closed : List Bool} {s v : ℕ}
    {path : List ArcNo} {a : ArcNo} → IsTrail arcs flows h closed s v path
    → GoesOn arcs flows h closed v a → head_of arcs a < length closed
    → IsTrail arcs flows h (set closed (head_of arcs a) true) s (head_of arcs a) (path ++ a ∷ [])
trail_goes_on {arcs} {flows} {h} {closed} {s} {v} {path} {a} trail on l =
    let stays : (w : ℕ) → IsClosed closed w
    → IsClosed (set closed (head_of arcs a) true) w =
    λ w. stays_closed closed (head_of arcs a) w l in
    let here : IsClosed (set closed (head_of arcs a) true) (head_of arcs a) =
    get_or-set_same closed (head_of arcs a) true false l in
    let tail : IsClosed closed (tail_of arcs a) =
    ap (λ w. get_or closed w false) on.from ∙ trail.here in
    record {
      way = tight_push arcs flows h s v path a trail.way on.open_arc.residual on.open_arc.tight on.from
          (λ o. on.open_arc.fresh (head_closed arcs closed a (trail.ends (arc_index a) o)));
      here = here;
      ends = λ k o. elim (GoesOver-push k a path o) [
        | inl old ↦ (stays _ (trail.ends k old).0, stays _ (trail.ends k old).1)
        | inr e ↦ subst (λ j. AreClosed arcs (set closed (head_of arcs a) true) j) e
            (ends_closed arcs _ a (stays _ tail) here)
      ];
    }

pub trail_goes_back : {arcs : List FlowArc} {flows : List ℕ} {h : ℕ → ℕ} {closed : List Bool} {s v : ℕ}
    (path : List ArcNo) (a : ArcNo) → IsTrail arcs flows h closed s v (path ++ a ∷ [])
    → IsTrail arcs flows h closed s (tail_of arcs a) path
trail_goes_back {arcs} {flows} {h} {closed} {s} {v} path a trail = record {
  way = tight_pop arcs flows h s v path a trail.way;
  here = tail_closed arcs closed a (trail.ends (arc_index a) (GoesOver-last a path));
  ends = λ k o. trail.ends k (GoesOver-before k a path o);
}

-- the arcs of the lists leave their nodes
pub own_of : (arcs : List FlowArc) (v : ℕ) → All (IsOf arcs v) (leaving_of arcs v)
own_of arcs v k d l = let o = leaving_at arcs v k d l in record { listed = o.0; from = o.1 }

module _ {arcs : List FlowArc} {flows : List ℕ} {sink : ℕ} {g : ArcLists} (v : ℕ)
    (lists : AreResidualArcs arcs flows sink g) where
  pub inner_of : All (IsOf arcs v) (inner_at g v)
  inner_of k d l =
      let o = lists.own v _ (Contains-append_right (sink_arcs_at g v) (stack_arcs g v) _
      (Contains-append_right (map Reverse (matched_at g v)) (inner_at g v) _
      (Contains-get_or (inner_at g v) k d l))) in record { listed = o.0; from = o.1 }

  pub matched_of : (i : ℕ) → i < length (matched_at g v)
      → IsOf arcs v (Reverse (slice_index (matched_at g v) i))
  matched_of i l =
      let o = lists.own v (Reverse (slice_index (matched_at g v) i))
      (Contains-append_right (sink_arcs_at g v) (stack_arcs g v) _
      (Contains-append_left (map Reverse (matched_at g v)) (inner_at g v) _
      (Contains-map Reverse (matched_at g v) _ (Contains-get_or (matched_at g v) i 0 l)))) in
      record { listed = o.0; from = o.1 }
