-- A path is made arc by arc, as one goes down.
use Rattle.std.proofs.Common.{◌≡◌, ℕ, ◌<◌, List, [], ◌∷◌, ◌++◌, length, get_or, Option, Some}
use Rattle.std.proofs.Common.{None, refl, sym, ap, subst, inl, inr, ◌⊎◌, arith, Contains}
use Rattle.std.proofs.lemmas.List.Elements.{Contains-append_left}
use Rattle.flow_network.specs.declared.arcs.FlowArc.{FlowArc}
use Rattle.flow_network.specs.declared.arcs.ArcNo.{ArcNo}
use Rattle.flow_network.specs.declared.arcs.ArcNo.TheVariants.{Forward}
use Rattle.flow_network.specs.Flows.{arc_at, arc_index, tail_of, head_of, Lacks, IsDistinct, IsPath, IsResidual}
use Rattle.flow_network.proofs.Members.{Contains-here}
use Rattle.flow_network.proofs.Paths.{IsPath-append}
use Rattle.shortest_paths.specs.Lists.{ArcLists, AreResidualArcs, option_arcs, sink_arcs_at, stack_arcs}
use Rattle.shortest_paths.specs.Lowering.{IsTight, AreTight}
use Rattle.shortest_paths.specs.Matched.{GoesOver, GoesOnce}
use Rattle.augmenting_paths.specs.TightPath.{IsTightArc, IsTightPath}

-- what does not go over an arc's number does not have the arc
lacks_of : (a : ArcNo) (path : List ArcNo) → (GoesOver (arc_index a) path → ⊥) → Lacks a path
lacks_of a [] n = tt
lacks_of a (b ∷ path) n = ((λ e. n (inl (sym (ap arc_index e)))), lacks_of a path (λ o. n (inr o)))

pub distinct_once : (path : List ArcNo) → GoesOnce path → IsDistinct path
distinct_once [] once = tt
distinct_once (a ∷ path) once = (lacks_of a path once.0, distinct_once path once.1)

-- one arc more
pub GoesOver-push : (k : ℕ) (a : ArcNo) (path : List ArcNo) → GoesOver k (path ++ a ∷ [])
    → GoesOver k path ⊎ (arc_index a ≡ k)
GoesOver-push k a [] o = elim o [ inl e ↦ inr e | inr n ↦ absurd n ]
GoesOver-push k a (b ∷ path) o = elim o [
  | inl e ↦ inl (inl e)
  | inr more ↦ elim (GoesOver-push k a path more) [ inl old ↦ inl (inr old) | inr e ↦ inr e ]
]

GoesOnce-push : (a : ArcNo) (path : List ArcNo) → (GoesOver (arc_index a) path → ⊥) → GoesOnce path
    → GoesOnce (path ++ a ∷ [])
GoesOnce-push a [] n once = ((λ o. o), tt)
GoesOnce-push a (b ∷ path) n once = (
  (λ o. elim (GoesOver-push (arc_index b) a path o) [ inl old ↦ once.0 old | inr e ↦ n (inl (sym e)) ]),
  GoesOnce-push a path (λ o. n (inr o)) once.1,
)

AreTight-push : (arcs : List FlowArc) (h : ℕ → ℕ) (path : List ArcNo) (a : ArcNo)
    → AreTight arcs h path → IsTight arcs h a → AreTight arcs h (path ++ a ∷ [])
AreTight-push arcs h [] a t e = (e, tt)
AreTight-push arcs h (b ∷ path) a t e = (t.0, AreTight-push arcs h path a t.1 e)

pub tight_push : (arcs : List FlowArc) (flows : List ℕ) (h : ℕ → ℕ) (s v : ℕ) (path : List ArcNo) (a : ArcNo)
    → IsTightPath arcs flows h s v path → IsResidual arcs flows a → IsTight arcs h a → tail_of arcs a ≡ v
    → (GoesOver (arc_index a) path → ⊥) → IsTightPath arcs flows h s (head_of arcs a) (path ++ a ∷ [])
tight_push arcs flows h s v path a way residual tight from n =
    grind (arith, IsPath-append, GoesOnce-push, AreTight-push)

-- one arc less
pub GoesOver-before : (k : ℕ) (a : ArcNo) (path : List ArcNo) → GoesOver k path → GoesOver k (path ++ a ∷ [])
GoesOver-before k a [] o = absurd o
GoesOver-before k a (b ∷ path) (inl e) = inl e
GoesOver-before k a (b ∷ path) (inr o) = inr (GoesOver-before k a path o)

pub GoesOver-last : (a : ArcNo) (path : List ArcNo) → GoesOver (arc_index a) (path ++ a ∷ [])
GoesOver-last a [] = inl refl
GoesOver-last a (b ∷ path) = inr (GoesOver-last a path)

GoesOnce-pop : (a : ArcNo) (path : List ArcNo) → GoesOnce (path ++ a ∷ []) → GoesOnce path
GoesOnce-pop a [] once = tt
GoesOnce-pop a (b ∷ path) once =
    ((λ o. once.0 (GoesOver-before (arc_index b) a path o)), GoesOnce-pop a path once.1)

AreTight-pop : (arcs : List FlowArc) (h : ℕ → ℕ) (path : List ArcNo) (a : ArcNo)
    → AreTight arcs h (path ++ a ∷ []) → AreTight arcs h path
AreTight-pop arcs h [] a t = tt
AreTight-pop arcs h (b ∷ path) a t = (t.0, AreTight-pop arcs h path a t.1)

IsPath-pop : (arcs : List FlowArc) (flows : List ℕ) (path : List ArcNo) (a : ArcNo) (u v : ℕ)
    → IsPath arcs flows (path ++ a ∷ []) u v → IsPath arcs flows path u (tail_of arcs a)
IsPath-pop arcs flows [] a u v p = sym p.1
IsPath-pop arcs flows (b ∷ path) a u v p = (p.0, p.1, IsPath-pop arcs flows path a _ v p.2)

pub last_residual : (arcs : List FlowArc) (flows : List ℕ) (path : List ArcNo) (a : ArcNo) (u v : ℕ)
    → IsPath arcs flows (path ++ a ∷ []) u v → IsResidual arcs flows a
last_residual arcs flows [] a u v p = p.0
last_residual arcs flows (b ∷ path) a u v p = last_residual arcs flows path a _ v p.2

pub tight_pop : (arcs : List FlowArc) (flows : List ℕ) (h : ℕ → ℕ) (s v : ℕ) (path : List ArcNo) (a : ArcNo)
    → IsTightPath arcs flows h s v (path ++ a ∷ []) → IsTightPath arcs flows h s (tail_of arcs a) path
tight_pop arcs flows h s v path a way = grind (arith, IsPath-pop, GoesOnce-pop, AreTight-pop)

-- the arc to the sink of a node, and an inner one
pub sink_arc_on : {arcs : List FlowArc} {flows : List ℕ} {sink : ℕ} {g : ArcLists} {v on : ℕ}
    → AreResidualArcs arcs flows sink g → get_or g.sink_arcs v None ≡ Some on
    → (on < length arcs) × ((arc_at arcs on).from ≡ v)
sink_arc_on {g = g} {v = v} {on = on} lists e =
    let i : Contains (sink_arcs_at g v) (Forward on) =
    subst (λ (o : Option ℕ). Contains (option_arcs o) (Forward on)) (sym e) (Contains-here [] (Forward on)) in
    lists.own v (Forward on) (Contains-append_left (sink_arcs_at g v) (stack_arcs g v) (Forward on) i)

-- the path over an arc of s and the arc to the sink that goes on from its end
pub two_arcs : {arcs : List FlowArc} {flows : List ℕ} {h : ℕ → ℕ} {sink s on : ℕ} {g : ArcLists} {a : ArcNo}
    → AreResidualArcs arcs flows sink g → get_or g.sink_arcs (head_of arcs a) None ≡ Some on
    → tail_of arcs a ≡ s → (arc_index a ≡ on → ⊥) → IsTightArc arcs flows h a
    → IsTightArc arcs flows h (Forward on) → IsTightPath arcs flows h s sink (a ∷ Forward on ∷ [])
two_arcs {arcs = arcs} {on = on} {g = g} {a = a} lists e from apart first last =
    let i : Contains (sink_arcs_at g (head_of arcs a)) (Forward on) =
    subst (λ (o : Option ℕ). Contains (option_arcs o) (Forward on)) (sym e) (Contains-here [] (Forward on)) in
    record {
      leads = (first.residual, from, (last.residual, (sink_arc_on lists e).1, lists.sink_arcs_lead _ _ i));
      once = ((λ o. elim o [ inl same ↦ apart (sym same) | inr n ↦ n ]), ((λ n. n), tt));
      tight = (first.tight, (last.tight, tt));
    }
