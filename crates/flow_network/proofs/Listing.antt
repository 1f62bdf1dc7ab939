-- The lists of the arcs that leave each node.
use Rattle.std.proofs.Common.{◌≡◌, ℕ, zero, suc, ◌+◌, ◌<◌, ◌≤◌, cond, eqb, List, [], ◌∷◌, ◌++◌, length}
use Rattle.std.proofs.Common.{get_or, set, refl, ap, ◌∙◌, arith, append_assoc, get_or-set_same}
use Rattle.std.proofs.Common.{get_or-set_other, length-set, length-append}
use Rattle.std.proofs.lemmas.Bool.{cases_eq, eq-eqb, ne_eqb}
use Rattle.std.proofs.lemmas.Grind.{common_steps}
use Rattle.std.proofs.lemmas.List.{set-get_or}
use Rattle.flow_network.specs.declared.arcs.FlowArc.{FlowArc}
use Rattle.flow_network.specs.declared.arcs.ArcNo.{ArcNo}
use Rattle.flow_network.specs.declared.arcs.ArcNo.TheVariants.{Forward}
use Rattle.flow_network.specs.Flow.{IsFlow}
use Rattle.flow_network.specs.Flows.{arc_at, AreArcs, IsArc, WithinCapacities, own_leaving, leaving_from}
use Rattle.flow_network.specs.Flows.{listed_at, with_arc}

append_nil : (xs : List ArcNo) → xs ++ [] ≡ xs
append_nil [] = refl
append_nil (x ∷ xs) = ap (λ ys. x ∷ ys) (append_nil xs)

-- one arc more
pub leaving_from-push : (k : ℕ) (arcs : List FlowArc) (a : FlowArc) (u : ℕ)
    → leaving_from k (arcs ++ a ∷ []) u ≡ leaving_from k arcs u ++ own_leaving (k + length arcs) a u
leaving_from-push k [] a u = grind arith
leaving_from-push k (b ∷ arcs) a u = grind (arith, leaving_from-push (suc k) arcs a u)

-- what a list gets at a place
listed_at-at : (leaving : List (List ArcNo)) (v : ℕ) (b : ArcNo) (u : ℕ) → v < length leaving
    → get_or (listed_at leaving v b) u [] ≡ get_or leaving u [] ++ cond (eqb v u) (b ∷ []) []
listed_at-at leaving v b u l =
    grind (arith, cases_eq, eq-eqb, get_or-set_same, get_or, ne_eqb, get_or-set_other, append_nil)

pub with_arc-at : (leaving : List (List ArcNo)) (a : FlowArc) (k u : ℕ) → a.from < length leaving →
    a.to < length leaving
    → get_or (with_arc leaving a.from a.to k) u [] ≡ get_or leaving u [] ++ own_leaving k a u
with_arc-at leaving a k u l m = grind (arith, length-set, listed_at-at, append_assoc, get_or)

pub length-with_arc : (leaving : List (List ArcNo)) (from to k : ℕ) → length (with_arc leaving from to k)
    ≡ length leaving
length-with_arc leaving from to k = length-set (listed_at leaving from (Forward k)) to _
    ∙ length-set leaving from _

-- what was put into a list is taken out again
pub undone : (before : List (List ArcNo)) (v : ℕ) (x z : List ArcNo) → z ≡ get_or before v [] →
    set (set before v x) v z ≡ before
undone before v x z e = rw e (set_set before v x (get_or before v []) ∙ set-get_or before v [])
  where
    set_set : (xs : List (List ArcNo)) (i : ℕ) (v w : List ArcNo) → set (set xs i v) i w ≡ set xs i w
    set_set [] i v w = refl
    set_set (b ∷ xs) zero v w = refl
    set_set (b ∷ xs) (suc i) v w = ap (λ ys. b ∷ ys) (set_set xs i v w)

arcs_push : (nodes : ℕ) (arcs : List FlowArc) (a : FlowArc) → AreArcs nodes arcs → IsArc nodes a → (k : ℕ) →
    k < length (arcs ++ a ∷ []) → IsArc nodes (arc_at (arcs ++ a ∷ []) k)
arcs_push nodes [] a are one zero l = one
arcs_push nodes [] a are one (suc k) l = absurd (omega arith)
arcs_push nodes (b ∷ arcs) a are one zero l = are 0 (omega arith)
arcs_push nodes (b ∷ arcs) a are one (suc k) l =
    arcs_push nodes arcs a (λ j m. are (suc j) (omega arith)) one k (omega arith)

within_push : (arcs : List FlowArc) (flows : List ℕ) (a : FlowArc) → length flows ≡ length arcs →
    WithinCapacities arcs flows
    → (k : ℕ) → k < length (arcs ++ a ∷ []) →
    get_or (flows ++ 0 ∷ []) k 0 ≤ (arc_at (arcs ++ a ∷ []) k).capacity
within_push [] [] a e w zero l = omega arith
within_push [] [] a e w (suc k) l = absurd (omega arith)
within_push [] (f ∷ flows) a e w k l = absurd (omega arith)
within_push (b ∷ arcs) [] a e w k l = absurd (omega arith)
within_push (b ∷ arcs) (f ∷ flows) a e w zero l = w 0 (omega arith)
within_push (b ∷ arcs) (f ∷ flows) a e w (suc k) l =
    within_push arcs flows a (omega arith) (λ j m. w (suc j) (omega arith)) k (omega arith)

-- the network after an arc was added
pub flow_with_arc : (nodes : ℕ) (arcs : List FlowArc) (flows : List ℕ) (leaving : List (List ArcNo))
    (a : FlowArc) → IsFlow nodes arcs flows leaving → IsArc nodes a → length arcs < 1048576
    → IsFlow nodes (arcs ++ a ∷ []) (flows ++ 0 ∷ []) (with_arc leaving a.from a.to (length arcs))
flow_with_arc nodes arcs flows leaving a f one room =
    grind (
      arith,
      common_steps,
      length-append,
      arcs_push,
      within_push,
      length-with_arc,
      with_arc-at,
      leaving_from-push,
    )
