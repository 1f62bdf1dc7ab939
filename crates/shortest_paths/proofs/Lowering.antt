-- Lowering, tight arcs, pushes over them, and the lift of a source: each looks at one arc at a time.
use Rattle.std.proofs.Common.{◌≡◌, ℕ, ◌+◌, ◌-◌, ◌<◌, ◌≤◌, List, [], ◌∷◌, length, get_or, ap, inl, inr, arith}
use Rattle.std.proofs.Common.{get_or-set_other}
use Rattle.std.proofs.lemmas.Bool.{cases_eq}
use Rattle.flow_network.specs.declared.arcs.FlowArc.{FlowArc}
use Rattle.flow_network.specs.declared.arcs.ArcNo.{ArcNo}
use Rattle.flow_network.specs.declared.arcs.ArcNo.TheVariants.{Forward, Reverse}
use Rattle.flow_network.specs.Flows.{arc_at, tail_of, head_of, IsResidual, IsPath, NoNegative, reduced_cost}
use Rattle.flow_network.specs.Flows.{path_cost, pushed, shifted}
use Rattle.shortest_paths.specs.Lowering.{lowered, IsCovered, AreTight, AreSteps}

-- the end of a covered arc lacks no less of the total than its start does, but for the arc's cost
lacks : (arcs : List FlowArc) (flows : List ℕ) (h d : ℕ → ℕ) (total : ℕ) → IsCovered arcs flows h d total
    → (a : ArcNo) → IsResidual arcs flows a
    → total - d (tail_of arcs a) ≤ (total - d (head_of arcs a)) + reduced_cost arcs h a
lacks arcs flows h d total covered a r = grind arith

-- where each arc is covered, lowering leaves no residual arc negative
pub lowering_law : (arcs : List FlowArc) (flows : List ℕ) (h d : ℕ → ℕ) (total : ℕ)
    → NoNegative arcs flows h → IsCovered arcs flows h d total → NoNegative arcs flows (lowered h d total)
lowering_law arcs flows h d total none covered k l = (
  (λ room.
      let r : IsResidual arcs flows (Forward k) = record { listed = l; room = omega arith } in
      let f = lacks arcs flows h d total covered (Forward k) r in
      let old = (none k l).0 room in
      omega arith),
  (λ unit.
      let r : IsResidual arcs flows (Reverse k) = record { listed = l; room = unit } in
      let f = lacks arcs flows h d total covered (Reverse k) r in
      let old = (none k l).1 unit in
      omega arith),
)

-- a unit over tight arcs leaves no residual arc negative
pub push_law : (arcs : List FlowArc) (flows : List ℕ) (h : ℕ → ℕ) (path : List ArcNo)
    → AreTight arcs h path → NoNegative arcs flows h → NoNegative arcs (pushed path flows) h
push_law arcs flows h [] tight none = none
push_law arcs flows h ((Forward i) ∷ path) tight none = push_law arcs (shifted flows (Forward i)) h path
    tight.1 (λ k l.
    elim (cases_eq k i) [
      | inl s ↦ ((λ _. rw s (let e = tight.0 in omega arith)), (λ _. rw s (let e = tight.0 in omega arith)))
      | inr s ↦ rw (get_or-set_other flows i k (get_or flows i 0 + 1) 0 s) (none k l)
    ])
push_law arcs flows h ((Reverse i) ∷ path) tight none = push_law arcs (shifted flows (Reverse i)) h path
    tight.1 (λ k l.
    elim (cases_eq k i) [
      | inl s ↦ ((λ _. rw s (let e = tight.0 in omega arith)), (λ _. rw s (let e = tight.0 in omega arith)))
      | inr s ↦ rw (get_or-set_other flows i k (get_or flows i 0 - 1) 0 s) (none k l)
    ])

-- the depth of a node that no arc enters, and whose own arcs carry nothing, may be what these allow
pub lift_law : (arcs : List FlowArc) (flows : List ℕ) (h h' : ℕ → ℕ) (s : ℕ)
    → NoNegative arcs flows h → ((v : ℕ) → (v ≡ s → ⊥) → h' v ≡ h v)
    → ((k : ℕ) → k < length arcs → (arc_at arcs k).to ≡ s → ⊥)
    → ((k : ℕ) → k < length arcs → (arc_at arcs k).from ≡ s → get_or flows k 0 ≡ 0)
    → ((k : ℕ) → k < length arcs → (arc_at arcs k).from ≡ s → 0 < (arc_at arcs k).capacity
    → h' s ≤ (arc_at arcs k).cost + h (arc_at arcs k).to)
    → NoNegative arcs flows h'
lift_law arcs flows h h' s none same closed unused own k l = grind arith

-- each step of a path to a node within the total is tight once the depths are lowered
pub steps_tight : (arcs : List FlowArc) (flows : List ℕ) (h d : ℕ
    → ℕ) (total : ℕ) (path : List ArcNo) (u v : ℕ)
    → NoNegative arcs flows h → IsPath arcs flows path u v → AreSteps arcs h d path → d v ≤ total
    → AreTight arcs (lowered h d total) path × (d u ≤ d v)
steps_tight arcs flows h d total [] u v none p steps within = (tt, rw p (omega arith))
steps_tight arcs flows h d total (a ∷ path) u v none p steps within =
    grind (arith, steps_tight arcs flows h d total path (head_of arcs a) v none p.2 steps.1 within)

-- and together they cost what the ends lie apart
pub steps_cost : (arcs : List FlowArc) (flows : List ℕ) (h d : ℕ → ℕ) (path : List ArcNo) (u v : ℕ)
    → IsPath arcs flows path u v → AreSteps arcs h d path → d u + path_cost arcs h path ≡ d v
steps_cost arcs flows h d [] u v p steps = let same = ap d p in omega arith
steps_cost arcs flows h d (a ∷ path) u v p steps =
    grind (arith, steps_cost arcs flows h d path (head_of arcs a) v p.2 steps.1)
