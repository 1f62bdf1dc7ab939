-- Sums of flows at a node, against single arcs and capacities.
use Rattle.std.proofs.Common.{◌≡◌, ℕ, zero, suc, ◌+◌, ◌<◌, ◌≤◌, eqb, List, [], ◌∷◌}
use Rattle.std.proofs.Common.{length, get_or, refl, ap, inl, inr, arith}
use Rattle.std.proofs.lemmas.Bool.{cases_Bool, eq-eqb}
use Rattle.flow_network.specs.declared.arcs.FlowArc.{FlowArc}
use Rattle.flow_network.specs.Flows.{arc_at, WithinCapacities, inflow, outflow}
use Rattle.flow_network.specs.Laws.{outroom, RoomBelowIsRoomAbove}

within-tail : (a : FlowArc) (arcs : List FlowArc) (f : ℕ) (flows : List ℕ) →
    WithinCapacities (a ∷ arcs) (f ∷ flows) → WithinCapacities arcs flows
within-tail a arcs f flows w k l = w (suc k) (omega arith)

-- what leaves a node is no more than its arcs take
pub outflow-le : (arcs : List FlowArc) (flows : List ℕ) (v : ℕ) → WithinCapacities arcs flows →
    outflow arcs flows v ≤ outroom arcs v
outflow-le [] flows v w = omega arith
outflow-le (a ∷ arcs) [] v w = omega arith
outflow-le (a ∷ arcs) (f ∷ flows) v w =
    let first = w 0 (omega arith) in
    let rest = outflow-le arcs flows v (within-tail a arcs f flows w) in
    elim (cases_Bool (eqb a.from v)) [ inl t ↦ rw t (omega arith) | inr n ↦ rw n (omega arith) ]

-- one arc with room
pub outflow-lt : (arcs : List FlowArc) (flows : List ℕ) (v i : ℕ) → length flows ≡ length arcs →
    WithinCapacities arcs flows → i < length arcs → (arc_at arcs i).from ≡ v
    → get_or flows i 0 < (arc_at arcs i).capacity → outflow arcs flows v < outroom arcs v
outflow-lt [] flows v i e w l at m = absurd (omega arith)
outflow-lt (a ∷ arcs) [] v i e w l at m = absurd (omega arith)
outflow-lt (a ∷ arcs) (f ∷ flows) v zero e w l at m =
    let rest = outflow-le arcs flows v (within-tail a arcs f flows w) in rw (eq-eqb a.from v at) (omega arith)
outflow-lt (a ∷ arcs) (f ∷ flows) v (suc i) e w l at m =
    let rest = outflow-lt arcs flows v i (omega arith) (within-tail a arcs f flows w) (omega arith) at m in
    let first = w 0 (omega arith) in
    elim (cases_Bool (eqb a.from v)) [ inl t ↦ rw t (omega arith) | inr n ↦ rw n (omega arith) ]

-- one arc's flow, and two arcs'
pub inflow-ge : (arcs : List FlowArc) (flows : List ℕ) (v j : ℕ) → length flows ≡ length arcs →
    j < length arcs →
    (arc_at arcs j).to ≡ v → get_or flows j 0 ≤ inflow arcs flows v
inflow-ge [] flows v j e l at = absurd (omega arith)
inflow-ge (a ∷ arcs) [] v j e l at = absurd (omega arith)
inflow-ge (a ∷ arcs) (f ∷ flows) v zero e l at = rw (eq-eqb a.to v at) (omega arith)
inflow-ge (a ∷ arcs) (f ∷ flows) v (suc j) e l at = let rest =
    inflow-ge arcs flows v j (omega arith) (omega arith) at in omega arith

inflow-ge_two : (arcs : List FlowArc) (flows : List ℕ) (v i j : ℕ) → length flows ≡ length arcs →
    i < length arcs → j < length arcs → (arc_at arcs i).to ≡ v → (arc_at arcs j).to ≡ v
    → (i ≡ j → ⊥) → get_or flows i 0 + get_or flows j 0 ≤ inflow arcs flows v
inflow-ge_two [] flows v i j e l m p q n = absurd (omega arith)
inflow-ge_two (a ∷ arcs) [] v i j e l m p q n = absurd (omega arith)
inflow-ge_two (a ∷ arcs) (f ∷ flows) v zero zero e l m p q n = absurd (n refl)
inflow-ge_two (a ∷ arcs) (f ∷ flows) v zero (suc j) e l m p q n =
    let rest = inflow-ge arcs flows v j (omega arith) (omega arith) q in rw (eq-eqb a.to v p) (omega arith)
inflow-ge_two (a ∷ arcs) (f ∷ flows) v (suc i) zero e l m p q n =
    let rest = inflow-ge arcs flows v i (omega arith) (omega arith) p in rw (eq-eqb a.to v q) (omega arith)
inflow-ge_two (a ∷ arcs) (f ∷ flows) v (suc i) (suc j) e l m p q n =
    let rest = inflow-ge_two arcs flows v i j (omega arith) (omega arith) (omega arith) p q
    (λ s. n (ap suc s)) in omega arith

pub room_above : RoomBelowIsRoomAbove
room_above arcs flows v j e w balance l at cap =
    grind (arith, outflow-lt, inflow-ge, outflow-le, inflow-ge_two)
