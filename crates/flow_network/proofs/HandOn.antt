-- Sums of flows over the first arcs.
use Rattle.std.proofs.Common.{◌≡◌, ℕ, zero, suc, ◌+◌, ◌<◌, ◌≤◌, cond, eqb, List, [], ◌∷◌, length, get_or}
use Rattle.std.proofs.Common.{take, refl, sym, arith}
use Rattle.std.proofs.lemmas.Bool.{eq-eqb, ne_eqb}
use Rattle.flow_network.specs.declared.arcs.FlowArc.{FlowArc}
use Rattle.flow_network.specs.Flows.{arc_at, inflow, outflow}
use Rattle.flow_network.specs.Laws.{EnoughWait}

-- no arc leads to the node
pub inflow_none : (arcs : List FlowArc) (flows : List ℕ) (u : ℕ) →
    ((i : ℕ) → i < length arcs → (arc_at arcs i).to ≡ u → ⊥) → inflow arcs flows u ≡ 0
inflow_none [] flows u n = refl
inflow_none (a ∷ arcs) [] u n = refl
inflow_none (a ∷ arcs) (f ∷ flows) u n =
    let rest = inflow_none arcs flows u (λ i l e. n (suc i) (omega arith) e) in
    rw (ne_eqb a.to u (λ e. n 0 (omega arith) e)) (omega arith)

-- no arc from number j on leads to the node
inflow-take : (arcs : List FlowArc) (flows : List ℕ) (u j : ℕ) → length flows ≡ length arcs →
    ((i : ℕ) → j ≤ i → i < length arcs → (arc_at arcs i).to ≡ u → ⊥)
    → inflow (take j arcs) (take j flows) u ≡ inflow arcs flows u
inflow-take arcs flows u zero e n = sym (inflow_none arcs flows u (λ i l q. n i (omega arith) l q))
inflow-take [] flows u (suc j) e n = refl
inflow-take (a ∷ arcs) [] u (suc j) e n = absurd (omega arith)
inflow-take (a ∷ arcs) (f ∷ flows) u (suc j) e n =
    let rest = inflow-take arcs flows u j (omega arith) (λ i m l q. n (suc i) (omega arith) (omega arith) q)
    in omega arith

-- the arcs before j and arc j give no more than all
outflow-take : (arcs : List FlowArc) (flows : List ℕ) (u j : ℕ) → length flows ≡ length arcs →
    j < length arcs → (arc_at arcs j).from ≡ u
    → outflow (take j arcs) (take j flows) u + get_or flows j 0 ≤ outflow arcs flows u
outflow-take [] flows u j e l at = absurd (omega arith)
outflow-take (a ∷ arcs) [] u j e l at = absurd (omega arith)
outflow-take (a ∷ arcs) (f ∷ flows) u zero e l at = rw (eq-eqb a.from u at) (omega arith)
outflow-take (a ∷ arcs) (f ∷ flows) u (suc j) e l at = let rest =
    outflow-take arcs flows u j (omega arith) (omega arith) at in omega arith

pub enough_wait : EnoughWait
enough_wait arcs flows u j extra waiting e l at none balance now = grind (arith, inflow-take, outflow-take)

-- one arc more of the first ones
pub inflow-more : (arcs : List FlowArc) (flows : List ℕ) (v k : ℕ) → length flows ≡ length arcs →
    k < length arcs
    → inflow (take (k + 1) arcs) (take (k + 1) flows) v ≡ inflow (take k arcs) (take k flows) v
    + cond (eqb (arc_at arcs k).to v) (get_or flows k 0) 0
inflow-more [] flows v k e l = absurd (omega arith)
inflow-more (a ∷ arcs) [] v k e l = absurd (omega arith)
inflow-more (a ∷ arcs) (f ∷ flows) v zero e l = omega arith
inflow-more (a ∷ arcs) (f ∷ flows) v (suc k) e l =
    let next : suc k + 1 ≡ suc (k + 1) = omega arith in
    let rest = inflow-more arcs flows v k (omega arith) (omega arith) in rw next (omega arith)

pub outflow-more : (arcs : List FlowArc) (flows : List ℕ) (v k : ℕ) → length flows ≡ length arcs →
    k < length arcs
    → outflow (take (k + 1) arcs) (take (k + 1) flows) v ≡ outflow (take k arcs) (take k flows) v
    + cond (eqb (arc_at arcs k).from v) (get_or flows k 0) 0
outflow-more [] flows v k e l = absurd (omega arith)
outflow-more (a ∷ arcs) [] v k e l = absurd (omega arith)
outflow-more (a ∷ arcs) (f ∷ flows) v zero e l = omega arith
outflow-more (a ∷ arcs) (f ∷ flows) v (suc k) e l =
    let next : suc k + 1 ≡ suc (k + 1) = omega arith in
    let rest = outflow-more arcs flows v k (omega arith) (omega arith) in rw next (omega arith)
