-- Sums of flows and of capacities at a node, against single arcs.
use Rattle.std.proofs.Common.{◌≡◌, ℕ, zero, suc, ◌+◌, ◌<◌, ◌≤◌, cond, eqb, ltb, List, []}
use Rattle.std.proofs.Common.{◌∷◌, length, get_or, refl, ap, inl, inr, arith}
use Rattle.std.proofs.lemmas.Bool.{cases_eq, eq-eqb, ne_eqb, lt-ltb, le-ltb}
use Rattle.flow_network.specs.declared.arcs.FlowArc.{FlowArc}
use Rattle.flow_network.specs.Flows.{arc_at, inflow, outflow}
use Rattle.flow_network.specs.Laws.{outroom}

pub outflow-ge : (arcs : List FlowArc) (flows : List ℕ) (v j : ℕ) → length flows ≡ length arcs →
    j < length arcs → (arc_at arcs j).from ≡ v → get_or flows j 0 ≤ outflow arcs flows v
outflow-ge [] flows v j e l at = absurd (omega arith)
outflow-ge (a ∷ arcs) [] v j e l at = absurd (omega arith)
outflow-ge (a ∷ arcs) (f ∷ flows) v zero e l at = rw (eq-eqb a.from v at) (omega arith)
outflow-ge (a ∷ arcs) (f ∷ flows) v (suc j) e l at = let rest =
    outflow-ge arcs flows v j (omega arith) (omega arith) at in omega arith

pub outflow-ge_two : (arcs : List FlowArc) (flows : List ℕ) (v i j : ℕ) → length flows ≡ length arcs →
    i < length arcs → j < length arcs → (arc_at arcs i).from ≡ v → (arc_at arcs j).from ≡ v
    → (i ≡ j → ⊥) → get_or flows i 0 + get_or flows j 0 ≤ outflow arcs flows v
outflow-ge_two [] flows v i j e l m p q n = absurd (omega arith)
outflow-ge_two (a ∷ arcs) [] v i j e l m p q n = absurd (omega arith)
outflow-ge_two (a ∷ arcs) (f ∷ flows) v zero zero e l m p q n = absurd (n refl)
outflow-ge_two (a ∷ arcs) (f ∷ flows) v zero (suc j) e l m p q n =
    let rest = outflow-ge arcs flows v j (omega arith) (omega arith) q in rw (eq-eqb a.from v p) (omega arith)
outflow-ge_two (a ∷ arcs) (f ∷ flows) v (suc i) zero e l m p q n =
    let rest = outflow-ge arcs flows v i (omega arith) (omega arith) p in rw (eq-eqb a.from v q) (omega arith)
outflow-ge_two (a ∷ arcs) (f ∷ flows) v (suc i) (suc j) e l m p q n =
    let rest = outflow-ge_two arcs flows v i j (omega arith) (omega arith) (omega arith) p q
    (λ s. n (ap suc s)) in omega arith

-- what one arc can carry, and what two can
pub outroom-ge : (arcs : List FlowArc) (v j : ℕ) → j < length arcs → (arc_at arcs j).from ≡ v →
    (arc_at arcs j).capacity ≤ outroom arcs v
outroom-ge [] v j l at = absurd (omega arith)
outroom-ge (a ∷ arcs) v zero l at = rw (eq-eqb a.from v at) (omega arith)
outroom-ge (a ∷ arcs) v (suc j) l at = let rest = outroom-ge arcs v j (omega arith) at in omega arith

pub outroom-ge_two : (arcs : List FlowArc) (v i j : ℕ) → i < length arcs → j < length arcs →
    (arc_at arcs i).from ≡ v → (arc_at arcs j).from ≡ v → (i ≡ j → ⊥)
    → (arc_at arcs i).capacity + (arc_at arcs j).capacity ≤ outroom arcs v
outroom-ge_two [] v i j l m p q n = absurd (omega arith)
outroom-ge_two (a ∷ arcs) v zero zero l m p q n = absurd (n refl)
outroom-ge_two (a ∷ arcs) v zero (suc j) l m p q n =
    let rest = outroom-ge arcs v j (omega arith) q in rw (eq-eqb a.from v p) (omega arith)
outroom-ge_two (a ∷ arcs) v (suc i) zero l m p q n =
    let rest = outroom-ge arcs v i (omega arith) p in rw (eq-eqb a.from v q) (omega arith)
outroom-ge_two (a ∷ arcs) v (suc i) (suc j) l m p q n =
    let rest = outroom-ge_two arcs v i j (omega arith) (omega arith) p q (λ s. n (ap suc s)) in omega arith

-- what the arcs carry that leave nodes below n
abbrev pub given : ℕ → List FlowArc → List ℕ → ℕ
given n [] flows = 0
given n (a ∷ arcs) [] = 0
given n (a ∷ arcs) (f ∷ flows) = cond (ltb a.from n) f 0 + given n arcs flows

pub given_none : (arcs : List FlowArc) (flows : List ℕ) → given 0 arcs flows ≡ 0
given_none [] flows = refl
given_none (a ∷ arcs) [] = refl
given_none (a ∷ arcs) (f ∷ flows) = let rest = given_none arcs flows in
    rw (le-ltb a.from 0 (omega arith)) (omega arith)

pub part_more : (u n f : ℕ) → cond (ltb u (suc n)) f 0 ≡ cond (ltb u n) f 0 + cond (eqb u n) f 0
part_more u n f = grind arith

pub given_more : (n : ℕ) (arcs : List FlowArc) (flows : List ℕ) →
    given (suc n) arcs flows ≡ given n arcs flows + outflow arcs flows n
given_more n [] flows = refl
given_more n (a ∷ arcs) [] = refl
given_more n (a ∷ arcs) (f ∷ flows) = grind (arith, given_more n arcs flows)

-- a node that is fed by nodes below n alone has no more than what those give, and what they give elsewhere
-- besides
inflow-given : (n : ℕ) (arcs : List FlowArc) (flows : List ℕ) (v : ℕ) →
    ((k : ℕ) → k < length arcs → (arc_at arcs k).to ≡ v → (arc_at arcs k).from < n)
    → inflow arcs flows v ≤ given n arcs flows
inflow-given n [] flows v fed = omega arith
inflow-given n (a ∷ arcs) [] v fed = omega arith
inflow-given n (a ∷ arcs) (f ∷ flows) v fed =
    let rest = inflow-given n arcs flows v (λ k l e. fed (suc k) (omega arith) e) in
    elim (cases_eq a.to v) [
      | inl e ↦ rw (eq-eqb a.to v e, lt-ltb a.from n (fed 0 (omega arith) e)) (omega arith)
      | inr d ↦ rw (ne_eqb a.to v d) (omega arith)
    ]

pub inflow-given_two : (n : ℕ) (arcs : List FlowArc) (flows : List ℕ) (v i : ℕ) →
    ((k : ℕ) → k < length arcs → (arc_at arcs k).to ≡ v → (arc_at arcs k).from < n)
    → i < length arcs → (arc_at arcs i).from < n → ((arc_at arcs i).to ≡ v → ⊥) →
    inflow arcs flows v + get_or flows i 0 ≤ given n arcs flows
inflow-given_two n [] flows v i fed l low off = absurd (omega arith)
inflow-given_two n (a ∷ arcs) [] v i fed l low off = omega arith
inflow-given_two n (a ∷ arcs) (f ∷ flows) v zero fed l low off =
    let rest = inflow-given n arcs flows v (λ k m e. fed (suc k) (omega arith) e) in
    rw (ne_eqb a.to v off, lt-ltb a.from n low) (omega arith)
inflow-given_two n (a ∷ arcs) (f ∷ flows) v (suc i) fed l low off =
    let rest = inflow-given_two n arcs flows v i (λ k m e. fed (suc k) (omega arith) e) (omega arith) low off
    in
    elim (cases_eq a.to v) [
      | inl e ↦ rw (eq-eqb a.to v e, lt-ltb a.from n (fed 0 (omega arith) e)) (omega arith)
      | inr d ↦ rw (ne_eqb a.to v d) (omega arith)
    ]
