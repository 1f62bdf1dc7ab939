-- What a flow costs, node by node.
use Rattle.std.proofs.Common.{◌≡◌, ℕ, zero, suc, ◌+◌, ◌*◌, ◌<◌, ◌≤◌, cond, eqb, ltb, List, [], ◌∷◌, length}
use Rattle.std.proofs.Common.{get_or, refl, ap, inl, inr, arith}
use Rattle.std.proofs.lemmas.Bool.{cases_lt, cases_eq, eq-eqb, lt-ltb, le-ltb}
use Rattle.flow_network.specs.declared.arcs.FlowArc.{FlowArc}
use Rattle.flow_network.specs.Flows.{arc_at, outflow}
use Rattle.flow_network.specs.Laws.{flow_cost}
use Rattle.network_prices.proofs.Sums.{outflow-ge}

-- what the arcs cost that leave a node, and those that leave nodes below n
abbrev pub spent_at : List FlowArc → List ℕ → ℕ → ℕ
spent_at [] flows v = 0
spent_at (a ∷ arcs) [] v = 0
spent_at (a ∷ arcs) (f ∷ flows) v = cond (eqb a.from v) (f * a.cost) 0 + spent_at arcs flows v

abbrev pub spent : ℕ → List FlowArc → List ℕ → ℕ
spent n [] flows = 0
spent n (a ∷ arcs) [] = 0
spent n (a ∷ arcs) (f ∷ flows) = cond (ltb a.from n) (f * a.cost) 0 + spent n arcs flows

pub spent_none : (arcs : List FlowArc) (flows : List ℕ) → spent 0 arcs flows ≡ 0
spent_none [] flows = refl
spent_none (a ∷ arcs) [] = refl
spent_none (a ∷ arcs) (f ∷ flows) = let rest = spent_none arcs flows in
    rw (le-ltb a.from 0 (omega arith)) (omega arith)

pub spent_more : (n : ℕ) (arcs : List FlowArc) (flows : List ℕ)
    → spent (suc n) arcs flows ≡ spent n arcs flows + spent_at arcs flows n
spent_more n [] flows = refl
spent_more n (a ∷ arcs) [] = refl
spent_more n (a ∷ arcs) (f ∷ flows) = grind (arith, spent_more n arcs flows)

-- the other arcs are free of cost
pub spent_all : (n : ℕ) (arcs : List FlowArc) (flows : List ℕ)
    → ((k : ℕ) → k < length arcs → n ≤ (arc_at arcs k).from → (arc_at arcs k).cost ≡ 0)
    → flow_cost arcs flows ≡ spent n arcs flows
spent_all n [] flows free = refl
spent_all n (a ∷ arcs) [] free = refl
spent_all n (a ∷ arcs) (f ∷ flows) free =
    let rest = spent_all n arcs flows (λ k l past. free (suc k) (omega arith) past) in
    elim (cases_lt a.from n) [
      | inl l ↦ rw (lt-ltb a.from n l) (omega arith)
      | inr past ↦
          (let none : f * a.cost ≡ f * 0 = ap (λ (z : ℕ). f * z) (free 0 (omega arith) (omega arith)) in
          rw (le-ltb a.from n (omega arith)) (omega arith))
    ]

-- nothing is spent where no arc carries a unit
pub flow_cost_zero : (arcs : List FlowArc) (flows : List ℕ) → ((k : ℕ) → get_or flows k 0 ≡ 0) →
    flow_cost arcs flows ≡ 0
flow_cost_zero [] flows none = refl
flow_cost_zero (a ∷ arcs) [] none = refl
flow_cost_zero (a ∷ arcs) (f ∷ flows) none =
    let rest = flow_cost_zero arcs flows (λ k. none (suc k)) in
    let idle : f ≡ 0 = none 0 in
    let free : f * a.cost ≡ 0 * a.cost = ap (λ (z : ℕ). z * a.cost) idle in omega arith

-- where no unit leaves a node, nothing is spent there; where one does, what its arc costs
pub spent_nothing : (arcs : List FlowArc) (flows : List ℕ) (v : ℕ) → outflow arcs flows v ≡ 0 →
    spent_at arcs flows v ≡ 0
spent_nothing [] flows v none = refl
spent_nothing (a ∷ arcs) [] v none = refl
spent_nothing (a ∷ arcs) (f ∷ flows) v none = elim (cases_eq a.from v) [
  | inl e ↦
      (let all : f + outflow arcs flows v ≡ 0 = rw (eq-eqb a.from v e) at none in
      let rest = spent_nothing arcs flows v (omega arith) in
      let free : f * a.cost ≡ 0 * a.cost = ap (λ (z : ℕ). z * a.cost) (let idle : f ≡ 0 = omega arith in
      idle) in
      rw (eq-eqb a.from v e) (omega arith))
  | inr n ↦ grind (arith, spent_nothing arcs flows v (omega arith))
]

pub spent_one : (arcs : List FlowArc) (flows : List ℕ) (v k : ℕ) → length flows ≡ length arcs →
    outflow arcs flows v ≡ 1
    → k < length arcs → (arc_at arcs k).from ≡ v → 0 < get_or flows k 0 →
    spent_at arcs flows v ≡ (arc_at arcs k).cost
spent_one [] flows v k sizes one l from unit = absurd (omega arith)
spent_one (a ∷ arcs) [] v k sizes one l from unit = absurd (omega arith)
spent_one (a ∷ arcs) (f ∷ flows) v zero sizes one l from unit = grind (arith, eq-eqb, spent_nothing)
spent_one (a ∷ arcs) (f ∷ flows) v (suc k) sizes one l from unit =
    let some = outflow-ge arcs flows v k (omega arith) (omega arith) from in
    elim (cases_eq a.from v) [
      | inl e ↦ grind (arith, spent_one arcs flows v k (omega arith) (omega arith) (omega arith) from unit)
      | inr n ↦ grind (arith, spent_one arcs flows v k (omega arith) (omega arith) (omega arith) from unit)
    ]
