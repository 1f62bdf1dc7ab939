-- What one unit over a path changes: rooms, lengths, balance.
use Rattle.std.proofs.Common.{◌≡◌, ℕ, zero, suc, ◌+◌, ◌-◌, ◌*◌, ◌<◌, Bool, true, false, cond, eqb, List, [], ◌∷◌}
use Rattle.std.proofs.Common.{length, get_or, set, refl, sym, ap, ◌∙◌, arith, get_or-set_same, get_or-set_other}
use Rattle.std.proofs.Common.{length-set}
use Rattle.std.proofs.Math.Nat.{add-mul}
use Rattle.std.proofs.lemmas.Bool.{cases_eq}
use Rattle.flow_network.specs.declared.arcs.FlowArc.{FlowArc}
use Rattle.flow_network.specs.declared.arcs.ArcNo.{ArcNo}
use Rattle.flow_network.specs.declared.arcs.ArcNo.TheVariants.{Forward, Reverse}
use Rattle.flow_network.specs.Flows.{arc_at, arc_index, tail_of, head_of, residual_of, IsResidual, IsPath, shifted}
use Rattle.flow_network.specs.Flows.{inflow, outflow, unit_at, Lacks}
use Rattle.flow_network.specs.Laws.{PushKeepsConservation, flow_cost}

pub length-shifted : (flows : List ℕ) (a : ArcNo) → length (shifted flows a) ≡ length flows
length-shifted flows (Forward k) = length-set flows k _
length-shifted flows (Reverse k) = length-set flows k _

-- the flow of one arc is set: what its end takes in changes by just that
inflow-set : (arcs : List FlowArc) (flows : List ℕ) (k g w : ℕ) → length flows ≡ length arcs → k < length arcs
    → inflow arcs (set flows k g) w + cond (eqb (arc_at arcs k).to w) (get_or flows k 0) 0
    ≡ inflow arcs flows w + cond (eqb (arc_at arcs k).to w) g 0
inflow-set [] flows k g w e l = absurd (omega arith)
inflow-set (a ∷ arcs) [] k g w e l = absurd (omega arith)
inflow-set (a ∷ arcs) (f ∷ flows) zero g w e l = omega arith
inflow-set (a ∷ arcs) (f ∷ flows) (suc k) g w e l =
    let rest = inflow-set arcs flows k g w (omega arith) (omega arith) in omega arith

pub outflow-set : (arcs : List FlowArc) (flows : List ℕ) (k g w : ℕ) → length flows ≡ length arcs →
    k < length arcs
    → outflow arcs (set flows k g) w + cond (eqb (arc_at arcs k).from w) (get_or flows k 0) 0
    ≡ outflow arcs flows w + cond (eqb (arc_at arcs k).from w) g 0
outflow-set [] flows k g w e l = absurd (omega arith)
outflow-set (a ∷ arcs) [] k g w e l = absurd (omega arith)
outflow-set (a ∷ arcs) (f ∷ flows) zero g w e l = omega arith
outflow-set (a ∷ arcs) (f ∷ flows) (suc k) g w e l =
    let rest = outflow-set arcs flows k g w (omega arith) (omega arith) in omega arith

-- what comes to a node and what leaves it, after one unit more or less of an arc
one_more : (b : Bool) (f o o' : ℕ) → o' + cond b f 0 ≡ o + cond b (f + 1) 0 → o' ≡ o + cond b 1 0
one_more true f o o' p = omega arith
one_more false f o o' p = omega arith

one_less : (b : Bool) (f o o' : ℕ) → 0 < f → o' + cond b f 0 ≡ o + cond b (f - 1) 0 → o' + cond b 1 0 ≡ o
one_less true f o o' l p = omega arith
one_less false f o o' l p = omega arith

inflow_forward : (arcs : List FlowArc) (flows : List ℕ) (k v : ℕ) → length flows ≡ length arcs
    → k < length arcs
    → inflow arcs (shifted flows (Forward k)) v ≡ inflow arcs flows v + unit_at (arc_at arcs k).to v
inflow_forward arcs flows k v e l =
    one_more (eqb (arc_at arcs k).to v) (get_or flows k 0) _ _ (inflow-set arcs flows k _ v e l)

inflow_back : (arcs : List FlowArc) (flows : List ℕ) (k v : ℕ) → length flows ≡ length arcs
    → k < length arcs → 0 < get_or flows k 0
    → inflow arcs (shifted flows (Reverse k)) v + unit_at (arc_at arcs k).to v ≡ inflow arcs flows v
inflow_back arcs flows k v e l unit =
    one_less (eqb (arc_at arcs k).to v) (get_or flows k 0) _ _ unit (inflow-set arcs flows k _ v e l)

pub outflow_forward : (arcs : List FlowArc) (flows : List ℕ) (k v : ℕ) → length flows ≡ length arcs →
    k < length arcs
    → outflow arcs (shifted flows (Forward k)) v ≡ outflow arcs flows v + unit_at (arc_at arcs k).from v
outflow_forward arcs flows k v e l =
    one_more (eqb (arc_at arcs k).from v) (get_or flows k 0) _ _ (outflow-set arcs flows k _ v e l)

pub outflow_back : (arcs : List FlowArc) (flows : List ℕ) (k v : ℕ) → length flows ≡ length arcs →
    k < length arcs → 0 < get_or flows k 0
    → outflow arcs (shifted flows (Reverse k)) v + unit_at (arc_at arcs k).from v ≡ outflow arcs flows v
outflow_back arcs flows k v e l unit =
    one_less (eqb (arc_at arcs k).from v) (get_or flows k 0) _ _ unit (outflow-set arcs flows k _ v e l)

-- a unit over one residual arc
pub balance_of_shift : (arcs : List FlowArc) (flows : List ℕ) (a : ArcNo) (w : ℕ) →
    length flows ≡ length arcs → IsResidual arcs flows a
    → inflow arcs (shifted flows a) w + outflow arcs flows w + unit_at (tail_of arcs a) w
    ≡ inflow arcs flows w + outflow arcs (shifted flows a) w + unit_at (head_of arcs a) w
balance_of_shift arcs flows (Forward k) w e r =
    omega (arith, inflow_forward arcs flows k w e r.listed, outflow_forward arcs flows k w e r.listed)
balance_of_shift arcs flows (Reverse k) w e r =
    omega (arith, inflow_back arcs flows k w e r.listed r.room, outflow_back arcs flows k w e r.listed r.room)

-- a unit over one arc takes no room from another
pub room_stays : (arcs : List FlowArc) (flows : List ℕ) (a b : ArcNo) → length flows ≡ length arcs →
    IsResidual arcs flows a → (a ≡ b → ⊥)
    → 0 < residual_of arcs flows b → 0 < residual_of arcs (shifted flows a) b
room_stays arcs flows (Forward i) (Forward j) e r n l =
    rw (get_or-set_other flows i j (get_or flows i 0 + 1) 0 (λ s. n (ap Forward (sym s)))) l
room_stays arcs flows (Reverse i) (Reverse j) e r n l =
    rw (get_or-set_other flows i j (get_or flows i 0 - 1) 0 (λ s. n (ap Reverse (sym s)))) l
room_stays arcs flows (Forward i) (Reverse j) e r n l =
    grind (arith, cases_eq, get_or-set_same, get_or, get_or-set_other)
room_stays arcs flows (Reverse i) (Forward j) e r n l =
    grind (arith, cases_eq, get_or, get_or-set_same, get_or-set_other)

-- so the rest of a path stays a path
pub IsPath-shifted : (arcs : List FlowArc) (flows : List ℕ) (a : ArcNo) (path : List ArcNo) (u v : ℕ) →
    length flows ≡ length arcs → IsResidual arcs flows a
    → Lacks a path → IsPath arcs flows path u v → IsPath arcs (shifted flows a) path u v
IsPath-shifted arcs flows a [] u v e r n p = p
IsPath-shifted arcs flows a (b ∷ path) u v e r n p = (
  record { listed = p.0.listed; room = room_stays arcs flows a b e r n.0 p.0.room },
  p.1,
  IsPath-shifted arcs flows a path _ v e r n.1 p.2,
)

pub push_balance : PushKeepsConservation
push_balance arcs flows [] u v w e d p = rw p refl
push_balance arcs flows (a ∷ path) u v w e d p =
    let e' : length (shifted flows a) ≡ length arcs = length-shifted flows a ∙ e in
    let shift = balance_of_shift arcs flows a w e p.0 in
    let first = rw p.1 at shift in
    let rest = push_balance arcs (shifted flows a) path (head_of arcs a) v w e' d.1
    (IsPath-shifted arcs flows a path _ v e p.0 d.0 p.2) in
    omega arith

-- the other arcs carry what they did
pub kept_shift : (flows : List ℕ) (a : ArcNo) (k : ℕ) → (arc_index a ≡ k → ⊥) →
    get_or (shifted flows a) k 0 ≡ get_or flows k 0
kept_shift flows (Forward i) k n = get_or-set_other flows i k _ 0 (λ e. n (sym e))
kept_shift flows (Reverse i) k n = get_or-set_other flows i k _ 0 (λ e. n (sym e))

-- what a flow costs
flow_cost-set : (arcs : List FlowArc) (flows : List ℕ) (k g : ℕ) → length flows ≡ length arcs →
    k < length arcs
    → flow_cost arcs (set flows k g) + get_or flows k 0 * (arc_at arcs k).cost
    ≡ flow_cost arcs flows + g * (arc_at arcs k).cost
flow_cost-set [] flows k g e l = absurd (omega arith)
flow_cost-set (a ∷ arcs) [] k g e l = absurd (omega arith)
flow_cost-set (a ∷ arcs) (f ∷ flows) zero g e l = omega arith
flow_cost-set (a ∷ arcs) (f ∷ flows) (suc k) g e l =
    let rest = flow_cost-set arcs flows k g (omega arith) (omega arith) in omega arith

pub flow_cost_forward : (arcs : List FlowArc) (flows : List ℕ) (k : ℕ) → length flows ≡ length arcs →
    k < length arcs → flow_cost arcs (shifted flows (Forward k)) ≡ flow_cost arcs flows + (arc_at arcs k).cost
flow_cost_forward arcs flows k e l = grind (arith, flow_cost-set, get_or, add-mul)

pub flow_cost_back : (arcs : List FlowArc) (flows : List ℕ) (k : ℕ) → length flows ≡ length arcs →
    k < length arcs → 0 < get_or flows k 0
    → flow_cost arcs (shifted flows (Reverse k)) + (arc_at arcs k).cost ≡ flow_cost arcs flows
flow_cost_back arcs flows k e l unit = grind (arith, flow_cost-set, get_or, add-mul)
