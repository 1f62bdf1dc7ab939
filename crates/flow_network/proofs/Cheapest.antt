-- A flow without a negative reduced cost costs no more than any other with its balances.
use Rattle.std.proofs.Common.{◌≡◌, ℕ, zero, suc, ◌+◌, ◌-◌, ◌*◌, ◌<◌, ◌≤◌, cond, eqb, List, [], ◌∷◌, length}
use Rattle.std.proofs.Common.{refl, ap, inl, inr, arith}
use Rattle.std.proofs.Math.Nat.{mul-le-mul_left, add-mul, mul-add, mul_comm, mul-zero}
use Rattle.std.proofs.lemmas.Bool.{cases_eq, cases_lt, eq-eqb, ne_eqb}
use Rattle.flow_network.specs.declared.arcs.FlowArc.{FlowArc}
use Rattle.flow_network.specs.Flows.{arc_at, inflow, outflow, WithinCapacities, NoNegative}
use Rattle.flow_network.specs.Laws.{flow_cost, NoNegativeIsCheapest}

-- the units of the arcs by what a function says of their ends, and of their starts
into : (ℕ → ℕ) → List FlowArc → List ℕ → ℕ
into h [] flows = 0
into h (a ∷ arcs) [] = 0
into h (a ∷ arcs) (f ∷ flows) = f * h a.to + into h arcs flows

out_of : (ℕ → ℕ) → List FlowArc → List ℕ → ℕ
out_of h [] flows = 0
out_of h (a ∷ arcs) [] = 0
out_of h (a ∷ arcs) (f ∷ flows) = f * h a.from + out_of h arcs flows

-- so many units more, at a cost that is not negative
dearer : (f e c s t : ℕ) → s ≤ c + t → f * c + f * t + (f + e) * s ≤ (f + e) * c + (f + e) * t + f * s
dearer f e c s t l =
    let m : e * s ≤ e * (c + t) = mul-le-mul_left e l in
    let a = add-mul f e s in
    let b = add-mul f e c in
    let d = add-mul f e t in
    let x = mul-add e c t in
    omega arith

-- and less, where the way back costs nothing less
cheaper : (g e c s t : ℕ) → c + t ≤ s → (g + e) * c + (g + e) * t + g * s ≤ g * c + g * t + (g + e) * s
cheaper g e c s t l =
    let m : e * (c + t) ≤ e * s = mul-le-mul_left e l in
    let a = add-mul g e s in
    let b = add-mul g e c in
    let d = add-mul g e t in
    let x = mul-add e c t in
    omega arith

one_arc : (c s t cap f g : ℕ) → (f < cap → s ≤ c + t) → (0 < f → c + t ≤ s) → g ≤ cap →
    f * c + f * t + g * s ≤ g * c + g * t + f * s
one_arc c s t cap f g room unit within = elim (cases_lt f g) [
  | inl l ↦ (let e : f + (g - f) ≡ g = omega arith in
      let d = dearer f (g - f) c s t (room (omega arith)) in
      rw e at d)
  | inr l ↦ elim (cases_lt 0 f) [
    | inl some ↦ (let e : g + (f - g) ≡ f = omega arith in
        let d = cheaper g (f - g) c s t (unit some) in
        rw e at d)
    | inr none ↦ (let z : f ≡ 0 = omega arith in let w : g ≡ 0 = omega arith in rw (z, w) (omega arith))
  ]
]

arc_by_arc : (arcs : List FlowArc) (flows other : List ℕ) (h : ℕ → ℕ) → length flows ≡ length arcs →
    length other ≡ length arcs
    → NoNegative arcs flows h → WithinCapacities arcs other
    → flow_cost arcs flows + into h arcs flows + out_of h arcs other ≤ flow_cost arcs other
    + into h arcs other + out_of h arcs flows
unfolding into out_of
arc_by_arc [] flows other h e d n w = omega arith
arc_by_arc (a ∷ arcs) [] other h e d n w = absurd (omega arith)
arc_by_arc (a ∷ arcs) (f ∷ flows) [] h e d n w = absurd (omega arith)
arc_by_arc (a ∷ arcs) (f ∷ flows) (g ∷ other) h e d n w =
    let first = n 0 (omega arith) in
    let here = one_arc a.cost (h a.from) (h a.to) a.capacity f g first.0 first.1 (w 0 (omega arith)) in
    let rest = arc_by_arc arcs flows other h (omega arith) (omega arith) (λ k l. n (suc k) (omega arith))
    (λ k l. w (suc k) (omega arith)) in
    omega arith

-- a sum over the first nodes
sum_to : ℕ → (ℕ → ℕ) → ℕ
sum_to zero f = 0
sum_to (suc n) f = sum_to n f + f n

sum_same : (n : ℕ) (f g : ℕ → ℕ) → ((v : ℕ) → f v ≡ g v) → sum_to n f ≡ sum_to n g
unfolding sum_to
sum_same zero f g e = refl
sum_same (suc n) f g e = let rest = sum_same n f g e in let here = e n in omega arith

sum_add : (n : ℕ) (f g h : ℕ → ℕ) → ((v : ℕ) → f v ≡ g v + h v) → sum_to n f ≡ sum_to n g + sum_to n h
unfolding sum_to
sum_add zero f g h e = omega arith
sum_add (suc n) f g h e = let rest = sum_add n f g h e in let here = e n in omega arith

sum_none : (n : ℕ) (f : ℕ → ℕ) → ((v : ℕ) → v < n → f v ≡ 0) → sum_to n f ≡ 0
unfolding sum_to
sum_none zero f e = refl
sum_none (suc n) f e = let rest = sum_none n f (λ v l. e v (omega arith)) in let here = e n (omega arith) in
    omega arith

point_at : (x v f : ℕ) (h : ℕ → ℕ) → x ≡ v → h v * cond (eqb x v) f 0 ≡ f * h x
point_at x v f h e = rw (eq-eqb x v e, e) (mul_comm (h v) f)

point_off : (x v f : ℕ) (h : ℕ → ℕ) → (x ≡ v → ⊥) → h v * cond (eqb x v) f 0 ≡ 0
point_off x v f h n = rw (ne_eqb x v n) (mul-zero (h v))

sum_point : (n x f : ℕ) (h : ℕ → ℕ) → x < n → sum_to n (λ v. h v * cond (eqb x v) f 0) ≡ f * h x
unfolding sum_to
sum_point zero x f h l = absurd (omega arith)
sum_point (suc n) x f h l = elim (cases_eq x n) [
  | inl e ↦ (let rest =
      sum_none n (λ v. h v * cond (eqb x v) f 0) (λ v m. point_off x v f h (λ q. absurd (omega arith))) in
      let here = point_at x n f h e in omega arith)
  | inr d ↦ (let rest = sum_point n x f h (omega arith) in let here = point_off x n f h d in omega arith)
]

-- each arc leads from one of the first n nodes to another
abbrev EndsBelow : ℕ → List FlowArc → Type 0
EndsBelow n arcs = (k : ℕ) → k < length arcs → ((arc_at arcs k).from < n) × ((arc_at arcs k).to < n)

ends_below : (arcs : List FlowArc) → (n : ℕ) × EndsBelow n arcs
ends_below [] = (0, λ k l. absurd (omega arith))
ends_below (a ∷ arcs) = let rest = ends_below arcs in (1 + a.from + a.to + rest.0, below rest.0 rest.1)
  where
    below : (n : ℕ) → EndsBelow n arcs → EndsBelow (1 + a.from + a.to + n) (a ∷ arcs)
    below n are zero l = (omega arith, omega arith)
    below n are (suc k) l = let ends = are k (omega arith) in
        let from = ends.0 in let to = ends.1 in (omega arith, omega arith)

weighted_in : (n : ℕ) (arcs : List FlowArc) (flows : List ℕ) (h : ℕ → ℕ) → EndsBelow n arcs →
    sum_to n (λ v. h v * inflow arcs flows v) ≡ into h arcs flows
unfolding into
weighted_in n [] flows h are = sum_none n (λ v. h v * 0) (λ v l. mul-zero (h v))
weighted_in n (a ∷ arcs) [] h are = sum_none n (λ v. h v * 0) (λ v l. mul-zero (h v))
weighted_in n (a ∷ arcs) (f ∷ flows) h are =
    let rest = weighted_in n arcs flows h (λ k l. are (suc k) (omega arith)) in
    let here = sum_point n a.to f h (are 0 (omega arith)).1 in
    let both = sum_add n (λ v. h v * inflow (a ∷ arcs) (f ∷ flows) v) (λ v. h v * cond (eqb a.to v) f 0)
    (λ v. h v * inflow arcs flows v)
    (λ v. mul-add (h v) (cond (eqb a.to v) f 0) (inflow arcs flows v)) in
    omega arith

weighted_out : (n : ℕ) (arcs : List FlowArc) (flows : List ℕ) (h : ℕ → ℕ) → EndsBelow n arcs →
    sum_to n (λ v. h v * outflow arcs flows v) ≡ out_of h arcs flows
unfolding out_of
weighted_out n [] flows h are = sum_none n (λ v. h v * 0) (λ v l. mul-zero (h v))
weighted_out n (a ∷ arcs) [] h are = sum_none n (λ v. h v * 0) (λ v l. mul-zero (h v))
weighted_out n (a ∷ arcs) (f ∷ flows) h are =
    let rest = weighted_out n arcs flows h (λ k l. are (suc k) (omega arith)) in
    let here = sum_point n a.from f h (are 0 (omega arith)).0 in
    let both = sum_add n (λ v. h v * outflow (a ∷ arcs) (f ∷ flows) v) (λ v. h v * cond (eqb a.from v) f 0)
    (λ v. h v * outflow arcs flows v)
    (λ v. mul-add (h v) (cond (eqb a.from v) f 0) (outflow arcs flows v)) in
    omega arith

-- however large its capacities and its costs are
pub cheapest_within : (arcs : List FlowArc) (flows other : List ℕ) (h : ℕ → ℕ)
    → length flows ≡ length arcs → length other ≡ length arcs
    → NoNegative arcs flows h → WithinCapacities arcs other
    → ((v : ℕ) → inflow arcs flows v + outflow arcs other v ≡ inflow arcs other v + outflow arcs flows v)
    → flow_cost arcs flows ≤ flow_cost arcs other
cheapest_within arcs flows other h e d none within balance =
    let ends = ends_below arcs in let nodes : ℕ = ends.0 in let are = ends.1 in
    let arcwise = arc_by_arc arcs flows other h e d none within in
    let left = sum_add nodes (λ v. h v * (inflow arcs flows v + outflow arcs other v))
    (λ v. h v * inflow arcs flows v) (λ v. h v * outflow arcs other v)
    (λ v. mul-add (h v) (inflow arcs flows v) (outflow arcs other v)) in
    let right = sum_add nodes (λ v. h v * (inflow arcs other v + outflow arcs flows v))
    (λ v. h v * inflow arcs other v) (λ v. h v * outflow arcs flows v)
    (λ v. mul-add (h v) (inflow arcs other v) (outflow arcs flows v)) in
    let same = sum_same nodes (λ v. h v * (inflow arcs flows v + outflow arcs other v))
    (λ v. h v * (inflow arcs other v + outflow arcs flows v)) (λ v. ap (λ m. h v * m) (balance v)) in
    let a = weighted_in nodes arcs flows h are in
    let b = weighted_out nodes arcs other h are in
    let c = weighted_in nodes arcs other h are in
    let o = weighted_out nodes arcs flows h are in
    omega arith

pub no_negative_is_cheapest : NoNegativeIsCheapest
no_negative_is_cheapest nodes arcs flows other h are = cheapest_within arcs flows other h
