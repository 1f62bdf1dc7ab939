-- Each arc hands on the units that it carries.
use Rattle.std.proofs.Common.{◌≡◌, ℕ, zero, suc, ◌+◌, ◌-◌, ◌<◌, ◌≤◌, Bool, true, false, cond, eqb, List, []}
use Rattle.std.proofs.Common.{◌∷◌, length, get_or, set, refl, sym, ap, ◌∙◌, subst, inl, inr, arith}
use Rattle.std.proofs.Common.{get_or-set_same, get_or-set_other}
use Rattle.std.specs.Prelude.{◌==◌, drop}
use Rattle.std.proofs.lemmas.Bool.{cases_eq, eq-eqb, ne_eqb}
use Rattle.std.proofs.lemmas.Grind.{common_steps}
use Rattle.std.proofs.lemmas.List.{drop_more, drop-set-lt, length-set}
use Rattle.std.proofs.lemmas.List.Sums.{sum_by-cons}
use Rattle.flow_network.specs.declared.arcs.FlowArc.{FlowArc}
use Rattle.flow_network.specs.Flows.{arc_at}
use Rattle.flow_network.proofs.HandOn.{enough_wait, inflow-more, outflow-more}
use Rattle.network_prices.specs.Ways.{CameFrom}
use Rattle.augmenting_paths.specs.Shipping.{standing}
use Rattle.network_prices.specs.HandOn.{IsMoved, IsMoving, CanHandOn, IsHandedOn}

none : (b : Bool) (f : ℕ) → b ≡ false → cond b f 0 ≡ 0
none b f e = rw e refl

-- one unit moves
pub standing-set : (places : List ℕ) (i v x : ℕ) → i < length places
    → standing (set places i v) x + cond (eqb (get_or places i 0) x) 1 0 ≡ standing places x
    + cond (eqb v x) 1 0
standing-set [] i v x l = absurd (omega arith)
standing-set (p ∷ places) zero v x l = grind (arith, common_steps, sum_by-cons)
standing-set (p ∷ places) (suc i) v x l = grind (arith, common_steps, sum_by-cons)

-- no unit has moved before the first place is looked at
pub none_moving : (places : List ℕ) (u v units : ℕ) → units ≤ standing places u
    → IsMoving places places u v units units 0
none_moving places u v units enough = record {
  size = refl;
  few_left = omega arith;
  each = λ s l. inl refl;
  rest = λ s l. refl;
  counts = grind arith;
  enough = enough;
}

all : (b : Bool) (f : ℕ) → b ≡ true → cond b f 0 ≡ f
all b f e = rw e refl

one_more : (b : Bool) (f g : ℕ) → g ≡ f + 1 → cond b g 0 ≡ cond b f 0 + cond b 1 0
one_more true f g e = e
one_more false f g e = refl

-- one place more is looked at: its unit is at another node, or moves
module _ (old now : List ℕ) (u v units left i : ℕ) (moving : IsMoving old now u v units left i)
    (l : i < length now) where
  rest_is : standing (drop i now) u ≡ cond (eqb (get_or now i 0) u) 1 0 + standing (drop (i + 1) now) u
  rest_is = ap (λ (places : List ℕ). standing places u) (drop_more now i 0 l)
      ∙ sum_by-cons (λ (place : ℕ). cond (place == u) 1 0) (get_or now i 0) (drop (i + 1) now)

  pub moving_past : (get_or now i 0 ≡ u → ⊥) → IsMoving old now u v units left (i + 1)
  moving_past other = record {
    size = moving.size;
    few_left = moving.few_left;
    each = moving.each;
    rest = λ s m. moving.rest s (omega arith);
    counts = moving.counts;
    enough = (let more = rest_is in let enough = moving.enough in
        let here : cond (eqb (get_or now i 0) u) 1 0 ≡ 0 =
        none (eqb (get_or now i 0) u) 1 (ne_eqb (get_or now i 0) u other) in
        omega (arith, more, enough, here));
  }

  pub moving_one : get_or now i 0 ≡ u → (left ≡ 0 → ⊥)
      → IsMoving old (set now i v) u v units (left - 1) (i + 1)
  moving_one at some = record {
    size = length-set now i v ∙ moving.size;
    few_left = (let few = moving.few_left in omega arith);
    each = λ s m. elim (cases_eq s i) [
      | inl here ↦ inr (
        (let few = moving.few_left in omega arith),
        ap (λ j. get_or old j 0) here ∙ sym (moving.rest i (omega arith)) ∙ at,
        ap (λ j. get_or (set now i v) j 0) here ∙ get_or-set_same now i v 0 l,
      )
      | inr n ↦ elim (moving.each s m) [
        | inl same ↦ inl (get_or-set_other now i s v 0 n ∙ same)
        | inr on ↦ inr ((let few = on.0 in omega arith), on.1, get_or-set_other now i s v 0 n ∙ on.2)
      ]
    ];
    rest = λ s m. get_or-set_other now i s v 0 (λ e. absurd (omega arith)) ∙ moving.rest s (omega arith);
    counts = λ x.
        (let few = moving.few_left in let old_counts = moving.counts x in
        let set_counts : standing (set now i v) x + cond (eqb u x) 1 0 ≡ standing now x + cond (eqb v x) 1 0 =
        subst (λ w. standing (set now i v) x + cond (eqb w x) 1 0 ≡ standing now x + cond (eqb v x) 1 0) at
        (standing-set now i v x l) in
        let a = one_more (eqb u x) (units - left) (units - (left - 1)) (omega arith) in
        let b = one_more (eqb v x) (units - left) (units - (left - 1)) (omega arith) in
        omega (arith, old_counts, set_counts, a, b));
    enough = (let more = rest_is in let enough = moving.enough in
        let here : cond (eqb (get_or now i 0) u) 1 0 ≡ 1 =
        all (eqb (get_or now i 0) u) 1 (eq-eqb (get_or now i 0) u at) in
        let same : standing (drop (i + 1) (set now i v)) u ≡ standing (drop (i + 1) now) u =
        ap (λ (places : List ℕ). standing places u) (drop-set-lt (i + 1) now i v (omega arith)) in
        omega (arith, more, enough, here, same));
  }

module _ (arcs : List FlowArc) (flows : List ℕ) (sink : ℕ) (first now : List ℕ)
    (can : CanHandOn arcs flows sink first) where
  module _ (j : ℕ) (l : j < length arcs) (state : IsHandedOn arcs flows sink first now j) where
    -- enough units are at the start of an arc
    pub enough_stand : ((arc_at arcs j).to ≡ sink → ⊥) → get_or flows j 0 ≤ standing now (arc_at arcs j).from
    enough_stand off =
        enough_wait arcs flows (arc_at arcs j).from j (standing first (arc_at arcs j).from)
        (standing now (arc_at arcs j).from) can.sizes l refl
        (λ i m k e. (let on = can.ordered j i m k in omega arith)) (can.balanced j l off)
        (state.passing (arc_at arcs j).from (can.not_at_sink j l) (can.passes j l off))

    to_sink : (arc_at arcs j).to ≡ sink → IsHandedOn arcs flows sink first now (j + 1)
    to_sink at = record {
      size = state.size;
      came = state.came;
      off_sink = state.off_sink;
      passing = λ v n p.
          (let old = state.passing v n p in
          let more = inflow-more arcs flows v j can.sizes l in
          let out = outflow-more arcs flows v j can.sizes l in
          let a = none (eqb (arc_at arcs j).to v) (get_or flows j 0)
          (ne_eqb (arc_at arcs j).to v (λ e. n (sym e ∙ at))) in
          let b = none (eqb (arc_at arcs j).from v) (get_or flows j 0)
          (ne_eqb (arc_at arcs j).from v (λ e. p j l e at)) in
          omega arith);
      ending = λ v n p.
          (let old = state.ending v n p in
          let more = inflow-more arcs flows v j can.sizes l in
          let a = none (eqb (arc_at arcs j).to v) (get_or flows j 0)
          (ne_eqb (arc_at arcs j).to v (λ e. n (sym e ∙ at))) in
          omega arith);
    }

    moved_on : (new : List ℕ) → ((arc_at arcs j).to ≡ sink → ⊥) →
        IsMoved now new (arc_at arcs j).from (arc_at arcs j).to (get_or flows j 0)
        → IsHandedOn arcs flows sink first new (j + 1)
    moved_on new off moved = record {
      size = moved.size ∙ state.size;
      came = λ s k.
          (let old = state.came s k in
          elim (moved.each s (let e = state.size in omega arith)) [
            | inl same ↦ (
              old.0,
              subst (λ (v : ℕ). CameFrom arcs flows old.0 (get_or first s 0) v)
                  (sym same) old.1,
            )
            | inr on ↦ (
              j ∷ old.0,
              (
                l,
                on.0,
                sym on.2,
                subst (λ (v : ℕ). CameFrom arcs flows old.0 (get_or first s 0) v) on.1
                    old.1,
              ),
            )
          ]);
      off_sink = λ s k at. elim (moved.each s (let e = state.size in omega arith)) [
        | inl same ↦
            state.off_sink s k (sym same ∙ at)
        | inr on ↦ off (sym on.2 ∙ at)
      ];
      passing = λ v n p.
          (let old = state.passing v n p in
          let more = inflow-more arcs flows v j can.sizes l in
          let out = outflow-more arcs flows v j can.sizes l in
          let count = moved.counts v in
          omega arith);
      ending = λ v n p.
          (let old = state.ending v n p in
          let more = inflow-more arcs flows v j can.sizes l in
          let count = moved.counts v in
          let b = none (eqb (arc_at arcs j).from v) (get_or flows j 0)
          (ne_eqb (arc_at arcs j).from v (λ e. off (p j l e))) in
          omega arith);
    }

    -- whether it leads to the sink or not
    pub handed_on : (new : List ℕ)
        → (((arc_at arcs j).to ≡ sink → ⊥)
        → IsMoved now new (arc_at arcs j).from (arc_at arcs j).to (get_or flows j 0))
        → ((arc_at arcs j).to ≡ sink → new ≡ now) → IsHandedOn arcs flows sink first new (j + 1)
    handed_on new on stay = elim (cases_eq (arc_at arcs j).to sink) [
      | inl at ↦ rw (stay at) (to_sink at)
      | inr off ↦ moved_on new off (on off)
    ]
