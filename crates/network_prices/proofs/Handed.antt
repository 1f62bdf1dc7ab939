-- A plan read off the places to which the units have come.
use Rattle.std.proofs.Common.{◌≡◌, ℕ, zero, suc, ◌+◌, ◌<◌, ◌≤◌, Bool, true, false, cond, List, [], ◌∷◌}
use Rattle.std.proofs.Common.{length, get_or, set, get_or-set_same, get_or-set_other, take, Option, Some}
use Rattle.std.proofs.Common.{None, refl, sym, ap, ◌∙◌, subst, inl, inr, ◌⊎◌, arith}
use Rattle.std.specs.Prelude.{◌==◌}
use Rattle.std.proofs.lemmas.Bool.{cases_eq, cases_lt, eq-eqb, ne_eqb}
use Rattle.std.proofs.lemmas.List.Sums.{sum_by-cons}
use Rattle.flow_network.specs.declared.arcs.FlowArc.{FlowArc}
use Rattle.flow_network.specs.Flows.{arc_at, inflow, outflow}
use Rattle.wave_problem.specs.Wave.{Wave, split_at}
use Rattle.wave_problem.specs.Assignment.{start_of, pairs_from, load, Plan}
use Rattle.wave_problem.proofs.Bound.{pending_known}
use Rattle.network_prices.specs.Ways.{CameFrom, IsInner}
use Rattle.network_prices.specs.Prices.{IsShipped, end_of, IsPlanOf}
use Rattle.augmenting_paths.specs.Shipping.{standing}
use Rattle.network_prices.specs.HandOn.{Passes, CanHandOn, IsHandedOn}
use Rattle.flow_network.proofs.HandOn.{inflow_none}
use Rattle.network_prices.proofs.Pending.{one_each, balanced}
use Rattle.network_prices.proofs.Places.{standing_none, standing_some, standing_from, leaves}
use Rattle.network_prices.specs.Layers.{nodes_from, HandsOn, IsLayered, IsStart, AreStartsTo, AreFirst}

take_whole : {X : Type 0} (xs : List X) → take (length xs) xs ≡ xs
take_whole {X = X} [] = refl
take_whole {X = X} (x ∷ xs) = ap (λ (ys : List X). x ∷ ys) (take_whole xs)

-- a load is the number of units at the worker's node
load_is : (wave : Wave) (base n w : ℕ) (places : List ℕ) (starts : List (Option ℕ)) →
    length starts ≡ length places → w < length wave.workers
    → ((s : ℕ) → s < length places → IsStart wave base (get_or places s 0) (start_of starts s)) →
    load (pairs_from n starts) w ≡ standing places (base + w)
load_is wave base n w [] [] size k each = refl
load_is wave base n w [] (o ∷ starts) size k each = absurd (omega arith)
load_is wave base n w (p ∷ places) [] size k each = absurd (omega arith)
load_is wave base n w (p ∷ places) (None ∷ starts) size k each =
    let rest = load_is wave base (n + 1) w places starts (omega arith) k (λ s l. each (suc s) (omega arith))
    in
    let sum = sum_by-cons (λ (place : ℕ). cond (place == base + w) 1 0) p places in
    let off = ap {B = ℕ} (λ (b : Bool). cond b 1 0)
    (ne_eqb p (base + w) ((each 0 (omega arith)).none refl w k)) in omega arith
load_is wave base n w (p ∷ places) (Some v ∷ starts) size k each =
    let rest = load_is wave base (n + 1) w places starts (omega arith) k (λ s l. each (suc s) (omega arith))
    in
    let sum = sum_by-cons (λ (place : ℕ). cond (place == base + w) 1 0) p places in
    let more = sum_by-cons (λ (pair : ℕ × ℕ). cond (pair.1 == w) 1 0) (n, v) (pairs_from (n + 1) starts) in
    let there = (each 0 (omega arith)).worker v refl in
    let at = there.1 in
    elim (cases_eq v w) [
      | inl e ↦ (let a = ap {B = ℕ} (λ (b : Bool). cond b 1 0) (eq-eqb v w e) in
          let b = ap {B = ℕ} (λ (b : Bool). cond b 1 0) (eq-eqb p (base + w) (omega arith)) in omega arith)
      | inr d ↦ grind arith
    ]

module _ (wave : Wave) (arcs : List FlowArc) (flows : List ℕ) (first : List ℕ)
    (base : ℕ) (above : ℕ → List ℕ) (inside : length wave.splits ≤ base) (network : IsLayered wave base arcs)
    (shipped : IsShipped wave (nodes_from wave base above) arcs flows) (starting : AreFirst wave first) where
  own_one : (s : ℕ) → (split_at wave s).pending ≡ true → outflow arcs flows s ≡ 1
  own_one = one_each wave (nodes_from wave base above) arcs flows (omega arith) network.no_entry shipped

  even : (v : ℕ) → IsInner (length wave.splits) (base + length wave.workers + 1) v →
      inflow arcs flows v ≡ outflow arcs flows v
  even = balanced wave (nodes_from wave base above) arcs flows (omega arith) network.no_entry shipped

  first_one : (s : ℕ) → s < length wave.splits → standing first s ≡ 1
  first_one s l =
      standing_from first 0 s s (λ k n. (let each = starting.each k (let z = starting.size in omega arith) in
      omega arith)) (let z = starting.size in omega arith) (omega arith)

  first_none : (v : ℕ) → length wave.splits ≤ v → standing first v ≡ 0
  first_none v l = standing_none first v (λ i n e. (let z = starting.size in
      let each = starting.each i (omega arith) in omega arith))

  gives_at : (j : ℕ) → j < length arcs → ((arc_at arcs j).to ≡ base + length wave.workers + 1 → ⊥) →
      HandsOn wave base (arc_at arcs j).from
  gives_at j l off = elim (network.leaves j l) [ inl g ↦ g.0 | inr s ↦ absurd (off s.0) ]

  gives_on : (u : ℕ) → HandsOn wave base u → Passes arcs (base + length wave.workers + 1) u
  gives_on u g k l from to = elim (network.leaves k l) [
    | inl other ↦ other.1 to
    | inr s ↦ elim s.1 [
      | inl rest ↦ elim g [
        | inl p ↦ (let known = pending_known wave u p in omega arith)
        | inr inner ↦ (let low = inner.0 in let high = inner.1 in omega arith)
      ]
      | inr slot ↦ (let at = slot.2 in let known = slot.1 in elim g [
        | inl p ↦ (let split = pending_known wave u p in omega arith)
        | inr inner ↦ (let low = inner.0 in let high = inner.1 in omega arith)
      ])
    ]
  ]

  gives_all : (u : ℕ) → HandsOn wave base u → inflow arcs flows u + standing first u ≡ outflow arcs flows u
  gives_all u (inl p) =
      let known = pending_known wave u p in
      let none = inflow_none arcs flows u (λ i l e. (let inner = network.no_entry i l in omega arith)) in
      let one = first_one u known in
      let out = own_one u p in omega arith
  gives_all u (inr inner) =
      let low = inner.0 in let high = inner.1 in
      let none = first_none u (omega arith) in
      let same = even u (record { no_source = omega arith; no_sink = λ e. omega arith }) in omega arith

  pub can_hand_on : CanHandOn arcs flows (base + length wave.workers + 1) first
  can_hand_on = record {
    sizes = shipped.sizes;
    ordered = network.onward;
    passes = λ j l off. gives_on (arc_at arcs j).from (gives_at j l off);
    balanced = λ j l off. gives_all (arc_at arcs j).from (gives_at j l off);
    first_off = λ s l e. (let size = starting.size in let each = starting.each s (omega arith) in
        omega arith);
    not_at_sink = λ j l e. (elim (network.leaves j l) [
      | inl other ↦ elim other.0 [
        | inl p ↦ (let known = pending_known wave (arc_at arcs j).from p in omega arith)
        | inr inner ↦ (let low = inner.0 in let high = inner.1 in omega arith)
      ]
      | inr s ↦ elim s.1 [
        | inl rest ↦ omega arith
        | inr slot ↦ (let at = slot.2 in let known = slot.1 in
            omega arith)
      ]
    ]);
  }

  module _ (places : List ℕ) (plan : Plan)
      (state : IsHandedOn arcs flows (base + length wave.workers + 1) first places (length arcs))
      (read : AreStartsTo wave base places (length wave.splits) plan) where
    abbrev starts : List (Option ℕ)
    starts = plan.starts

    whole_in : (v : ℕ) → inflow (take (length arcs) arcs) (take (length arcs) flows) v ≡ inflow arcs flows v
    whole_in v = ap (λ (xs : List FlowArc). inflow xs (take (length arcs) flows) v) (take_whole arcs)
        ∙ ap (λ (fs : List ℕ). inflow arcs fs v) (ap (λ (n : ℕ). take n flows) (sym shipped.sizes)
        ∙ take_whole flows)

    whole_out : (v : ℕ) → outflow (take (length arcs) arcs) (take (length arcs) flows) v
        ≡ outflow arcs flows v
    whole_out v = ap (λ (xs : List FlowArc). outflow xs (take (length arcs) flows) v) (take_whole arcs)
        ∙ ap (λ (fs : List ℕ). outflow arcs fs v) (ap (λ (n : ℕ). take n flows) (sym shipped.sizes)
        ∙ take_whole flows)

    -- no unit stays at a node that gives on
    left_behind : (v s : ℕ) → s < length wave.splits → get_or places s 0 ≡ v → HandsOn wave base v →
        (v ≡ base + length wave.workers + 1 → ⊥) → ⊥
    left_behind v s l at g off =
        let some = standing_some places v s (let a = state.size in let b = starting.size in omega arith) at in
        let sums = state.passing v off (gives_on v g) in
        let ins = whole_in v in let outs = whole_out v in
        let all = gives_all v g in
        omega arith

    came_to : (s : ℕ) → s < length wave.splits →
        (path : List ℕ) × CameFrom arcs flows path s (get_or places s 0)
    came_to s l =
        let c = state.came s (let z = starting.size in omega arith) in
        (c.0, subst (λ (x : ℕ). CameFrom arcs flows c.0 x (get_or places s 0)) (starting.each s l) c.1)

    ends_at : (s v : ℕ) → (split_at wave s).pending ≡ true → get_or places s 0 ≡ v → (path : List ℕ) →
        CameFrom arcs flows path s v
        → ((w : ℕ) × (w < length wave.workers) × (v ≡ base + w)) ⊎ (v ≡ base + length wave.workers)
    ends_at s v p at [] came =
        let known = pending_known wave s p in
        absurd (left_behind v s known at (inl (ap (λ (x : ℕ). (split_at wave x).pending) came ∙ p))
        (λ e. omega arith))
    ends_at s v p at (k ∷ path) came =
        let known = pending_known wave s p in
        let off : v ≡ base + length wave.workers + 1 → ⊥ = λ e. state.off_sink s (let z = starting.size in
        omega arith) (at ∙ e) in
        elim (network.enters k came.0) [
          | inl w ↦ inl (w.0, w.1, sym came.2 ∙ w.2)
          | inr r ↦ elim r [
            | inl u ↦ inr (sym came.2 ∙ u)
            | inr q ↦ elim q [
              | inl g ↦ absurd (left_behind v s known at (subst (HandsOn wave base) came.2 g) off)
              | inr t ↦ absurd (off (sym came.2 ∙ t))
            ]
          ]
        ]

    -- the unit of a split that is not pending stays
    stays : (s : ℕ) → s < length wave.splits → (split_at wave s).pending ≡ false → get_or places s 0 ≡ s
    stays s l idle =
        let c = came_to s l in
        elim (leaves arcs flows c.0 s (get_or places s 0) c.1) [
          | inl e ↦ e
          | inr r ↦
              (absurd (elim (network.leaves r.0 r.1) [
                | inl other ↦ elim other.0 [
                  | inl p ↦ (let same = ap (λ (x : ℕ). (split_at wave x).pending) r.2 in cc)
                  | inr inner ↦ (let low = inner.0 in let high = inner.1 in let at = r.2 in omega arith)
                ]
                | inr t ↦ (let at = r.2 in
                    elim t.1 [ inl rest ↦ omega arith | inr slot ↦ (let there = slot.2 in omega arith) ])
              ]))
        ]

    start_none : (s : ℕ) → (o : Option ℕ) → start_of starts s ≡ o →
        ((w : ℕ) → w < length wave.workers → get_or places s 0 ≡ base + w → ⊥) → s < length wave.splits →
        o ≡ None
    start_none s None e n l = refl
    start_none s (Some w) e n l = let there = (read.each s l).worker w e in absurd (n w there.0 there.1)

    past : (xs : List (Option ℕ)) (s : ℕ) → length xs ≤ s → start_of xs s ≡ None
    past [] s l = refl
    past (x ∷ xs) zero l = absurd (omega arith)
    past (x ∷ xs) (suc s) l = past xs s (omega arith)

    known_split : (s w : ℕ) → start_of starts s ≡ Some w → s < length wave.splits
    known_split s w e = elim (cases_lt s (length wave.splits)) [
      | inl l ↦ l
      | inr n ↦ (let none = past starts s (let z = read.size in omega arith) in
          absurd (let no : None ≡ Some w = sym none ∙ e in cc))
    ]

    end_is : (s : ℕ) → s < length wave.splits → (o : Option ℕ) → start_of starts s ≡ o
        → (((w : ℕ) × (w < length wave.workers) × (get_or places s 0 ≡ base + w))
        ⊎ (get_or places s 0 ≡ base + length wave.workers)) →
        get_or places s 0 ≡ end_of (nodes_from wave base above) o
    end_is s l None e (inl w) = absurd ((read.each s l).none e w.0 w.1 w.2)
    end_is s l None e (inr u) = u
    end_is s l (Some w) e ends = ((read.each s l).worker w e).1

    pub plan_is : IsPlanOf wave (nodes_from wave base above) arcs flows starts
    plan_is = record {
      size = read.size;
      known = λ s w e. ((read.each s (known_split s w e)).worker w e).0;
      idle = λ s f. elim (cases_lt s (length wave.splits)) [
        | inl l ↦ start_none s (start_of starts s) refl (λ w k at. (let stay = stays s l f in omega arith)) l
        | inr n ↦ past starts s (let z = read.size in omega arith)
      ];
      came = λ s p.
          (let known = pending_known wave s p in
          let c = came_to s known in
          let ends = ends_at s (get_or places s 0) p refl c.0 c.1 in (
            c.0,
            subst (λ (v : ℕ). CameFrom arcs flows c.0 s v) (end_is s known (start_of starts s) refl ends)
                c.1,
          ));
      loads = λ w k.
          (let is = load_is wave base 0 w places starts (let a = state.size in let b = starting.size in
          let c = read.size in omega arith) k
          (λ s l. read.each s (let a = state.size in let b = starting.size in omega arith)) in
          let sums = state.ending (base + w) (λ e. omega arith)
          (λ i l from. (elim (network.leaves i l) [
            | inl other ↦ absurd (elim other.0 [
              | inl p ↦ (let split = pending_known wave (arc_at arcs i).from p in omega arith)
              | inr inner ↦ (let low = inner.0 in let high = inner.1 in omega arith)
            ])
            | inr t ↦ t.0
          ])) in
          let ins = whole_in (base + w) in
          let none = first_none (base + w) (omega arith) in
          let same = even (base + w) (record { no_source = omega arith; no_sink = λ e. omega arith }) in
          omega arith);
    }

-- one start more is written
pub starts_more : (wave : Wave) (base : ℕ) (places : List ℕ) (starts : List (Option ℕ)) (s : ℕ)
    (o : Option ℕ) → s < length starts → IsStart wave base (get_or places s 0) o
    → ((k : ℕ) → k < s → IsStart wave base (get_or places k 0) (start_of starts k)) → (k : ℕ) → k < s + 1 →
    IsStart wave base (get_or places k 0) (start_of (set starts s o) k)
starts_more wave base places starts s o l here before k m = elim (cases_eq k s) [
  | inl e ↦ grind (arith, get_or-set_same)
  | inr d ↦ subst (λ (x : Option ℕ). IsStart wave base (get_or places k 0) x)
      (sym (get_or-set_other starts s k o None d)) (before k (omega arith))
]
