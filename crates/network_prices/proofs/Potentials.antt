-- What prices certify is read off a least-cost flow. Each start of the plan is one unit, and the prices
-- give its potentials: a node above the workers lies as deep as the cheapest slot under it.
use Rattle.std.proofs.Common.{◌≡◌, ℕ, zero, suc, ◌+◌, ◌-◌, ◌<◌, ◌≤◌, Bool, true, false, cond, ltb, List, []}
use Rattle.std.proofs.Common.{◌∷◌, length, get_or, Option, Some, None, refl, sym, ap, ◌∙◌, subst, inl, inr}
use Rattle.std.proofs.Common.{◌⊎◌, arith, unwrap_or, Contains}
use Rattle.std.specs.Prelude.{◌==◌, count_by}
use Rattle.std.proofs.lemmas.Bool.{cases_Bool, cases_eq, cases_lt, eqb-true, lt-ltb, le-ltb, false≢true}
use Rattle.std.proofs.lemmas.List.{get_or_past}
use Rattle.std.proofs.lemmas.List.Elements.{All-contains}
use Rattle.std.proofs.lemmas.List.Sums.{sum_by-cons}
use Rattle.flow_network.specs.declared.arcs.FlowArc.{FlowArc}
use Rattle.flow_network.specs.Flows.{arc_at, inflow, outflow, NoNegative, NoNegativeArc}
use Rattle.flow_network.proofs.Cheapest.{cheapest_within}
use Rattle.flow_network.proofs.Members.{Contains-nil, Contains-here, Contains-there, Contains-cons}
use Rattle.flow_network.proofs.Members.{Contains-one}
use Rattle.flow_network.proofs.Room.{outflow-lt}
use Rattle.flow_network.proofs.HandOn.{inflow_none}
use Rattle.augmenting_paths.specs.Shipping.{IsCheapest}
use Rattle.wave_problem.specs.Wave.{Wave, IsAdmissible, IsUsable, split_at, cost, reward}
use Rattle.wave_problem.specs.Assignment.{start_of, pairs_of, load, times_started, IsAssignment}
use Rattle.wave_problem.proofs.Bound.{pending_known, live_known}
use Rattle.wave_problem.proofs.Pairs.{pairs_started, times_if_started}
use Rattle.price_certificate.specs.PriceList.{PriceList}
use Rattle.price_certificate.specs.declared.Condition.TheVariants.{WorkerPrice, Priced, Tight}
use Rattle.price_certificate.specs.declared.Condition.TheVariants.{Unstarted, Spare}
use Rattle.price_certificate.specs.Certificate.{claim, Certifies, HasOneSize, split_price, worker_price}
use Rattle.price_certificate.proofs.Duality.{certified-assignment}
use Rattle.network_prices.specs.Duals.{CertifiedIsReadOff}
use Rattle.network_prices.specs.Layers.{nodes_from, IsWorkerNode, IsLayered}
use Rattle.network_prices.specs.Networks.{WaveNodes, way_of, IsWaveNetwork}
use Rattle.network_prices.specs.Pending.{pending_splits}
use Rattle.network_prices.specs.Prices.{end_of, IsPlanOf, ArePricesOf, IsReadOff}
use Rattle.network_prices.specs.Ways.{deepest, IsInner, IsWay, CameFrom}
use Rattle.network_prices.proofs.Certified.{usable_or_not}
use Rattle.network_prices.proofs.Pending.{one_each, balanced}
use Rattle.network_prices.proofs.Routed.{Carries, all_carried}
use Rattle.network_prices.proofs.Routes.{CameOn, came_from}
use Rattle.network_prices.proofs.Sums.{outflow-ge_two}
use Rattle.network_prices.proofs.Waiting.{own_on}
use Rattle.network_prices.proofs.Ways.{deepest-ge, own_unit, came_down}

-- where any element is counted, the list has one that passes the test
counted : {X : Type 0} (test : X → Bool) (xs : List X) → 0 < count_by test xs
    → (x : X) × Contains xs x × (test x ≡ true)
counted test [] some = absurd (omega arith)
counted test (x ∷ xs) some = elim (cases_Bool (test x)) [
  | inl here ↦ (x, Contains-here xs x, here)
  | inr not ↦ (let found = counted test xs
      (let sum : count_by test (x ∷ xs) ≡ cond (test x) 1 0 + count_by test xs =
      sum_by-cons (λ y. cond (test y) 1 0) x xs in
      let here : ℕ = cond (test x) 1 0 in
      let none : here ≡ 0 = ap (λ (b : Bool). cond b 1 0) not in
      omega arith) in
      (found.0, Contains-there x xs found.0 found.1, found.2))
]

listed_or_not : (xs : List ℕ) (x : ℕ) → Contains xs x ⊎ (Contains xs x → ⊥)
listed_or_not [] x = inr (Contains-nil x)
listed_or_not (y ∷ xs) x = elim (cases_eq y x) [
  | inl e ↦ inl (subst (Contains (y ∷ xs)) e (Contains-here xs y))
  | inr n ↦ elim (listed_or_not xs x) [
    | inl on ↦ inl (Contains-there y xs x on)
    | inr off ↦ inr (λ on. elim (Contains-cons y xs x on) [ inl e ↦ n e | inr there ↦ off there ])
  ]
]

deepest-le : (h : ℕ → ℕ) (way : List ℕ) (most : ℕ) → ((x : ℕ) → Contains way x → h x ≤ most)
    → deepest h way ≤ most
deepest-le h [] most low = omega arith
deepest-le h (v ∷ way) most low =
    let here = low v (Contains-here way v) in
    let rest = deepest-le h way most (λ x on. low x (Contains-there v way x on)) in
    omega arith

-- the part of a way from one of its nodes up
way_from : (arcs : List FlowArc) (sources sink u : ℕ) (way : List ℕ) → IsWay arcs sources sink way
    → Contains way u
    → (rest : List ℕ) × IsWay arcs sources sink (u ∷ rest)
    × ((y : ℕ) → Contains (u ∷ rest) y → Contains way y)
way_from arcs sources sink u [] is on = absurd (Contains-nil u on)
way_from arcs sources sink u (v ∷ []) is on =
    let same = Contains-one v u on in (
      [],
      subst (λ (z : ℕ). IsWay arcs sources sink (z ∷ [])) same is,
      λ y there. subst (λ (z : ℕ). Contains (z ∷ []) y) (sym same) there,
    )
way_from arcs sources sink u (v ∷ (x ∷ way)) is on = elim (Contains-cons v (x ∷ way) u on) [
  | inl same ↦ (
    x ∷ way,
    subst (λ (z : ℕ). IsWay arcs sources sink (z ∷ (x ∷ way))) same is,
    λ y there. subst (λ (z : ℕ). Contains (z ∷ (x ∷ way)) y) (sym same) there,
  )
  | inr above ↦ (let found = way_from arcs sources sink u (x ∷ way) is.2 above in
      (found.0, found.1, λ y there. Contains-there v (x ∷ way) y (found.2 y there)))
]

-- an arc to a node of a way leaves a node of the way too, unless it leaves a source
entered_on : (arcs : List FlowArc) (sources sink k : ℕ) (way : List ℕ) → IsWay arcs sources sink way
    → k < length arcs → sources ≤ (arc_at arcs k).from → Contains way (arc_at arcs k).to
    → Contains way (arc_at arcs k).from
entered_on arcs sources sink k [] is l inner on = absurd (Contains-nil (arc_at arcs k).to on)
entered_on arcs sources sink k (v ∷ []) is l inner on =
    let from = is.1 k l (sym (Contains-one v (arc_at arcs k).to on)) in absurd (omega arith)
entered_on arcs sources sink k (v ∷ (u ∷ way)) is l inner on =
    elim (Contains-cons v (u ∷ way) (arc_at arcs k).to on) [
      | inl same ↦ elim (is.1.entered k l (sym same)) [
        | inl source ↦ absurd (omega arith)
        | inr fed ↦ subst (Contains (v ∷ (u ∷ way))) (sym fed.0)
            (Contains-there v (u ∷ way) u (Contains-here way u))
      ]
      | inr above ↦ Contains-there v (u ∷ way) (arc_at arcs k).from
          (entered_on arcs sources sink k (u ∷ way) is.2 l inner above)
    ]

module _ (wave : Wave) (first : ℕ) (above : ℕ → List ℕ) (arcs : List FlowArc) (starts : List (Option ℕ))
    (workers : ℕ) (prices : PriceList) (layers : IsLayered wave first arcs)
    (network : IsWaveNetwork wave (nodes_from wave first above) arcs)
    (sizes : HasOneSize (claim wave starts prices) workers) (certified : Certifies (claim wave starts prices))
    (idle : (w : ℕ) → (IsUsable wave.workers w → ⊥) → worker_price prices w ≡ 0) where
  abbrev nodes : WaveNodes
  nodes = nodes_from wave first above

  abbrev splits : ℕ
  splits = length wave.splits

  abbrev price : ℕ → ℕ → ℕ
  price s w = unwrap_or (cost wave s w) 0

  assignment : IsAssignment wave (pairs_of starts)
  assignment = certified-assignment (claim wave starts prices) certified

  start_is : (s w : ℕ) → Contains (pairs_of starts) (s, w) → start_of starts s ≡ Some w
  start_is s w on = All-contains (λ (pair : ℕ × ℕ). start_of starts pair.0 ≡ Some pair.1) (pairs_of starts)
      (s, w) (pairs_started starts) on

  may_start : (s w : ℕ) → Contains (pairs_of starts) (s, w) → IsAdmissible wave s w
  may_start s w on = All-contains (λ (pair : ℕ × ℕ). IsAdmissible wave pair.0 pair.1) (pairs_of starts)
      (s, w) assignment.admissible on

  same_worker : (v w : ℕ) (o : Option ℕ) → o ≡ Some v → o ≡ Some w → v ≡ w
  same_worker v w o e f = let both : Some v ≡ Some w = sym e ∙ f in cc

  -- a start of the split, and one on the worker, where any is counted
  pair_of : (s : ℕ) → 0 < times_started (pairs_of starts) s → (w : ℕ) × Contains (pairs_of starts) (s, w)
  pair_of s some =
      let found = counted (λ (pair : ℕ × ℕ). pair.0 == s) (pairs_of starts) some in (
        found.0.1,
        subst (λ (x : ℕ). Contains (pairs_of starts) (x, found.0.1)) (eqb-true found.0.0 s found.2)
            found.1,
      )

  pair_on : (w : ℕ) → 0 < load (pairs_of starts) w → (s : ℕ) × Contains (pairs_of starts) (s, w)
  pair_on w some =
      let found = counted (λ (pair : ℕ × ℕ). pair.1 == w) (pairs_of starts) some in (
        found.0.0,
        subst (λ (x : ℕ). Contains (pairs_of starts) (found.0.0, x)) (eqb-true found.0.1 w found.2)
            found.1,
      )

  listed : (s w : ℕ) → start_of starts s ≡ Some w → Contains (pairs_of starts) (s, w)
  listed s w e =
      let once = times_if_started starts s w e in
      let found = pair_of s (omega arith) in
      subst (λ (x : ℕ). Contains (pairs_of starts) (s, x))
      (same_worker found.0 w (start_of starts s) (start_is s found.0 found.1) e) found.1

  not_started : (s : ℕ) → start_of starts s ≡ None → times_started (pairs_of starts) s ≡ 0
  not_started s e = elim (cases_lt 0 (times_started (pairs_of starts) s)) [
    | inl some ↦ (let found = pair_of s some in
        absurd (let both : None ≡ Some found.0 = sym e ∙ start_is s found.0 found.1 in cc))
    | inr none ↦ omega arith
  ]

  -- A node above the workers lies as deep as the cheapest slot of the first n workers under it, but no deeper
  -- than the reward.
  record IsFloor (n v depth : ℕ) : Type 0 where
    pub most : depth ≤ reward wave
    pub least : (w : ℕ) → w < n → IsUsable wave.workers w → Contains (way_of nodes w) v
        → depth ≤ worker_price prices w
    pub met : (depth ≡ reward wave) ⊎ ((w : ℕ) × IsUsable wave.workers w × Contains (way_of nodes w) v
        × (depth ≡ worker_price prices w))

  keeps_floor : (n v depth : ℕ) → IsFloor n v depth
      → (IsUsable wave.workers n → Contains (way_of nodes n) v → depth ≤ worker_price prices n)
      → IsFloor (suc n) v depth
  keeps_floor n v depth is last = record {
    most = is.most;
    least = λ w l u on. elim (cases_eq n w) [
      | inl e ↦ subst (λ (x : ℕ). IsUsable wave.workers x → Contains (way_of nodes x) v
          → depth ≤ worker_price prices x) e last u on
      | inr d ↦ is.least w (omega arith) u on
    ];
    met = is.met;
  }

  floor_below : (n v : ℕ) → (depth : ℕ) × IsFloor n v depth
  floor_below zero v = (
    reward wave,
    record { most = omega arith; least = λ w l u on. absurd (omega arith); met = inl refl },
  )
  floor_below (suc n) v =
      let old = floor_below n v in
      let kept = keeps_floor n v old.0 old.1 in
      elim (usable_or_not wave n) [
        | inr not ↦ (old.0, kept (λ u on. absurd (not u)))
        | inl u ↦ elim (listed_or_not (way_of nodes n) v) [
          | inr off ↦ (old.0, kept (λ u on. absurd (off on)))
          | inl on ↦ elim (cases_lt (worker_price prices n) old.0) [
            | inr more ↦ (old.0, kept (λ u on. omega arith))
            | inl less ↦ (
              worker_price prices n,
              keeps_floor n v (worker_price prices n)
                  (record {
                    most = (let most = old.1.most in omega arith);
                    least = λ w l u on. (let low = old.1.least w l u on in omega arith);
                    met = inr (n, u, on, refl);
                  })
                  (λ u on. omega arith),
            )
          ]
        ]
      ]

  floor : ℕ → ℕ
  floor v = (floor_below (length wave.workers) v).0

  floor_is : (v : ℕ) → IsFloor (length wave.workers) v (floor v)
  unfolding floor
  floor_is v = (floor_below (length wave.workers) v).1

  -- a split lies as deep as its price leaves of the reward, a worker's node as deep as its slots' price
  abbrev depth : ℕ → ℕ
  depth v = cond (ltb v splits) (reward wave - split_price prices v)
      (cond (ltb v first) (floor v) (worker_price prices (v - first)))

  at_split : (s : ℕ) → s < splits → depth s ≡ reward wave - split_price prices s
  at_split s l = rw (lt-ltb s splits l) refl

  at_tree : (v : ℕ) → splits ≤ v → v < first → depth v ≡ floor v
  at_tree v low high = rw (le-ltb v splits low, lt-ltb v first high) refl

  at_worker : (w : ℕ) → depth (first + w) ≡ worker_price prices w
  at_worker w =
      let past = layers.past_splits in
      let same : first + w - first ≡ w = omega arith in
      rw (le-ltb (first + w) splits (omega arith), le-ltb (first + w) first (omega arith))
      (ap (worker_price prices) same)

  no_price : (w : ℕ) → length wave.workers ≤ w → worker_price prices w ≡ 0
  no_price w past = let size = sizes.worker_prices in get_or_past prices.workers w 0 (omega arith)

  at_sink : depth nodes.sink ≡ 0
  at_sink =
      let same : nodes.sink ≡ first + (length wave.workers + 1) = omega arith in
      ap depth same ∙ at_worker (length wave.workers + 1) ∙ no_price (length wave.workers + 1) (omega arith)

  at_unstarted : depth nodes.unstarted ≡ 0
  at_unstarted = at_worker (length wave.workers) ∙ no_price (length wave.workers) (omega arith)

  -- a node above the workers, and what stands on the way up from a usable worker: its own node, and such ones
  abbrev IsTreeNode : ℕ → Type 0
  IsTreeNode v = (splits ≤ v) × (v < first)

  above_tree : (v : ℕ) (way : List ℕ) → IsWay arcs splits nodes.sink (v ∷ way) → (x : ℕ) → Contains way x
      → IsTreeNode x
  above_tree v [] is x on = absurd (Contains-nil x on)
  above_tree v (u ∷ way) is x on = elim (Contains-cons u way x on) [
    | inr there ↦ above_tree u way is.2 x there
    | inl e ↦ subst IsTreeNode e (
        let fed = is.1 in
        let from = fed.from_is in
        let inner = fed.inner in
        elim (layers.leaves fed.feed fed.listed) [
          | inr last ↦ absurd (is.0.no_sink (sym fed.to_is ∙ last.0))
          | inl hands ↦ elim hands.0 [
            | inl pending ↦ absurd (let low = pending_known wave (arc_at arcs fed.feed).from pending in
                omega arith)
            | inr between ↦ (let high = between.1 in (omega arith, omega arith))
          ]
        ])
  ]

  on_way : (w y : ℕ) → IsUsable wave.workers w → Contains (way_of nodes w) y
      → (y ≡ first + w) ⊎ IsTreeNode y
  on_way w y u on = elim (Contains-cons (nodes.worker w) (nodes.above w) y on) [
    | inl e ↦ inl (sym e)
    | inr above ↦ inr (above_tree (nodes.worker w) (nodes.above w) (network.ways w u) y above)
  ]

  not_sink : (w y : ℕ) → IsUsable wave.workers w → Contains (way_of nodes w) y → y ≡ nodes.sink → ⊥
  not_sink w y u on e =
      let known = live_known wave w u.0 in
      let past = layers.past_splits in
      elim (on_way w y u on) [ inl own ↦ omega arith | inr tree ↦ (let high = tree.1 in omega arith) ]

  -- no node on a worker's way up lies deeper than the worker's price
  low_on_way : (w y : ℕ) → IsUsable wave.workers w → Contains (way_of nodes w) y
      → depth y ≤ worker_price prices w
  low_on_way w y u on = elim (on_way w y u on) [
    | inl own ↦ (let same = ap depth own ∙ at_worker w in omega arith)
    | inr tree ↦ (let same = at_tree y tree.0 tree.1 in
        let low = (floor_is y).least w (live_known wave w u.0) u on in omega arith)
  ]

  carried : (flows : List ℕ) × Carries wave nodes arcs network (pairs_of starts) flows
  carried = all_carried wave nodes arcs network (pairs_of starts) assignment

  abbrev flows : List ℕ
  flows = carried.0

  state : Carries wave nodes arcs network (pairs_of starts) flows
  state = carried.1

  even : (v : ℕ) → IsInner splits nodes.sink v → inflow arcs flows v ≡ outflow arcs flows v
  even = balanced wave nodes arcs flows network.past_splits network.no_entry state.shipped

  -- an arc with a unit of a start neither leaves the node of the splits that wait nor leads to it
  has_unit : (k : ℕ) → 0 < state.units k → 0 < get_or flows k 0
  has_unit k some =
      let l = state.routes.listed k some in
      let t = state.routes.taken k some in
      let may = may_start t.0 t.1 t.2 in
      let u : IsUsable wave.workers t.1 = (may.live, may.has_slot) in
      let apart = network.apart t.1 u in
      let same = state.only k in
      elim t.3 [
        | inl from ↦ (let is = same (λ e. apart (own_on nodes t.1 (sym e ∙ from)))
            (λ e. (let low = (network.waiting k l e).0 in let past = network.known t.1 in
            absurd (omega arith))) in
            omega arith)
        | inr by ↦ (let is = same (off_unstarted k l t.1 u by.0)
            (λ e. apart (subst (Contains (way_of nodes t.1)) e by.0)) in omega arith)
      ]
    where
      off_unstarted : (k : ℕ) → k < length arcs → (w : ℕ) → IsUsable wave.workers w
          → Contains (way_of nodes w) (arc_at arcs k).to → (arc_at arcs k).from ≡ nodes.unstarted → ⊥
      off_unstarted k l w u on e =
          let past = layers.past_splits in
          elim (layers.leaves k l) [
            | inr last ↦ not_sink w (arc_at arcs k).to u on last.0
            | inl hands ↦ elim hands.0 [
              | inl pending ↦ (let low = pending_known wave (arc_at arcs k).from pending in omega arith)
              | inr between ↦ (let high = between.1 in omega arith)
            ]
          ]

  came : (path : List ℕ) (s v : ℕ) → CameOn arcs state.units path s v → CameFrom arcs flows path s v
  came = came_from arcs state.units flows has_unit

  -- where the unit of a split does not wait, it takes an arc to its start's way, at no more than the start's
  -- cost
  start_arc : (k : ℕ) → k < length arcs → (arc_at arcs k).from < splits → 0 < get_or flows k 0
      → ((arc_at arcs k).to ≡ nodes.unstarted → ⊥)
      → (w : ℕ) × (start_of starts (arc_at arcs k).from ≡ Some w) × IsUsable wave.workers w
      × Contains (way_of nodes w) (arc_at arcs k).to × ((arc_at arcs k).cost ≤ price (arc_at arcs k).from w)
  start_arc k l low unit off =
      let past = layers.past_splits in
      let same = state.only k (λ e. absurd (omega arith)) off in
      let t = state.routes.taken k (omega arith) in
      let may = may_start t.0 t.1 t.2 in
      elim t.3 [
        | inl from ↦ absurd (let known = network.known t.1 in omega arith)
        | inr by ↦
            (let own : (arc_at arcs k).from ≡ t.0 = own_unit arcs flows splits nodes.sink state.shipped.sizes
            state.shipped.within even network.no_entry t.0 by.2.0 (arc_at arcs k).from low
            (came by.2.0 t.0 (arc_at arcs k).from by.2.1) in (
              t.1,
              ap (start_of starts) own ∙ start_is t.0 t.1 t.2,
              (may.live, may.has_slot),
              by.0,
              (let cheap = by.1 in let cost = ap (λ (s : ℕ). price s t.1) own in omega arith),
            ))
      ]

  -- where the unit of a split has come to a node above w, a slot of w costs no less than one of the split's
  -- own worker
  not_dearer : (path : List ℕ) (s v w x : ℕ) → start_of starts s ≡ Some v → s < splits
      → CameFrom arcs flows path s x → IsUsable wave.workers w → Contains (way_of nodes w) x
      → worker_price prices v ≤ worker_price prices w
  not_dearer path s v w x start low came u on =
      let up = way_from arcs splits nodes.sink x (way_of nodes w) (network.ways w u) on in
      let by = came_down arcs flows splits nodes.sink state.shipped.sizes state.shipped.within even
      network.no_entry s path up.0 x low up.1 came in
      let k : ℕ = by.0 in
      let is = by.1 in
      let from = is.from_is in
      let to = up.2 (arc_at arcs k).to is.on_way in
      let own = start_arc k is.listed (omega arith) is.unit
      (λ e. network.apart w u (subst (Contains (way_of nodes w)) e to)) in
      let same = ap (worker_price prices)
      (same_worker v own.0 (start_of starts s) start (ap (start_of starts) (sym from) ∙ own.1)) in
      let sound = network.sound (arc_at arcs k).from w k (omega arith) u is.listed refl to in
      let least = sound.1 in
      let priced = certified (Priced (arc_at arcs k).from w) sound.0 in
      let tight = certified (Tight (arc_at arcs k).from own.0) own.1 in
      let cheap = own.4 in
      omega arith

  -- an arc that does not lead to the sink leads to a usable worker's node, to where splits wait, or to a node
  -- above the workers
  arc_end : (k : ℕ) → k < length arcs → ((arc_at arcs k).to ≡ nodes.sink → ⊥)
      → ((w : ℕ) × IsUsable wave.workers w × ((arc_at arcs k).to ≡ nodes.worker w))
      ⊎ (((arc_at arcs k).to ≡ nodes.unstarted) ⊎ IsTreeNode (arc_at arcs k).to)
  arc_end k l onward = elim (layers.enters k l) [
    | inl worker ↦ elim (usable_or_not wave worker.0) [
      | inr not ↦ absurd (network.closed worker.0 k worker.1 not l worker.2)
      | inl u ↦ inl (worker.0, u, worker.2)
    ]
    | inr others ↦ elim others [
      | inl waits ↦ inr (inl waits)
      | inr rest ↦ elim rest [
        | inr sink ↦ absurd (onward sink)
        | inl hands ↦ elim hands [
          | inl split ↦ absurd (let below = pending_known wave (arc_at arcs k).to split in
              let past = network.no_entry k l in omega arith)
          | inr tree ↦ inr (inr tree)
        ]
      ]
    ]
  ]

  -- the arcs of the splits
  module _ (k : ℕ) (l : k < length arcs) (pending : (split_at wave (arc_at arcs k).from).pending ≡ true)
      (onward : (arc_at arcs k).to ≡ nodes.sink → ⊥) where
    low : (arc_at arcs k).from < splits
    low = pending_known wave (arc_at arcs k).from pending

    worth_by : (w : ℕ) → IsUsable wave.workers w → Contains (way_of nodes w) (arc_at arcs k).to
        → depth (arc_at arcs k).to ≡ worker_price prices w
        → depth (arc_at arcs k).from ≤ (arc_at arcs k).cost + depth (arc_at arcs k).to
    worth_by w u on same =
        let sound = network.sound (arc_at arcs k).from w k low u l refl on in
        let least = sound.1 in
        let priced = certified (Priced (arc_at arcs k).from w) sound.0 in
        let here = at_split (arc_at arcs k).from low in
        omega arith

    split_room : depth (arc_at arcs k).from ≤ (arc_at arcs k).cost + depth (arc_at arcs k).to
    split_room =
        let here = at_split (arc_at arcs k).from low in
        elim (arc_end k l onward) [
          | inl worker ↦ worth_by worker.0 worker.1 (own_on nodes worker.0 worker.2)
              (ap depth worker.2 ∙ at_worker worker.0)
          | inr others ↦ elim others [
            | inl waits ↦ (let dear = (network.waiting k l waits).1 in omega arith)
            | inr tree ↦ (let at = at_tree (arc_at arcs k).to tree.0 tree.1 in
                elim (floor_is (arc_at arcs k).to).met [
                  | inl most ↦ omega arith
                  | inr met ↦ worth_by met.0 met.1 met.2 (at ∙ met.3)
                ])
          ]
        ]

    split_unit : 0 < get_or flows k 0
        → (arc_at arcs k).cost + depth (arc_at arcs k).to ≤ depth (arc_at arcs k).from
    split_unit unit = elim (cases_eq (arc_at arcs k).to nodes.unstarted) [
      | inr off ↦
          (let own = start_arc k l low unit off in
          let cheap = own.4 in
          let deep = low_on_way own.0 (arc_at arcs k).to own.2 own.3 in
          let tight = certified (Tight (arc_at arcs k).from own.0) own.1 in
          let here = at_split (arc_at arcs k).from low in
          omega arith)
      | inl waits ↦
          (let none = not_at_all waits (start_of starts (arc_at arcs k).from) refl in
          let dear = (network.waiting k l waits).1 in
          let there = ap depth waits ∙ at_unstarted in
          let here = at_split (arc_at arcs k).from low in
          omega arith)
    ]
      where
        not_at_all : (arc_at arcs k).to ≡ nodes.unstarted → (o : Option ℕ)
            → start_of starts (arc_at arcs k).from ≡ o → split_price prices (arc_at arcs k).from ≡ 0
        not_at_all waits None e = certified (Unstarted (arc_at arcs k).from) e
        not_at_all waits (Some w) e =
            let on = listed (arc_at arcs k).from w e in
            let may = may_start (arc_at arcs k).from w on in
            let u : IsUsable wave.workers w = (may.live, may.has_slot) in
            let path = state.routes.came (arc_at arcs k).from w on in
            let by = came_down arcs flows splits nodes.sink state.shipped.sizes state.shipped.within even
            network.no_entry (arc_at arcs k).from path.0 (nodes.above w) (nodes.worker w) low
            (network.ways w u)
            (came path.0 (arc_at arcs k).from (nodes.worker w) path.1) in
            let is = by.1 in
            let two = outflow-ge_two arcs flows (arc_at arcs k).from k by.0 state.shipped.sizes l is.listed
            refl is.from_is
            (λ e. network.apart w u (subst (Contains (way_of nodes w))
            (ap (λ (j : ℕ). (arc_at arcs j).to) (sym e) ∙ waits) is.on_way)) in
            let one = one_each wave nodes arcs flows network.past_splits network.no_entry state.shipped
            (arc_at arcs k).from pending in
            let some = is.unit in
            absurd (omega arith)

  -- the arcs of the tree
  module _ (k : ℕ) (l : k < length arcs) (from : IsTreeNode (arc_at arcs k).from)
      (onward : (arc_at arcs k).to ≡ nodes.sink → ⊥) where
    -- a worker under the arc's end is under its start
    under : (w : ℕ) → IsUsable wave.workers w → Contains (way_of nodes w) (arc_at arcs k).to
        → floor (arc_at arcs k).from ≤ worker_price prices w
    under w u on = (floor_is (arc_at arcs k).from).least w (live_known wave w u.0) u
        (entered_on arcs splits nodes.sink k (way_of nodes w) (network.ways w u) l from.0 on)

    tree_room : depth (arc_at arcs k).from ≤ (arc_at arcs k).cost + depth (arc_at arcs k).to
    tree_room =
        let here = at_tree (arc_at arcs k).from from.0 from.1 in
        elim (arc_end k l onward) [
          | inl worker ↦ (let there = ap depth worker.2 ∙ at_worker worker.0 in
              let less = under worker.0 worker.1 (own_on nodes worker.0 worker.2) in omega arith)
          | inr others ↦ elim others [
            | inl waits ↦ absurd (let low = (network.waiting k l waits).0 in let past = from.0 in omega arith)
            | inr tree ↦ (let there = at_tree (arc_at arcs k).to tree.0 tree.1 in
                elim (floor_is (arc_at arcs k).to).met [
                  | inl most ↦ (let less = (floor_is (arc_at arcs k).from).most in omega arith)
                  | inr met ↦ (let less = under met.0 met.1 met.2 in let same = met.3 in omega arith)
                ])
          ]
        ]

    tree_unit : 0 < get_or flows k 0
        → (arc_at arcs k).cost + depth (arc_at arcs k).to ≤ depth (arc_at arcs k).from
    tree_unit unit =
        let here = at_tree (arc_at arcs k).from from.0 from.1 in
        let low = from.0 in
        let high = from.1 in
        let free = network.free k l from.0 in
        let same = state.only k (λ e. absurd (omega arith))
        (λ e. (let source = (network.waiting k l e).0 in absurd (omega arith))) in
        let t = state.routes.taken k (omega arith) in
        let may = may_start t.0 t.1 t.2 in
        elim t.3 [
          | inl worker ↦ absurd (omega arith)
          | inr by ↦
              (let deep = low_on_way t.1 (arc_at arcs k).to (may.live, may.has_slot) by.0 in
              elim (floor_is (arc_at arcs k).from).met [
                | inl most ↦ (let bound = certified (WorkerPrice t.1) in omega arith)
                | inr met ↦
                    (let less = not_dearer by.2.0 t.0 t.1 met.0 (arc_at arcs k).from
                    (start_is t.0 t.1 t.2) (pending_known wave t.0 may.pending)
                    (came by.2.0 t.0 (arc_at arcs k).from by.2.1) met.1 met.2 in
                    let same = met.3 in omega arith)
              ])
        ]

  -- the arcs to the sink
  module _ (k : ℕ) (l : k < length arcs) (to : (arc_at arcs k).to ≡ nodes.sink) where
    -- a worker with a slot left has no price
    left_over : (w : ℕ) → (arc_at arcs k).from ≡ nodes.worker w → get_or flows k 0 < (arc_at arcs k).capacity
        → worker_price prices w ≡ 0
    left_over w from room = elim (usable_or_not wave w) [
      | inr not ↦ idle w not
      | inl u ↦
          (let less = outflow-lt arcs flows (nodes.worker w) k state.shipped.sizes state.shipped.within l from
          room in
          let slots = network.slots w u in
          let loads = state.loads w u in
          let low = (certified (Spare w)).left (omega arith) in omega arith)
    ]

    last_arc : ((arc_at arcs k).from ≡ nodes.unstarted) ⊎ IsWorkerNode wave first (arc_at arcs k).from
        → NoNegativeArc depth (arc_at arcs k) (get_or flows k 0)
    last_arc from =
        let past = layers.past_splits in
        let end = ap depth to ∙ at_sink in
        elim from [
          | inl waits ↦ (let here = ap depth waits ∙ at_unstarted in
              let free = network.free k l (omega arith) in (λ room. omega arith, λ unit. omega arith))
          | inr worker ↦
              (let here = ap depth worker.2 ∙ at_worker worker.0 in
              let free = network.free k l (let at = worker.2 in omega arith) in (
                (λ room. (let none = left_over worker.0 worker.2 room in omega arith)),
                (λ unit. omega arith),
              ))
        ]

  reduced : NoNegative arcs flows depth
  reduced k l = elim (layers.leaves k l) [
    | inr last ↦ last_arc k l last.0 last.1
    | inl hands ↦ elim hands.0 [
      | inl pending ↦ ((λ room. split_room k l pending hands.1), split_unit k l pending hands.1)
      | inr tree ↦ ((λ room. tree_room k l tree hands.1), tree_unit k l tree hands.1)
    ]
  ]

  cheapest : IsCheapest arcs (pending_splits wave) nodes.sink flows
  cheapest = record {
    shipment = state.shipped;
    least = λ other s. cheapest_within arcs flows other depth state.shipped.sizes s.sizes reduced s.within
        (λ v. (let a = state.shipped.balance v in let b = s.balance v in omega arith));
  }

  plan : IsPlanOf wave nodes arcs flows starts
  plan = record {
    size = sizes.starts;
    known = λ s w e. live_known wave w (may_start s w (listed s w e)).live;
    idle = λ s f. none s f (start_of starts s) refl;
    came = λ s p. ends s p (start_of starts s) refl;
    loads = loads;
  }
    where
      none : (s : ℕ) → (split_at wave s).pending ≡ false → (o : Option ℕ) → start_of starts s ≡ o
          → start_of starts s ≡ None
      none s f None e = e
      none s f (Some w) e = absurd (false≢true (sym f ∙ (may_start s w (listed s w e)).pending))

      ends : (s : ℕ) → (split_at wave s).pending ≡ true → (o : Option ℕ) → start_of starts s ≡ o
          → (path : List ℕ) × CameFrom arcs flows path s (end_of nodes o)
      ends s p None e =
          let waits = state.waits s p (not_started s e) in
          let is = waits.1 in
          (waits.0 ∷ [], (is.listed, waits.2, is.to_is, is.from_is))
      ends s p (Some w) e =
          let path = state.routes.came s w (listed s w e) in
          (path.0, came path.0 s (nodes.worker w) path.1)

      loads : (w : ℕ) → w < length wave.workers
          → load (pairs_of starts) w ≡ outflow arcs flows (nodes.worker w)
      loads w known = elim (usable_or_not wave w) [
        | inl u ↦ sym (state.loads w u)
        | inr not ↦
            (let entered = inflow_none arcs flows (nodes.worker w)
            (λ i l e. network.closed w i known not l e) in
            let same = even (nodes.worker w)
            (record { no_source = network.known w; no_sink = λ e. absurd (omega arith) }) in
            elim (cases_lt 0 (load (pairs_of starts) w)) [
              | inr none ↦ omega arith
              | inl some ↦ (let found = pair_on w some in let may = may_start found.0 w found.1 in
                  absurd (not (may.live, may.has_slot)))
            ])
      ]

  priced : ArePricesOf wave nodes depth starts prices
  priced = record {
    split_size = sizes.split_prices;
    worker_size = sizes.worker_prices;
    usable = λ w u.
        (let own = at_worker w in
        let least = deepest-ge depth (way_of nodes w) (nodes.worker w) (own_on nodes w refl) in
        let most = deepest-le depth (way_of nodes w) (worker_price prices w) (λ y on. low_on_way w y u on) in
        omega arith);
    unusable = idle;
    started = λ s w e. (let tight = certified (Tight s w) e in omega arith);
    unstarted = λ s e. certified (Unstarted s) e;
  }

  -- the caller says of what kind the network is
  pub read_off : (kind : List FlowArc → Type 0) → kind arcs → IsReadOff wave nodes kind starts prices
  read_off kind over = record {
    arcs = arcs;
    flows = flows;
    depths = depth;
    over = over;
    cheapest = cheapest;
    reduced = reduced;
    at_sink = at_sink;
    plan = plan;
    priced = priced;
    cost = state.costs;
  }

pub certified_is_read_off : CertifiedIsReadOff
certified_is_read_off wave first above arcs starts workers prices layers network sizes certified idle =
    read_off wave first above arcs starts workers prices layers network sizes certified idle
    (λ own. own ≡ arcs) refl
