-- A plan and prices read off a network's flows meet every condition of the certificate.
use Rattle.std.proofs.Common.{◌≡◌, ℕ, suc, ◌+◌, ◌*◌, ◌<◌, ◌≤◌, true, false, cond, List, [], ◌∷◌, ◌++◌, length}
use Rattle.std.proofs.Common.{get_or, Option, Some, None, refl, sym, ap, ◌∙◌, subst, inl, inr, ◌⊎◌, arith}
use Rattle.std.proofs.Common.{unwrap_or, Contains}
use Rattle.std.specs.Prelude.{◌==◌, IsSome, slice_index_or}
use Rattle.std.proofs.lemmas.Bool.{cases_Bool, cases_eq, cases_lt}
use Rattle.std.proofs.lemmas.List.{length-append}
use Rattle.std.proofs.lemmas.List.Sums.{sum_by-cons}
use Rattle.std.proofs.Math.Nat.{mul-suc}
use Rattle.flow_network.specs.declared.arcs.FlowArc.{FlowArc}
use Rattle.flow_network.specs.Flows.{arc_at, NoNegative, inflow, outflow}
use Rattle.wave_problem.specs.Wave.{Wave, IsAdmissible, split_at, worker_at, live_holders, cost, reward}
use Rattle.wave_problem.specs.Assignment.{start_of, pairs_from, pairs_of, load, total, IsAssignment}
use Rattle.wave_problem.proofs.Pairs.{pairs_started, times_at_most_once}
use Rattle.wave_problem.proofs.Bound.{pending_known, live_known}
use Rattle.price_certificate.specs.PriceList.{PriceList}
use Rattle.price_certificate.specs.declared.Condition.TheVariants.{Open, Allowed, Room, SplitPrice}
use Rattle.price_certificate.specs.declared.Condition.TheVariants.{WorkerPrice, Priced, Tight, Unstarted}
use Rattle.price_certificate.specs.declared.Condition.TheVariants.{Spare}
use Rattle.price_certificate.specs.Certificate.{claim, Certifies, split_price, worker_price}
use Rattle.network_prices.specs.Ways.{IsInner, CameFrom}
use Rattle.network_prices.specs.Pending.{pending_below, pending_splits}
use Rattle.wave_problem.specs.Wave.{IsUsable}
use Rattle.network_prices.specs.Networks.{WaveNodes, way_of, IsOffer, IsWaveNetwork}
use Rattle.network_prices.specs.Prices.{IsShipped, end_of, IsPlanOf, ArePricesOf, CostsNoLess}
use Rattle.network_prices.specs.Prices.{FlowIsAssignment, PricesCertify}
use Rattle.network_prices.proofs.Pending.{pending-more, pending-same, one_each, none_each, balanced}
use Rattle.network_prices.proofs.Pending.{fed_by_others}
use Rattle.network_prices.proofs.Costs.{spent_at, spent, spent_none, spent_more, spent_all, spent_nothing}
use Rattle.network_prices.proofs.Costs.{spent_one}
use Rattle.network_prices.proofs.Ways.{deepest-ge, CameBy, room_out, own_unit, came_down}
use Rattle.flow_network.proofs.Room.{outflow-le}
use Rattle.network_prices.proofs.Sums.{outflow-ge, outflow-ge_two}

-- a load comes from a start
some_start : (n w : ℕ) (starts : List (Option ℕ)) → 0 < load (pairs_from n starts) w →
    (s : ℕ) × (start_of starts s ≡ Some w)
some_start n w [] l = absurd (omega arith)
some_start n w (None ∷ rest) l = let found = some_start (n + 1) w rest l in (suc found.0, found.1)
some_start n w (Some v ∷ rest) l = elim (cases_eq v w) [
  | inl e ↦ (0, ap Some e)
  | inr d ↦ (let found =
      some_start (n + 1) w rest
      (grind (
        arith,
        sum_by-cons (λ (pair : ℕ × ℕ). cond (pair.1 == w) 1 0) (n, v)
            (pairs_from (n + 1) rest),
      )) in (suc found.0, found.1))
]

pub usable_or_not : (wave : Wave) (w : ℕ) → IsUsable wave.workers w ⊎ (IsUsable wave.workers w → ⊥)
usable_or_not wave w = grind arith

module _ (wave : Wave) (nodes : WaveNodes) (arcs : List FlowArc) (flows : List ℕ) (starts : List (Option ℕ))
    (network : IsWaveNetwork wave nodes arcs) (shipped : IsShipped wave nodes arcs flows)
    (plan : IsPlanOf wave nodes arcs flows starts) where
  own_one : (s : ℕ) → (split_at wave s).pending ≡ true → outflow arcs flows s ≡ 1
  own_one = one_each wave nodes arcs flows network.past_splits network.no_entry shipped

  even : (v : ℕ) → IsInner (length wave.splits) nodes.sink v → inflow arcs flows v ≡ outflow arcs flows v
  even = balanced wave nodes arcs flows network.past_splits network.no_entry shipped

  abbrev price : ℕ → ℕ → ℕ
  price s w = unwrap_or (cost wave s w) 0

  -- a split that starts is pending
  pending : (s w : ℕ) → start_of starts s ≡ Some w → (split_at wave s).pending ≡ true
  pending s w e = elim (cases_Bool (split_at wave s).pending) [
    | inl t ↦ t
    | inr f ↦ (let none = plan.idle s f in cc)
  ]

  -- the arc that a split's unit left by is its only one with a unit
  no_other : (s i j : ℕ) → (split_at wave s).pending ≡ true → i < length arcs → j < length arcs →
      (arc_at arcs i).from ≡ s → (arc_at arcs j).from ≡ s
      → (i ≡ j → ⊥) → 0 < get_or flows i 0 → get_or flows j 0 ≡ 0
  no_other s i j p l m from from' n unit =
      let two = outflow-ge_two arcs flows s i j shipped.sizes l m from from' n in
      let one = own_one s p in omega arith

  -- a worker that a split starts on is usable
  usable : (s w : ℕ) → start_of starts s ≡ Some w → IsUsable wave.workers w
  usable s w e = elim (usable_or_not wave w) [
    | inl u ↦ u
    | inr n ↦
        (let p = pending s w e in
        let c = plan.came s p in
        let known = pending_known wave s p in
        let at : CameFrom arcs flows c.0 s (nodes.worker w) =
        subst (λ (o : Option ℕ). CameFrom arcs flows c.0 s (end_of nodes o)) e c.1 in
        absurd (not_there s w n (plan.known s w e) known c.0 at))
  ]
    where
      not_there : (s w : ℕ) → (IsUsable wave.workers w → ⊥) → w < length wave.workers →
          s < length wave.splits → (path : List ℕ) → CameFrom arcs flows path s (nodes.worker w) → ⊥
      not_there s w n l k [] came = let inner = network.known w in absurd (omega arith)
      not_there s w n l k (i ∷ path) came = network.closed w i l n came.0 came.2

  -- the arc by which the unit of a split that starts came to its worker's way
  came : (s w : ℕ) → start_of starts s ≡ Some w → (k : ℕ) × CameBy arcs flows s (way_of nodes w) k
  came s w e =
      let p = pending s w e in
      let c = plan.came s p in
      let at : CameFrom arcs flows c.0 s (nodes.worker w) =
      subst (λ (o : Option ℕ). CameFrom arcs flows c.0 s (end_of nodes o)) e c.1 in
      came_down arcs flows (length wave.splits) nodes.sink shipped.sizes shipped.within even
      network.no_entry s
      c.0 (nodes.above w) (nodes.worker w) (pending_known wave s p) (network.ways w (usable s w e)) at

  admissible : (s w : ℕ) → start_of starts s ≡ Some w → IsAdmissible wave s w
  admissible s w e =
      let c = came s w e in let by = c.1 in
      (network.sound s w c.0 (pending_known wave s (pending s w e)) (usable s w e) by.listed by.from_is
      by.on_way).0

  open_at : (s : ℕ) (o : Option ℕ) → start_of starts s ≡ o → IsSome o →
      ((split_at wave s).pending ≡ true) × (0 < length (live_holders wave s))
  open_at s None e some = cc
  open_at s (Some w) e some = let a = admissible s w e in (a.pending, a.held)

  room : (w : ℕ) → load (pairs_of starts) w ≤ (worker_at wave w).free
  room w = elim (cases_lt 0 (load (pairs_of starts) w)) [
    | inr n ↦ omega arith
    | inl l ↦
        (let found = some_start 0 w starts l in
        let u = usable found.0 w found.1 in
        let loads = plan.loads w (plan.known found.0 w found.1) in
        let most = outflow-le arcs flows (nodes.worker w) shipped.within in
        let slots = network.slots w u in
        omega arith)
  ]

  -- what a split costs that has no start, or this one
  abbrev fee : ℕ → Option ℕ → ℕ
  fee s None = reward wave
  fee s (Some w) = price s w

  -- the arc of a split's unit costs no less than its start does, or the reward
  own_cost : (s : ℕ) → (split_at wave s).pending ≡ true → (o : Option ℕ) → start_of starts s ≡ o
      → fee s o ≤ spent_at arcs flows s
  own_cost s p None e =
      let c = plan.came s p in
      let at : CameFrom arcs flows c.0 s nodes.unstarted =
      subst (λ (o : Option ℕ). CameFrom arcs flows c.0 s (end_of nodes o)) e c.1 in
      waited c.0 at
    where
      waited : (path : List ℕ) → CameFrom arcs flows path s nodes.unstarted →
          reward wave ≤ spent_at arcs flows s
      waited [] came =
          let known = pending_known wave s p in let inner = network.rest_inner.no_source in
          absurd (omega arith)
      waited (k ∷ path) came =
          let w = network.waiting k came.0 came.2 in
          let own = own_unit arcs flows (length wave.splits) nodes.sink shipped.sizes shipped.within even
          network.no_entry s path (arc_at arcs k).from w.0 came.3 in
          let one = spent_one arcs flows s k shipped.sizes (own_one s p) came.0 own came.1 in
          let c = w.1 in omega arith
  own_cost s p (Some w) e =
      let own = came s w e in let by = own.1 in
      let least = (network.sound s w own.0 (pending_known wave s p) (usable s w e) by.listed by.from_is
      by.on_way).1 in
      let one = spent_one arcs flows s own.0 shipped.sizes (own_one s p) by.listed by.from_is by.unit in
      omega arith

  abbrev with_start : ℕ → Option ℕ → List (ℕ × ℕ) → List (ℕ × ℕ)
  with_start n None pairs = pairs
  with_start n (Some w) pairs = (n, w) ∷ pairs

  -- the splits from n on, of which these are the starts, cost no less than the starts and the rewards
  abbrev Costs : ℕ → List (ℕ × ℕ) → Type 0
  Costs n pairs = spent n arcs flows + total wave pairs + reward wave * length (pending_splits wave)
      ≤ spent (length wave.splits) arcs flows + reward wave * length pairs
      + reward wave * length (pending_below wave n)

  one_more : (n : ℕ) (x : Option ℕ) (pairs : List (ℕ × ℕ)) → n < length wave.splits → start_of starts n ≡ x
      → Costs (suc n) pairs → Costs n (with_start n x pairs)
  one_more n x pairs known here rest = elim (cases_Bool (split_at wave n).pending) [
    | inl p ↦ waits_for x p (own_cost n p x here)
    | inr idle ↦ subst (λ (o : Option ℕ). Costs n (with_start n o pairs)) (sym (plan.idle n idle) ∙ here)
        (closed idle)
  ]
    where
      more : spent (suc n) arcs flows ≡ spent n arcs flows + spent_at arcs flows n
      more = spent_more n arcs flows

      rewards : (split_at wave n).pending ≡ true
          → reward wave * length (pending_below wave (suc n)) ≡ reward wave * length (pending_below wave n)
          + reward wave
      rewards p =
          let size = length-append (pending_below wave n) (n ∷ []) in
          let one : length (pending_below wave (suc n)) ≡ suc (length (pending_below wave n)) =
          ap (λ (z : List ℕ). length z) (pending-more wave n p)
          ∙ (let e : length (pending_below wave n ++ n ∷ []) ≡ suc (length (pending_below wave n)) =
          omega arith in e) in
          ap (λ (z : ℕ). reward wave * z) one ∙ mul-suc (reward wave) (length (pending_below wave n))

      waits_for : (x : Option ℕ) → (split_at wave n).pending ≡ true → fee n x ≤ spent_at arcs flows n →
          Costs n (with_start n x pairs)
      waits_for None p e = let again = rewards p in let was = rest in let step = more in omega arith
      waits_for (Some w) p e =
          let again = rewards p in let was = rest in let step = more in
          let start = mul-suc (reward wave) (length pairs) in
          let sum = sum_by-cons (λ (pair : ℕ × ℕ). unwrap_or (cost wave pair.0 pair.1) 0) (n, w) pairs in
          omega arith

      closed : (split_at wave n).pending ≡ false → Costs n pairs
      closed idle =
          let nothing = spent_nothing arcs flows n
          (none_each wave nodes arcs flows network.past_splits network.no_entry shipped n known idle) in
          let same = ap (λ (z : List ℕ). reward wave * length z) (pending-same wave n idle) in
          let was = rest in let step = more in
          omega arith

  costs_from : (n : ℕ) (xs : List (Option ℕ)) → n + length xs ≡ length wave.splits
      → ((i : ℕ) → i < length xs → start_of starts (n + i) ≡ start_of xs i) → Costs n (pairs_from n xs)
  costs_from n [] all are =
      let end : n ≡ length wave.splits = omega arith in
      let spends = ap (λ (k : ℕ). spent k arcs flows) end in
      let waits = ap (λ (k : ℕ). reward wave * length (pending_below wave k)) end in
      omega arith
  costs_from n (x ∷ xs) all are =
      let next : n + 1 ≡ suc n = omega arith in
      let rest = costs_from (n + 1) xs (omega arith)
      (λ i l. ap (λ (k : ℕ). start_of starts k) (let k : n + 1 + i ≡ n + suc i = omega arith in
      k) ∙ are (suc i) (omega arith)) in
      let here : start_of starts n ≡ x =
      ap (λ (k : ℕ). start_of starts k) (let k : n ≡ n + 0 = omega arith in k) ∙ are 0 (omega arith) in
      let one = one_more n x (pairs_from (n + 1) xs) (omega arith) here
      (subst (λ (k : ℕ). Costs k (pairs_from (n + 1) xs)) next rest) in
      front x one
    where
      front : (x : Option ℕ) → Costs n (with_start n x (pairs_from (n + 1) xs)) →
          Costs n (pairs_from n (x ∷ xs))
      front None one = one
      front (Some w) one = one

  pub costs_no_less : CostsNoLess wave arcs flows (pairs_of starts)
  costs_no_less =
      let all = costs_from 0 starts (let size = plan.size in omega arith)
      (λ i l. ap (λ (k : ℕ). start_of starts k) (let k : 0 + i ≡ i = omega arith in k)) in
      let none = spent_none arcs flows in
      let whole = spent_all (length wave.splits) arcs flows network.free in
      omega arith

  pub is_assignment : IsAssignment wave (pairs_of starts)
  is_assignment = record {
    admissible = λ k d l.
        (let pair : ℕ × ℕ = slice_index_or (pairs_of starts) k d in
        admissible pair.0 pair.1 (pairs_started starts k d l));
    once = times_at_most_once starts;
    within_free = room;
  }

  module _ (h : ℕ → ℕ) (prices : PriceList) (reduced : NoNegative arcs flows h) (at_sink : h nodes.sink ≡ 0)
      (priced : ArePricesOf wave nodes h starts prices) where
    -- so no other arc of the split is cheaper
    no_cheaper : (s i j : ℕ) → (split_at wave s).pending ≡ true → i < length arcs → j < length arcs →
        (arc_at arcs i).from ≡ s → (arc_at arcs j).from ≡ s
        → (arc_at arcs j).capacity ≡ 1 → 0 < get_or flows i 0 →
        (arc_at arcs i).cost + h (arc_at arcs i).to ≤ (arc_at arcs j).cost + h (arc_at arcs j).to
    no_cheaper s i j p l m from from' one unit = elim (cases_eq i j) [
      | inl e ↦ (let c = ap (λ (k : ℕ). (arc_at arcs k).cost) e in
          let d = ap (λ (k : ℕ). h (arc_at arcs k).to) e in omega arith)
      | inr n ↦
          (let none = no_other s i j p l m from from' n unit in
          let own = (reduced i l).1 unit in
          let other = (reduced j m).0 (omega arith) in
          let a = ap h from in let b = ap h from' in omega arith)
    ]

    -- a unit of the split on an arc other than its waiting arc costs no more than the reward
    not_above_reward : (s i : ℕ) → (split_at wave s).pending ≡ true → i < length arcs →
        (arc_at arcs i).from ≡ s → ((arc_at arcs i).to ≡ nodes.unstarted → ⊥)
        → 0 < get_or flows i 0 → (arc_at arcs i).cost + h (arc_at arcs i).to ≤ reward wave
    not_above_reward s i p l from off unit =
        let w = network.wait s p in
        let wait = w.1 in
        let known = pending_known wave s p in
        let others = fed_by_others wave nodes arcs flows network.past_splits network.no_entry shipped
        nodes.unstarted i
        (λ k m t. (network.waiting k m t).0) l (omega arith) off in
        let same = even nodes.unstarted network.rest_inner in
        let r = network.rest in
        let rest = r.2 in
        let out = outflow-ge arcs flows nodes.unstarted r.0 shipped.sizes rest.listed rest.from_is in
        let room = rest.capacity_is in
        let enough = r.3 in
        let step = (reduced r.0 rest.listed).0 (omega arith) in
        let free = rest.cost_is in
        let a = ap h rest.from_is in let b = ap h rest.to_is in let c = at_sink in
        let waits = no_cheaper s i w.0 p l wait.listed from wait.from_is wait.capacity_is unit in
        let d = ap h wait.to_is in let f = wait.cost_is in
        omega arith

    worth : (s w : ℕ) → start_of starts s ≡ Some w → (k : ℕ) × CameBy arcs flows s (way_of nodes w) k
        × (price s w + worker_price prices w ≤ (arc_at arcs k).cost + h (arc_at arcs k).to)
    worth s w e =
        let c = came s w e in let by = c.1 in
        let least = (network.sound s w c.0 (pending_known wave s (pending s w e))
        (usable s w e) by.listed by.from_is by.on_way).1 in
        let same = priced.usable w (usable s w e) in
        let deep = by.deep h reduced in
        (c.0, by, omega arith)

    -- the start and the worker's price cost no more than the reward
    fits : (s w : ℕ) → start_of starts s ≡ Some w → price s w + worker_price prices w ≤ reward wave
    fits s w e =
        let c = worth s w e in let by = c.1 in let bound = c.2 in
        let off : (arc_at arcs c.0).to ≡ nodes.unstarted → ⊥ =
        λ u. network.apart w (usable s w e) (subst (λ (v : ℕ). Contains (way_of nodes w) v) u by.on_way) in
        let less = not_above_reward s c.0 (pending s w e) by.listed by.from_is off by.unit in
        omega arith

    -- another start of a split that starts is worth no more, and one of a split that does not no more than
    -- the reward
    worth_of_offer : (s w k : ℕ) → IsUsable wave.workers w → IsOffer arcs s (way_of nodes w) (price s w) k
        → (arc_at arcs k).cost + h (arc_at arcs k).to ≤ price s w + worker_price prices w
    worth_of_offer s w k u offer =
        let same = priced.usable w u in
        let above = deepest-ge h (way_of nodes w) (arc_at arcs k).to offer.on_way in
        let most = offer.at_most in
        omega arith

    spare : (w : ℕ) → load (pairs_of starts) w < (worker_at wave w).free → worker_price prices w ≡ 0
    spare w l = elim (usable_or_not wave w) [
      | inr n ↦ priced.unusable w n
      | inl u ↦
          (let s = network.slot w u in let slot = s.1 in
          let known = live_known wave w u.0 in
          let loads = plan.loads w known in
          let out = outflow-ge arcs flows (nodes.worker w) s.0 shipped.sizes slot.listed slot.from_is in
          let cap = slot.capacity_is in
          let room : get_or flows s.0 0 < (arc_at arcs s.0).capacity = omega arith in
          let deep = room_out arcs flows (length wave.splits) nodes.sink shipped.sizes shipped.within even h
          reduced (nodes.above w) (nodes.worker w) s.0 (network.ways w u) slot.listed slot.from_is room in
          let step = (reduced s.0 slot.listed).0 room in
          let a = ap h slot.from_is in let b = ap h slot.to_is in let c = at_sink in let d = slot.cost_is in
          let same = priced.usable w u in
          omega arith)
    ]

    split_price_at : (s : ℕ) (o : Option ℕ) → start_of starts s ≡ o → split_price prices s ≤ reward wave
    split_price_at s None e = let p = priced.unstarted s e in omega arith
    split_price_at s (Some w) e = let p = priced.started s w e in omega arith

    worker_price_at : (w : ℕ) → worker_price prices w ≤ reward wave
    worker_price_at w = elim (usable_or_not wave w) [
      | inr n ↦ (let p = priced.unusable w n in omega arith)
      | inl u ↦ elim (cases_lt (load (pairs_of starts) w) (worker_at wave w).free) [
        | inl l ↦ (let p = spare w l in omega arith)
        | inr f ↦
            (let some = u.1 in
            let found = some_start 0 w starts (omega arith) in
            let fit = fits found.0 w found.1 in omega arith)
      ]
    ]

    waits : (s : ℕ) → (split_at wave s).pending ≡ true → (path : List ℕ) →
        CameFrom arcs flows path s nodes.unstarted → (j : ℕ) → j < length arcs → (arc_at arcs j).from ≡ s →
        (arc_at arcs j).capacity ≡ 1
        → reward wave ≤ (arc_at arcs j).cost + h (arc_at arcs j).to
    waits s p [] came j l from one = let known = pending_known wave s p in
        let inner = network.rest_inner.no_source in absurd (omega arith)
    waits s p (k ∷ path) came j l from one =
        let w = network.waiting k came.0 came.2 in
        let own = own_unit arcs flows (length wave.splits) nodes.sink shipped.sizes shipped.within even
        network.no_entry s path (arc_at arcs k).from w.0 came.3 in
        let less = no_cheaper s k j p came.0 l own from one came.1 in
        let c = w.1 in
        omega arith

    priced_at_all : (s w : ℕ) (o : Option ℕ) → start_of starts s ≡ o → IsAdmissible wave s w →
        reward wave ≤ split_price prices s + worker_price prices w + price s w
    priced_at_all s w None e a =
        let offer = network.complete s w a in
        let u : IsUsable wave.workers w = (a.live, a.has_slot) in
        let most = worth_of_offer s w offer.0 u offer.1 in
        let c = plan.came s a.pending in
        let at : CameFrom arcs flows c.0 s nodes.unstarted =
        subst (λ (o : Option ℕ). CameFrom arcs flows c.0 s (end_of nodes o)) e c.1 in
        let wait = waits s a.pending c.0 at offer.0 offer.1.listed offer.1.from_is offer.1.one in
        omega arith
    priced_at_all s w (Some v) e a =
        let offer = network.complete s w a in
        let u : IsUsable wave.workers w = (a.live, a.has_slot) in
        let most = worth_of_offer s w offer.0 u offer.1 in
        let own = worth s v e in let by = own.1 in let bound = own.2 in
        let less = no_cheaper s own.0 offer.0 a.pending by.listed offer.1.listed by.from_is offer.1.from_is
        offer.1.one by.unit in
        let p = priced.started s v e in
        omega arith

    tight : (s w : ℕ) → start_of starts s ≡ Some w → split_price prices s + worker_price prices w + price s w
        ≡ reward wave
    tight s w e = let p = priced.started s w e in let f = fits s w e in omega arith

    certifies : Certifies (claim wave starts prices)
    certifies (Open s) = open_at s (start_of starts s) refl
    certifies (Allowed s w) = λ e. (let a = admissible s w e in (a.live, a.not_barred))
    certifies (Room w) = room w
    certifies (SplitPrice s) = omega (arith, split_price_at s (start_of starts s) refl)
    certifies (WorkerPrice w) = omega (arith, worker_price_at w)
    certifies (Priced s w) = λ a. omega (arith, priced_at_all s w (start_of starts s) refl a)
    certifies (Tight s w) = λ e. omega (arith, tight s w e)
    certifies (Unstarted s) = priced.unstarted s
    certifies (Spare w) = record { taken = λ _. omega arith; left = λ l. omega (arith, spare w l) }

pub flow_is_assignment : FlowIsAssignment
flow_is_assignment wave nodes arcs flows starts network shipped plan = (
  is_assignment wave nodes arcs flows starts network shipped plan,
  costs_no_less wave nodes arcs flows starts network shipped plan,
)

pub prices_certify : PricesCertify
prices_certify wave nodes arcs flows h starts prices network shipped reduced at_sink plan priced =
    certifies wave nodes arcs flows starts network shipped plan h prices reduced at_sink priced
