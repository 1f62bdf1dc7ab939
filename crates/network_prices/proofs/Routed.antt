-- An admissible assignment is a flow of the same cost: where the unit of each pending split waits, one start
-- after the other leads its split's unit to the worker.
use Rattle.std.proofs.Common.{◌≡◌, ℕ, suc, ◌+◌, ◌-◌, ◌<◌, ◌≤◌, Bool, true, false, cond, List, []}
use Rattle.std.proofs.Common.{◌∷◌, length, get_or, refl, sym, ap, ◌∙◌, subst, inl, inr, arith, unwrap_or}
use Rattle.std.proofs.Common.{get_or-set_same, Option, Contains}
use Rattle.std.specs.Prelude.{◌==◌}
use Rattle.std.proofs.lemmas.Bool.{cases_eq, cases_lt, false≢true}
use Rattle.std.proofs.lemmas.List.Elements.{All-head, All-tail}
use Rattle.std.proofs.lemmas.List.Sums.{sum_by-cons}
use Rattle.std.proofs.Math.Nat.{mul-suc}
use Rattle.flow_network.specs.declared.arcs.FlowArc.{FlowArc}
use Rattle.flow_network.specs.declared.arcs.ArcNo.{ArcNo}
use Rattle.flow_network.specs.declared.arcs.ArcNo.TheVariants.{Forward, Reverse}
use Rattle.flow_network.specs.Flows.{arc_at, arc_index, tail_of, IsPath, IsDistinct, Lacks, pushed}
use Rattle.flow_network.specs.Flows.{shifted, inflow, outflow, unit_at}
use Rattle.flow_network.specs.Laws.{flow_cost, outroom}
use Rattle.flow_network.proofs.Balance.{length-shifted, kept_shift, outflow_forward, outflow_back}
use Rattle.flow_network.proofs.Balance.{flow_cost_forward, flow_cost_back, push_balance}
use Rattle.flow_network.proofs.Members.{Contains-nil, Contains-here, Contains-there, Contains-cons}
use Rattle.flow_network.proofs.Members.{Contains-one}
use Rattle.flow_network.proofs.Pushing.{residual_path, pushed_within}
use Rattle.flow_network.proofs.Room.{room_above, inflow-ge}
use Rattle.augmenting_paths.proofs.Shipped.{length-pushed}
use Rattle.wave_problem.specs.Wave.{Wave, IsAdmissible, IsUsable, split_at, worker_at, cost, reward}
use Rattle.wave_problem.specs.Assignment.{IsAssignment, load, times_started, total, pairs_of}
use Rattle.wave_problem.proofs.Bound.{pending_known}
use Rattle.network_prices.specs.Ways.{IsInner, IsWay}
use Rattle.network_prices.specs.Networks.{WaveNodes, way_of, IsArcFrom, IsWaveNetwork}
use Rattle.network_prices.specs.Prices.{IsShipped, CostsAsMuch, AssignmentIsFlow, CheapestCostsAsPlan}
use Rattle.network_prices.proofs.Pending.{one_each, balanced}
use Rattle.network_prices.proofs.Sums.{outflow-ge, outflow-ge_two, outroom-ge, outroom-ge_two}
use Rattle.network_prices.proofs.Waiting.{own_on, unit_off, unit_on, WaitsAt, all_wait}
use Rattle.network_prices.proofs.Routes.{shift_one, CameOn, came_more, came_after, IsDescent, IsTakenBy}
use Rattle.network_prices.proofs.Routes.{AreRoutes}
use Rattle.network_prices.specs.Prices.{IsReadOff}
use Rattle.price_certificate.specs.PriceList.{PriceList}
use Rattle.price_certificate.specs.Certificate.{claim, Certifies}
use Rattle.network_prices.proofs.Certified.{flow_is_assignment, prices_certify}

-- there is one way up from a node
one_way : (arcs : List FlowArc) (sources sink v : ℕ) (xs ys : List ℕ) → IsWay arcs sources sink (v ∷ xs)
    → IsWay arcs sources sink (v ∷ ys) → length xs ≡ length ys
one_way arcs sources sink v [] [] a b = refl
one_way arcs sources sink v [] (y ∷ ys) a b = grind arith
one_way arcs sources sink v (x ∷ xs) [] a b = grind arith
one_way arcs sources sink v (x ∷ xs) (y ∷ ys) a b =
    let fed = b.1 in
    elim (a.1.entered fed.feed fed.listed fed.to_is) [
      | inl low ↦ (let from = fed.from_is in let inner = fed.inner in absurd (omega arith))
      | inr on ↦ (let same : y ≡ x = sym fed.from_is ∙ on.0 in
          ap suc (one_way arcs sources sink x xs ys a.2
          (subst (λ (z : ℕ). IsWay arcs sources sink (z ∷ ys)) same b.2)))
    ]

-- each node of a way lies between the sources and the sink
way_inner : (arcs : List FlowArc) (sources sink v x : ℕ) (way : List ℕ) → IsWay arcs sources sink (v ∷ way)
    → Contains (v ∷ way) x → IsInner sources sink x
way_inner arcs sources sink v x [] is i = subst (IsInner sources sink) (Contains-one v x i) is.0
way_inner arcs sources sink v x (u ∷ way) is i = elim (Contains-cons v (u ∷ way) x i) [
  | inl e ↦ subst (IsInner sources sink) e is.0
  | inr on ↦ way_inner arcs sources sink u x way is.2 on
]

is_reverse : ArcNo → Bool
is_reverse (Forward k) = false
is_reverse (Reverse k) = true

reverse_apart : (i j : ℕ) → Reverse i ≡ Forward j → ⊥
unfolding is_reverse
reverse_apart i j e = false≢true (sym (ap is_reverse e))

-- the flow that these starts make: but for what waits it has their units alone
pub record Carries (wave : Wave) (nodes : WaveNodes) (arcs : List FlowArc)
    (network : IsWaveNetwork wave nodes arcs)
    (pairs : List (ℕ × ℕ)) (flows : List ℕ) : Type 0 where
  pub shipped : IsShipped wave nodes arcs flows
  pub waits : (s : ℕ) → (split_at wave s).pending ≡ true → times_started pairs s ≡ 0
      → WaitsAt wave nodes arcs flows s
  pub loads : (w : ℕ) → IsUsable wave.workers w → outflow arcs flows (nodes.worker w) ≡ load pairs w
  pub rests : outflow arcs flows nodes.unstarted ≡ get_or flows network.rest.0 0
  pub costs : CostsAsMuch wave arcs flows pairs
  pub units : ℕ → ℕ
  pub routes : AreRoutes wave nodes arcs pairs units
  pub only : (k : ℕ) → ((arc_at arcs k).from ≡ nodes.unstarted → ⊥)
      → ((arc_at arcs k).to ≡ nodes.unstarted → ⊥) → get_or flows k 0 ≡ units k

module _ (wave : Wave) (nodes : WaveNodes) (arcs : List FlowArc)
    (network : IsWaveNetwork wave nodes arcs) where
  abbrev splits : ℕ
  splits = length wave.splits

  -- an arc from a usable worker's node leads to the sink, if it has any room
  leads_on : (w k : ℕ) → IsUsable wave.workers w → k < length arcs → (arc_at arcs k).from ≡ nodes.worker w
      → 0 < (arc_at arcs k).capacity → (arc_at arcs k).to ≡ nodes.sink
  leads_on w k u l from some =
      let slot = network.slot w u in let is = slot.1 in
      elim (cases_eq k slot.0) [
        | inl e ↦ ap (λ (j : ℕ). (arc_at arcs j).to) e ∙ is.to_is
        | inr n ↦ (let two = outroom-ge_two arcs (nodes.worker w) k slot.0 l is.listed from is.from_is n in
            let all = network.slots w u in let own = is.capacity_is in absurd (omega arith))
      ]

  module _ (pairs : List (ℕ × ℕ)) (flows : List ℕ) (state : Carries wave nodes arcs network pairs flows)
      (s w : ℕ)
      (may : IsAdmissible wave s w) (fresh : times_started pairs s ≡ 0)
      (room : load pairs w < (worker_at wave w).free) where
    abbrev u : IsUsable wave.workers w
    u = (may.live, may.has_slot)

    even : (v : ℕ) → IsInner splits nodes.sink v → inflow arcs flows v ≡ outflow arcs flows v
    even = balanced wave nodes arcs flows network.past_splits network.no_entry state.shipped

    inner : (x : ℕ) → Contains (way_of nodes w) x → IsInner splits nodes.sink x
    inner x on = way_inner arcs splits nodes.sink (nodes.worker w) x (nodes.above w) (network.ways w u) on

    known : s < splits
    known = pending_known wave s may.pending

    -- an arc of a path down: it leaves a node of the way that has so many nodes above it
    abbrev Low : ℕ → ArcNo → Type 0
    Low n a = (ys : List ℕ) × IsWay arcs splits nodes.sink (tail_of arcs a ∷ ys) × (n ≤ length ys)
        × Contains (way_of nodes w) (tail_of arcs a)

    abbrev AllLow : ℕ → List ArcNo → Type 0
    AllLow n [] = Unit {0}
    AllLow n (a ∷ path) = Low n a × AllLow n path

    lower : (n m : ℕ) (path : List ArcNo) → m ≤ n → AllLow n path → AllLow m path
    lower n m [] l all = tt
    lower n m (a ∷ path) l all =
        let first = all.0 in let deep = first.2 in
        ((first.0, first.1, omega arith, first.3), lower n m path l all.1)

    lacks_off : (b : ArcNo) (n : ℕ) (path : List ArcNo) → (Contains (way_of nodes w) (tail_of arcs b) → ⊥) →
        AllLow n path → Lacks b path
    lacks_off b n [] off all = tt
    lacks_off b n (a ∷ path) off all = (
      (λ e. off (subst (λ (z : ArcNo). Contains (way_of nodes w) (tail_of arcs z)) (sym e) all.0.3)),
      lacks_off b n path off all.1,
    )

    lacks_above : (b : ArcNo) (n : ℕ) (ys : List ℕ) (path : List ArcNo) →
        IsWay arcs splits nodes.sink (tail_of arcs b ∷ ys)
        → length ys < n → AllLow n path → Lacks b path
    lacks_above b n ys [] is l all = tt
    lacks_above b n ys (a ∷ path) is l all = (
      (λ e. (let first = all.0 in
          let same = one_way arcs splits nodes.sink (tail_of arcs a) ys first.0
          (subst (λ (z : ArcNo). IsWay arcs splits nodes.sink (tail_of arcs z ∷ ys)) e is) first.1 in
          let deep = first.2 in absurd (omega arith))),
      lacks_above b n ys path is l all.1,
    )

    -- what a unit down a path changes: one more leaves the worker's node
    abbrev Adds : List ArcNo → Type 0
    Adds path = (f : List ℕ) → length f ≡ length arcs →
        ((v : ℕ) → (Contains (nodes.above w) v → ⊥)
        → outflow arcs (pushed path f) v ≡ outflow arcs f v + unit_at (nodes.worker w) v)
        × ((k : ℕ) → (Contains (way_of nodes w) (arc_at arcs k).from → ⊥) →
        get_or (pushed path f) k 0 ≡ get_or f k 0)
        × (flow_cost arcs (pushed path f) ≡ flow_cost arcs f)

    -- a path down the way and to the sink, with room, from a node with so many above it
    abbrev Leads : ℕ → ℕ → List ArcNo → Type 0
    Leads v n path = IsPath arcs flows path v nodes.sink × IsDistinct path × AllLow n path
        × ((i : ℕ) × (i < length arcs) × ((arc_at arcs i).from ≡ v)
        × (get_or flows i 0 < (arc_at arcs i).capacity))
        × Adds path × ((gains : ℕ → ℕ) × IsDescent nodes arcs w v path gains)

    base : Leads (nodes.worker w) (length (nodes.above w)) (Forward (network.slot w u).0 ∷ [])
    base =
        let slot = network.slot w u in let is = slot.1 in
        let out = outflow-ge arcs flows (nodes.worker w) slot.0 state.shipped.sizes is.listed is.from_is in
        let all = state.loads w u in
        let own = is.capacity_is in
        let some : get_or flows slot.0 0 < (arc_at arcs slot.0).capacity = omega arith in (
          (record { listed = is.listed; room = omega arith }, is.from_is, is.to_is),
          (tt, tt),
          (
            (
              nodes.above w,
              subst (λ (z : ℕ). IsWay arcs splits nodes.sink (z ∷ nodes.above w)) (sym is.from_is)
                  (network.ways w u),
              omega arith,
              own_on nodes w is.from_is,
            ),
            tt,
          ),
          (slot.0, is.listed, is.from_is, some),
          λ f size. (
            (λ v off. outflow_forward arcs f slot.0 v size is.listed
                ∙ ap (λ (z : ℕ). outflow arcs f v + unit_at z v) is.from_is),
            (λ k off. kept_shift f (Forward slot.0) k
                (λ e. off (own_on nodes w (ap (λ (j : ℕ). (arc_at arcs j).from) (sym e) ∙ is.from_is)))),
            (let more = flow_cost_forward arcs f slot.0 size is.listed in
                let free = is.cost_is in omega arith),
          ),
          (
            unit_at slot.0,
            record {
              each = λ f k size. shift_one f slot.0 k (omega arith);
              listed = λ k some. elim (cases_eq slot.0 k) [
                | inl e ↦ (let l = is.listed in omega arith)
                | inr n ↦ absurd (let none = unit_off slot.0 k n in omega arith)
              ];
              takes = λ k some. elim (cases_eq slot.0 k) [
                | inl e ↦ inl (sym (ap (λ (j : ℕ). (arc_at arcs j).from) e) ∙ is.from_is)
                | inr n ↦ absurd (let none = unit_off slot.0 k n in omega arith)
              ];
              came = ([], refl);
            },
          ),
        )

    -- the unit takes the feeding arc first
    fed_descent : (v x : ℕ) (rest : List ℕ) (path : List ArcNo)
        (way : IsWay arcs splits nodes.sink (v ∷ (x ∷ rest))) → Contains (way_of nodes w) v
        → ((gains : ℕ → ℕ) × IsDescent nodes arcs w v path gains)
        → (gains : ℕ → ℕ) × IsDescent nodes arcs w x (Forward way.1.feed ∷ path) gains
    fed_descent v x rest path way here below =
        let fed = way.1 in
        let k : ℕ = fed.feed in
        let old : ℕ → ℕ = below.0 in
        let gains : ℕ → ℕ = λ j. unit_at k j + old j in
        let first = unit_on k k refl in
        let up : (p : List ℕ) (z : ℕ) → CameOn arcs old p v z → (q : List ℕ) × CameOn arcs gains q x z =
        λ p z came.
        (let more = came_more arcs old gains (λ j some. omega arith) p v z came in
        let after = came_after arcs gains k fed.listed (omega arith) p z
        (subst (λ (y : ℕ). CameOn arcs gains p y z) (sym fed.to_is) more) in
        (after.0, subst (λ (y : ℕ). CameOn arcs gains after.0 y z) fed.from_is after.1)) in (
          gains,
          record {
            each = λ f j size.
                (let then = below.1.each (shifted f (Forward k)) j (length-shifted f (Forward k) ∙ size) in
                let listed = fed.listed in
                let one = shift_one f k j (omega arith) in omega arith);
            listed = λ j some. elim (cases_eq k j) [
              | inl e ↦ (let l = fed.listed in omega arith)
              | inr n ↦ below.1.listed j (let none = unit_off k j n in omega arith)
            ];
            takes = λ j some. elim (cases_eq k j) [
              | inl e ↦ inr (
                subst (Contains (way_of nodes w)) (sym fed.to_is ∙ ap (λ (i : ℕ). (arc_at arcs i).to) e) here,
                sym (ap (λ (i : ℕ). (arc_at arcs i).cost) e) ∙ fed.without_cost,
                ([], sym (ap (λ (i : ℕ). (arc_at arcs i).from) e) ∙ fed.from_is),
              )
              | inr n ↦ elim (below.1.takes j (let none = unit_off k j n in omega arith)) [
                | inl from ↦ inl from
                | inr on ↦ inr (on.0, on.1, up on.2.0 (arc_at arcs j).from on.2.1)
              ]
            ];
            came = up below.1.came.0 (nodes.worker w) below.1.came.1;
          },
        )

    -- one arc higher
    higher : (v x : ℕ) (rest : List ℕ) (path : List ArcNo)
        (way : IsWay arcs splits nodes.sink (v ∷ (x ∷ rest)))
        → Contains (way_of nodes w) v → Contains (nodes.above w) x → Leads v (length (x ∷ rest)) path →
        Leads x (length rest) (Forward way.1.feed ∷ path)
    higher v x rest path way here on leads =
        let fed = way.1 in
        let i = leads.3 in
        let some : get_or flows fed.feed 0 < (arc_at arcs fed.feed).capacity =
        (room_above arcs flows v fed.feed state.shipped.sizes state.shipped.within (even v way.0) fed.listed
        fed.to_is fed.whole).0 i.0 i.1 i.2 i.3 in
        let up : IsWay arcs splits nodes.sink (tail_of arcs (Forward fed.feed) ∷ rest) =
        subst (λ (z : ℕ). IsWay arcs splits nodes.sink (z ∷ rest)) (sym fed.from_is) way.2 in (
          (
            record { listed = fed.listed; room = omega arith },
            fed.from_is,
            subst (λ (z : ℕ). IsPath arcs flows path z nodes.sink) (sym fed.to_is) leads.0,
          ),
          (lacks_above (Forward fed.feed) (length (x ∷ rest)) rest path up (omega arith) leads.2, leads.1),
          (
            (
              rest,
              up,
              omega arith,
              Contains-there (nodes.worker w) (nodes.above w) _
                  (subst (Contains (nodes.above w)) (sym fed.from_is) on),
            ),
            lower (length (x ∷ rest)) (length rest) path (omega arith) leads.2,
          ),
          (fed.feed, fed.listed, fed.from_is, some),
          λ f size. (
              let then = leads.4 (shifted f (Forward fed.feed)) (length-shifted f (Forward fed.feed)
              ∙ size) in (
                (λ v' off.
                    (let step = then.0 v' off in
                    let here = outflow_forward arcs f fed.feed v' size fed.listed in
                    let none = unit_off (arc_at arcs fed.feed).from v'
                    (λ e. off (subst (λ (z : ℕ). Contains (nodes.above w) z) (sym fed.from_is ∙ e) on)) in
                    omega arith)),
                (λ k off. then.1 k off ∙ kept_shift f (Forward fed.feed) k
                    (λ e. off (Contains-there (nodes.worker w) (nodes.above w) _
                    (subst (Contains (nodes.above w)) (sym fed.from_is
                    ∙ ap (λ (j : ℕ). (arc_at arcs j).from) e) on)))),
                (let step = then.2 in let here = flow_cost_forward arcs f fed.feed size fed.listed in
                    let free = fed.without_cost in omega arith),
              )),
          fed_descent v x rest path way here leads.5,
        )

    -- from any node of the way
    descend : (rest : List ℕ) (v x : ℕ) (path : List ArcNo) → IsWay arcs splits nodes.sink (v ∷ rest) →
        ((y : ℕ) → Contains rest y → Contains (nodes.above w) y) → Contains (way_of nodes w) v
        → Leads v (length rest) path → Contains (v ∷ rest) x → (n : ℕ) × (down : List ArcNo) × Leads x n down
    descend [] v x path way on here leads i =
        (0, path, subst (λ (z : ℕ). Leads z 0 path) (Contains-one v x i) leads)
    descend (y ∷ rest) v x path way on here leads i = elim (Contains-cons v (y ∷ rest) x i) [
      | inl e ↦ (length (y ∷ rest), path, subst (λ (z : ℕ). Leads z (length (y ∷ rest)) path) e leads)
      | inr there ↦ descend rest y x (Forward way.1.feed ∷ path) way.2
          (λ z k. on z (Contains-there y rest z k))
          (Contains-there (nodes.worker w) (nodes.above w) y (on y (Contains-here rest y)))
          (higher v y rest path way here (on y (Contains-here rest y)) leads) there
    ]

    -- the start's arc, and those that the waiting unit gives back
    abbrev offer : ℕ
    offer = (network.complete s w may).0

    abbrev wait : ℕ
    wait = (state.waits s may.pending fresh).0

    wait_is : IsArcFrom arcs wait s nodes.unstarted 1 (reward wave)
    wait_is = (state.waits s may.pending fresh).1

    abbrev rest : ℕ
    rest = network.rest.0

    off_way : (x : ℕ) → x < splits → Contains (way_of nodes w) x → ⊥
    off_way x l on = let low = (inner x on).no_source in omega arith

    waits_apart : offer ≡ wait → ⊥
    waits_apart e =
        network.apart w u (subst (λ (z : ℕ). Contains (way_of nodes w) z)
        (ap (λ (k : ℕ). (arc_at arcs k).to) e ∙ wait_is.to_is)
        (network.complete s w may).1.on_way)

    from_offer : (arc_at arcs offer).from ≡ s
    from_offer = (network.complete s w may).1.from_is

    from_wait : (arc_at arcs wait).from ≡ s
    from_wait = wait_is.from_is

    from_rest : (arc_at arcs rest).from ≡ nodes.unstarted
    from_rest = network.rest.2.from_is

    waiting : 0 < get_or flows wait 0
    waiting = (state.waits s may.pending fresh).2

    resting : 0 < get_or flows rest 0
    resting =
        let is = wait_is in
        let some = waiting in
        let brings = inflow-ge arcs flows nodes.unstarted wait state.shipped.sizes is.listed is.to_is in
        let same = even nodes.unstarted network.rest_inner in
        let all = state.rests in
        omega arith

    offer_free : get_or flows offer 0 ≡ 0
    offer_free =
        let is = (network.complete s w may).1 in
        let some = waiting in
        let one = one_each wave nodes arcs flows network.past_splits network.no_entry
        state.shipped s may.pending
        in
        let two = outflow-ge_two arcs flows s offer wait state.shipped.sizes is.listed
        wait_is.listed from_offer from_wait waits_apart in
        omega arith

    down : (n : ℕ) × (path : List ArcNo) × Leads (arc_at arcs offer).to n path
    down =
        descend (nodes.above w) (nodes.worker w) (arc_at arcs offer).to (Forward (network.slot w u).0 ∷ [])
        (network.ways w u) (λ y i. i) (Contains-here (nodes.above w) (nodes.worker w)) base
        (network.complete s w may).1.on_way

    abbrev path : List ArcNo
    path = Reverse rest ∷ (Reverse wait ∷ (Forward offer ∷ down.1))

    apart_rest_wait : rest ≡ wait → ⊥
    apart_rest_wait e =
        let same = ap (λ (k : ℕ). (arc_at arcs k).from) e in
        let a = from_rest in let b = from_wait in let l = known in let low = network.rest_inner.no_source in
        omega arith

    apart_rest_offer : rest ≡ offer → ⊥
    apart_rest_offer e =
        let same = ap (λ (k : ℕ). (arc_at arcs k).from) e in
        let a = from_rest in let b = from_offer in let l = known in let low = network.rest_inner.no_source in
        omega arith

    leads : IsPath arcs flows path nodes.sink nodes.sink
    leads =
        let is = wait_is in
        let to = (network.complete s w may).1 in
        let free = offer_free in let one = to.one in (
          record { listed = network.rest.2.listed; room = resting },
          network.rest.2.to_is,
          (
            record { listed = is.listed; room = waiting },
            is.to_is ∙ sym from_rest,
            (record { listed = to.listed; room = omega arith }, from_offer ∙ sym from_wait, down.2.0),
          ),
        )

    distinct : IsDistinct path
    distinct = (
      (
        (λ e. apart_rest_wait (ap arc_index e)),
        (
          reverse_apart rest offer,
          lacks_off (Reverse rest) down.0 down.1
              (λ on. (inner (tail_of arcs (Reverse rest)) on).no_sink network.rest.2.to_is) down.2.2,
        ),
      ),
      (
        (
          reverse_apart wait offer,
          lacks_off (Reverse wait) down.0 down.1
              (λ on. network.apart w u (subst (λ (z : ℕ). Contains (way_of nodes w) z)
              wait_is.to_is on)) down.2.2,
        ),
        (
          lacks_off (Forward offer) down.0 down.1
              (λ on. off_way s known (subst (λ (z : ℕ). Contains (way_of nodes w) z) from_offer on)) down.2.2,
          down.2.1,
        ),
      ),
    )

    abbrev without_rest : List ℕ
    without_rest = shifted flows (Reverse rest)

    abbrev without_wait : List ℕ
    without_wait = shifted without_rest (Reverse wait)

    abbrev with_offer : List ℕ
    with_offer = shifted without_wait (Forward offer)

    abbrev after : List ℕ
    after = pushed path flows

    size_1 : length without_rest ≡ length arcs
    size_1 = length-shifted flows (Reverse rest) ∙ state.shipped.sizes

    size_2 : length without_wait ≡ length arcs
    size_2 = length-shifted without_rest (Reverse wait) ∙ size_1

    size_3 : length with_offer ≡ length arcs
    size_3 = length-shifted without_wait (Forward offer) ∙ size_2

    still_waiting : 0 < get_or without_rest wait 0
    still_waiting = let same = kept_shift flows (Reverse rest) wait apart_rest_wait in let some = waiting in
        omega arith

    -- an arc off the way that is none of the three carries what it did
    same_flow : (k : ℕ) → (Contains (way_of nodes w) (arc_at arcs k).from → ⊥) → (rest ≡ k → ⊥)
        → (wait ≡ k → ⊥)
        → (offer ≡ k → ⊥) → get_or after k 0 ≡ get_or flows k 0
    same_flow k off a b c =
        (down.2.4 with_offer size_3).1 k off ∙ kept_shift without_wait (Forward offer) k c
        ∙ kept_shift without_rest (Reverse wait) k b ∙ kept_shift flows (Reverse rest) k a

    out_after : (v : ℕ) → (Contains (nodes.above w) v → ⊥) → splits ≤ v
        → outflow arcs after v + unit_at nodes.unstarted v ≡ outflow arcs flows v + unit_at (nodes.worker w) v
    out_after v off low =
        let l = known in
        let a = outflow_back arcs flows rest v state.shipped.sizes network.rest.2.listed resting in
        let a' = ap (λ (z : ℕ). unit_at z v) from_rest in
        let b = outflow_back arcs without_rest wait v size_1 wait_is.listed still_waiting
        in
        let b' = ap (λ (z : ℕ). unit_at z v) from_wait in
        let c = outflow_forward arcs without_wait offer v size_2 (network.complete s w may).1.listed in
        let c' = ap (λ (z : ℕ). unit_at z v) from_offer in
        let d = (down.2.4 with_offer size_3).0 v off in
        omega arith

    times_more : (x : ℕ) → times_started ((s, w) ∷ pairs) x ≡ unit_at s x + times_started pairs x
    times_more x = sum_by-cons (λ (pair : ℕ × ℕ). cond (pair.0 == x) 1 0) (s, w) pairs

    load_more : (x : ℕ) → load ((s, w) ∷ pairs) x ≡ unit_at w x + load pairs x
    load_more x = sum_by-cons (λ (pair : ℕ × ℕ). cond (pair.1 == x) 1 0) (s, w) pairs

    not_above : (x : ℕ) → IsUsable wave.workers x → Contains (nodes.above w) (nodes.worker x) → ⊥
    not_above x usable on = climb (nodes.above w) (nodes.worker w) (network.ways w u)
        (let slot = network.slot w u in let is = slot.1 in let own = is.capacity_is in let some = u.1 in
        (let more = network.slots w u in omega arith)) on
      where
        climb : (rest : List ℕ) (v : ℕ) → IsWay arcs splits nodes.sink (v ∷ rest) → 0 < outroom arcs v →
            Contains rest (nodes.worker x) → ⊥
        climb [] v way some on = Contains-nil (nodes.worker x) on
        climb (y ∷ rest) v way some on =
            let fed = way.1 in let whole = fed.whole in
            elim (Contains-cons y rest (nodes.worker x) on) [
              | inl e ↦ (let to = leads_on x fed.feed usable fed.listed (fed.from_is ∙ e) (omega arith) in
                  way.0.no_sink (sym fed.to_is ∙ to))
              | inr higher_on ↦ climb rest y way.2
                  (let ge = outroom-ge arcs y fed.feed fed.listed fed.from_is in omega arith) higher_on
            ]

    own_unit_at : (x : ℕ) → unit_at (nodes.worker w) (nodes.worker x) ≡ unit_at w x
    own_unit_at x = elim (cases_eq w x) [
      | inl e ↦ unit_on (nodes.worker w) (nodes.worker x) (ap nodes.worker e) ∙ sym (unit_on w x e)
      | inr n ↦ unit_off (nodes.worker w) (nodes.worker x) (λ e. n (network.own w x e)) ∙ sym (unit_off w x n)
    ]

    -- the units of the other starts, with the unit of this start
    abbrev gains : ℕ → ℕ
    gains = down.2.5.0

    abbrev units : ℕ → ℕ
    units = λ k. state.units k + (unit_at offer k + gains k)

    first_unit : 0 < units offer
    first_unit = let one = unit_on offer offer refl in omega arith

    -- the unit of the start takes the offer first
    came_by_offer : (p : List ℕ) (z : ℕ) → CameOn arcs gains p (arc_at arcs offer).to z
        → (q : List ℕ) × CameOn arcs units q s z
    came_by_offer p z came =
        let more = came_more arcs gains units (λ k some. omega arith) p (arc_at arcs offer).to z came in
        let after = came_after arcs units offer (network.complete s w may).1.listed first_unit p z more in
        (after.0, subst (λ (y : ℕ). CameOn arcs units after.0 y z) from_offer after.1)

    came_still : (p : List ℕ) (x z : ℕ) → CameOn arcs state.units p x z → CameOn arcs units p x z
    came_still p x z = came_more arcs state.units units (λ k some. omega arith) p x z

    taken_by_start : (k : ℕ) → 0 < unit_at offer k + gains k → IsTakenBy wave nodes arcs units k s w
    taken_by_start k some = elim (cases_eq offer k) [
      | inl e ↦ inr (
        subst (Contains (way_of nodes w)) (ap (λ (j : ℕ). (arc_at arcs j).to) e)
            (network.complete s w may).1.on_way,
        subst (λ (c : ℕ). c ≤ unwrap_or (cost wave s w) 0) (ap (λ (j : ℕ). (arc_at arcs j).cost) e)
            (network.complete s w may).1.at_most,
        ([], sym (ap (λ (j : ℕ). (arc_at arcs j).from) e) ∙ from_offer),
      )
      | inr n ↦ elim (down.2.5.1.takes k (let none = unit_off offer k n in omega arith)) [
        | inl from ↦ inl from
        | inr on ↦ (let free = on.1 in
            inr (on.0, omega arith, came_by_offer on.2.0 (arc_at arcs k).from on.2.1))
      ]
    ]

    taken_still : (k x v : ℕ) → IsTakenBy wave nodes arcs state.units k x v
        → IsTakenBy wave nodes arcs units k x v
    taken_still k x v (inl from) = inl from
    taken_still k x v (inr on) = inr (on.0, on.1, (on.2.0, came_still on.2.0 x (arc_at arcs k).from on.2.1))

    routes : AreRoutes wave nodes arcs ((s, w) ∷ pairs) units
    routes = record {
      came = λ x v on. elim (Contains-cons (s, w) pairs (x, v) on) [
        | inl e ↦ subst (λ (pair : ℕ × ℕ). (path : List ℕ) × CameOn arcs units path pair.0
            (nodes.worker pair.1)) e (came_by_offer down.2.5.1.came.0 (nodes.worker w) down.2.5.1.came.1)
        | inr old ↦ (let was = state.routes.came x v old in
            (was.0, came_still was.0 x (nodes.worker v) was.1))
      ];
      listed = λ k some. elim (cases_eq offer k) [
        | inl e ↦ (let l = (network.complete s w may).1.listed in omega arith)
        | inr n ↦ elim (cases_lt 0 (state.units k)) [
          | inl old ↦ state.routes.listed k old
          | inr none ↦ down.2.5.1.listed k (let off = unit_off offer k n in omega arith)
        ]
      ];
      taken = λ k some. elim (cases_lt 0 (state.units k)) [
        | inl old ↦ (let was = state.routes.taken k old in
            (was.0, was.1, Contains-there (s, w) pairs (was.0, was.1) was.2, taken_still k was.0 was.1 was.3))
        | inr none ↦ (s, w, Contains-here pairs (s, w), taken_by_start k (omega arith))
      ];
    }

    carried : Carries wave nodes arcs network ((s, w) ∷ pairs) after
    carried = record {
      units = units;
      routes = routes;
      only = λ k from to.
          (let was = state.only k from to in
          let then = down.2.5.1.each with_offer k size_3 in
          let listed = (network.complete s w may).1.listed in let size = size_2 in
          let one = shift_one without_wait offer k (omega arith) in
          let unwaited = kept_shift without_rest (Reverse wait) k
          (λ e. to (sym (ap (λ (j : ℕ). (arc_at arcs j).to) e) ∙ wait_is.to_is)) in
          let unrested = kept_shift flows (Reverse rest) k
          (λ e. from (sym (ap (λ (j : ℕ). (arc_at arcs j).from) e) ∙ from_rest)) in
          omega arith);
      shipped = record {
        sizes = length-pushed path flows ∙ state.shipped.sizes;
        within = pushed_within arcs flows path after
            (record {
              sizes = state.shipped.sizes;
              within = state.shipped.within;
              distinct = distinct;
              residual = residual_path arcs flows path nodes.sink nodes.sink leads;
              rest_is = refl;
            });
        balance = λ v.
            (let moved = push_balance arcs flows path nodes.sink nodes.sink v
            state.shipped.sizes distinct leads
            in
            let old = state.shipped.balance v in omega arith);
      };
      waits = λ x p none.
          (let more = times_more x in
          let apart : s ≡ x → ⊥ = λ e. (let one = unit_on s x e in absurd (omega arith)) in
          let old = state.waits x p (omega arith) in
          let k = old.0 in
          let some = old.2 in
          let from : (arc_at arcs k).from ≡ x = old.1.from_is in
          let low = pending_known wave x p in
          let same = same_flow k (λ on. off_way (arc_at arcs k).from (omega arith) on)
          (λ e. (let same = ap (λ (j : ℕ). (arc_at arcs j).from) e in let a = from_rest in
          let past = network.rest_inner.no_source in absurd (omega arith)))
          (λ e. apart (sym from_wait ∙ ap (λ (j : ℕ). (arc_at arcs j).from) e ∙ from))
          (λ e. apart (sym from_offer ∙ ap (λ (j : ℕ). (arc_at arcs j).from) e ∙ from)) in
          (k, old.1, omega arith));
      loads = λ x usable.
          (let all = out_after (nodes.worker x) (not_above x usable) (network.known x) in
          let off = unit_off nodes.unstarted (nodes.worker x)
          (λ e. network.apart x usable (own_on nodes x e)) in
          let one = own_unit_at x in
          let old = state.loads x usable in
          let more = load_more x in
          omega arith);
      rests =
          (let all = out_after nodes.unstarted
          (λ on. network.apart w u (Contains-there (nodes.worker w) (nodes.above w) nodes.unstarted on))
          network.rest_inner.no_source in
          let one = unit_on nodes.unstarted nodes.unstarted refl in
          let off = unit_off (nodes.worker w) nodes.unstarted
          (λ e. network.apart w u (own_on nodes w (sym e))) in
          let same : get_or after rest 0 ≡ get_or without_rest rest 0 =
          (down.2.4 with_offer size_3).1 rest
          (λ on. network.apart w u (subst (λ (z : ℕ). Contains (way_of nodes w) z) from_rest on))
          ∙ kept_shift without_wait (Forward offer) rest (λ e. apart_rest_offer (sym e))
          ∙ kept_shift without_rest (Reverse wait) rest (λ e. apart_rest_wait (sym e)) in
          let listed = network.rest.2.listed in let size = state.shipped.sizes in
          let less = get_or-set_same flows rest (get_or flows rest 0 - 1) 0 (omega arith) in
          let some = resting in
          let old = state.rests in
          omega arith);
      costs =
          (let a = flow_cost_back arcs flows rest state.shipped.sizes network.rest.2.listed resting in
          let a' = network.rest.2.cost_is in
          let b = flow_cost_back arcs without_rest wait size_1 wait_is.listed
          still_waiting in
          let b' = wait_is.cost_is in
          let c = flow_cost_forward arcs without_wait offer size_2 (network.complete s w may).1.listed in
          let most = (network.complete s w may).1.at_most in
          let least = (network.sound s w offer known u (network.complete s w may).1.listed from_offer
          (network.complete s w may).1.on_way).1 in
          let d = (down.2.4 with_offer size_3).2 in
          let sum = sum_by-cons (λ (pair : ℕ × ℕ). unwrap_or (cost wave pair.0 pair.1) 0) (s, w) pairs in
          let start = mul-suc (reward wave) (length pairs) in
          let old = state.costs in
          omega arith);
    }

  -- without a start, and with one more after the other
  pub all_carried : (pairs : List (ℕ × ℕ)) → IsAssignment wave pairs →
      (flows : List ℕ) × Carries wave nodes arcs network pairs flows
  all_carried [] is =
      let first = all_wait wave nodes arcs network splits (omega arith) in
      let state = first.1 in (
        first.0,
        record {
          shipped = state.shipment;
          waits = λ s p none. state.waits s p (pending_known wave s p);
          loads = state.loads;
          rests = state.rests;
          costs = (let spent = state.costs in let none : total wave [] ≡ 0 = refl in omega arith);
          units = λ k. 0;
          routes = record {
            came = λ s w on. absurd (Contains-nil (s, w) on);
            listed = λ k some. absurd (omega arith);
            taken = λ k some. absurd (omega arith);
          };
          only = state.only;
        },
      )
  all_carried ((s, w) ∷ pairs) is =
      let fewer : IsAssignment wave pairs = record {
        admissible = All-tail (λ pair. IsAdmissible wave pair.0 pair.1) (s, w) pairs is.admissible;
        once = λ x. (let all = is.once x in
            let sum = sum_by-cons (λ (pair : ℕ × ℕ). cond (pair.0 == x) 1 0) (s, w) pairs in omega arith);
        within_free = λ x. (let all = is.within_free x in
            let sum = sum_by-cons (λ (pair : ℕ × ℕ). cond (pair.1 == x) 1 0) (s, w) pairs in omega arith);
      } in
      let may : IsAdmissible wave s w =
      All-head (λ pair. IsAdmissible wave pair.0 pair.1) (s, w) pairs is.admissible in
      let before = all_carried pairs fewer in
      let fresh : times_started pairs s ≡ 0 =
      (let all = is.once s in let one = unit_on s s refl in
      let sum = sum_by-cons (λ (pair : ℕ × ℕ). cond (pair.0 == s) 1 0) (s, w) pairs in omega arith) in
      let room : load pairs w < (worker_at wave w).free =
      (let all = is.within_free w in let one = unit_on w w refl in
      let sum = sum_by-cons (λ (pair : ℕ × ℕ). cond (pair.1 == w) 1 0) (s, w) pairs in omega arith) in (
        after pairs before.0 before.1 s w may fresh room,
        carried pairs before.0 before.1 s w may fresh room,
      )

pub assignment_is_flow : AssignmentIsFlow
assignment_is_flow wave nodes arcs pairs network is =
    let all = all_carried wave nodes arcs network pairs is in (all.0, all.1.shipped, all.1.costs)

pub cheapest_costs : CheapestCostsAsPlan
cheapest_costs wave nodes arcs flows starts network cheapest plan =
    let back = flow_is_assignment wave nodes arcs flows starts network cheapest.shipment plan in
    let flow = assignment_is_flow wave nodes arcs (pairs_of starts) network back.0 in
    let least = cheapest.least flow.0 flow.1 in
    let same = flow.2 in
    let less = back.1 in
    omega arith

-- what is read off certifies
pub certified : (wave : Wave) (nodes : WaveNodes) (network : List FlowArc → Type 0) (starts : List (Option ℕ))
    (prices : PriceList) → ((arcs : List FlowArc) → network arcs → IsWaveNetwork wave nodes arcs)
    → IsReadOff wave nodes network starts prices → Certifies (claim wave starts prices)
certified wave nodes network starts prices is read = search (arith, prices_certify)
