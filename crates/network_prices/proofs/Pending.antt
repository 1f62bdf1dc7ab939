-- The pending splits, each of which sends one unit to the sink.
use Rattle.std.proofs.Common.{◌≡◌, ℕ, zero, suc, ◌+◌, ◌*◌, ◌<◌, ◌≤◌, Bool, true, false, cond, List, [], ◌∷◌}
use Rattle.std.proofs.Common.{◌++◌, length, get_or, refl, sym, ap, subst, inl, inr, arith}
use Rattle.std.proofs.lemmas.Bool.{cases_Bool, cases_lt, cases_eq, eq-eqb, ne_eqb}
use Rattle.std.proofs.lemmas.List.{get_or_append_left, get_or_push, length-append}
use Rattle.flow_network.specs.declared.arcs.FlowArc.{FlowArc}
use Rattle.flow_network.specs.Flows.{arc_at, inflow, outflow, unit_at}
use Rattle.augmenting_paths.specs.Shipping.{standing}
use Rattle.augmenting_paths.proofs.Shipped.{standing-push}
use Rattle.wave_problem.specs.Wave.{Wave, split_at}
use Rattle.wave_problem.proofs.Bound.{pending_known}
use Rattle.network_prices.specs.Pending.{pending_below, pending_splits}
use Rattle.network_prices.specs.Ways.{IsInner}
use Rattle.network_prices.specs.Networks.{WaveNodes}
use Rattle.network_prices.specs.Prices.{IsShipped}
use Rattle.flow_network.proofs.HandOn.{inflow_none}
use Rattle.network_prices.proofs.Sums.{given, given_none, given_more, inflow-given_two}

-- how often a node is among the pending splits
pub pending-more : (wave : Wave) (n : ℕ) → (split_at wave n).pending ≡ true →
    pending_below wave (suc n) ≡ pending_below wave n ++ n ∷ []
pending-more wave n h = ap (λ (b : Bool). cond b (pending_below wave n ++ n ∷ []) (pending_below wave n)) h

pub pending-same : (wave : Wave) (n : ℕ) → (split_at wave n).pending ≡ false →
    pending_below wave (suc n) ≡ pending_below wave n
pending-same wave n h = ap (λ (b : Bool). cond b (pending_below wave n ++ n ∷ []) (pending_below wave n)) h

times_more : (wave : Wave) (n v : ℕ) → standing (pending_below wave (suc n)) v
    ≡ standing (pending_below wave n) v + cond (split_at wave n).pending (unit_at n v) 0
times_more wave n v = elim (cases_Bool (split_at wave n).pending) [
  | inl t ↦ rw t (standing-push v (pending_below wave n) n)
  | inr f ↦ rw f (omega arith)
]

pub times_past : (wave : Wave) (n v : ℕ) → n ≤ v → standing (pending_below wave n) v ≡ 0
times_past wave zero v l = refl
times_past wave (suc n) v l =
    grind (arith, times_past wave n v (omega arith), times_more wave n v, cases_Bool, ne_eqb)

pub times_pending : (wave : Wave) (n v : ℕ) → v < n → (split_at wave v).pending ≡ true →
    standing (pending_below wave n) v ≡ 1
times_pending wave zero v l p = absurd (omega arith)
times_pending wave (suc n) v l p = elim (cases_eq n v) [
  | inl e ↦ grind (arith, eq-eqb, times_past, times_more wave n v)
  | inr q ↦ grind (arith, times_pending wave n v (omega arith) p, times_more wave n v, cases_Bool, ne_eqb)
]

times_other : (wave : Wave) (n v : ℕ) → (split_at wave v).pending ≡ false →
    standing (pending_below wave n) v ≡ 0
times_other wave zero v f = refl
times_other wave (suc n) v f =
    grind (arith, times_other wave n v f, times_more wave n v, cases_eq, cases_Bool, ne_eqb)

-- each source is a pending split, and they rise
pub source_in : (wave : Wave) (n k : ℕ) → k < length (pending_below wave n) →
    (get_or (pending_below wave n) k 0 < n) × ((split_at wave (get_or (pending_below wave n) k 0)).pending
    ≡ true)
source_in wave zero k l = absurd (omega arith)
source_in wave (suc n) k l = elim (cases_Bool (split_at wave n).pending) [
  | inr f ↦ (let same = pending-same wave n f in
      let before = source_in wave n k (subst (λ (z : List ℕ). k < length z) same l) in let less = before.0 in
      subst (λ (z : List ℕ). (get_or z k 0 < suc n) × ((split_at wave (get_or z k 0)).pending ≡ true))
      (sym same) (omega arith, before.1))
  | inl t ↦ (let more = pending-more wave n t in
      let listed : k < length (pending_below wave n ++ n ∷ []) = subst (λ (z : List ℕ). k < length z) more l
      in
      let size = length-append (pending_below wave n) (n ∷ []) in
      subst (λ (z : List ℕ). (get_or z k 0 < suc n) × ((split_at wave (get_or z k 0)).pending ≡ true))
      (sym more)
      (elim (cases_lt k (length (pending_below wave n))) [
        | inl m ↦ grind (arith, source_in wave n k m, get_or_append_left)
        | inr m ↦ subst (λ (v : ℕ). (v < suc n) × ((split_at wave v).pending ≡ true))
            (sym (get_or_push (pending_below wave n) n 0 k (omega arith))) (omega arith, t)
      ]))
]

pub sources_rise : (wave : Wave) (n j k : ℕ) → j < k → k < length (pending_below wave n) →
    get_or (pending_below wave n) j 0 < get_or (pending_below wave n) k 0
sources_rise wave zero j k less l = absurd (omega arith)
sources_rise wave (suc n) j k less l = elim (cases_Bool (split_at wave n).pending) [
  | inr f ↦ (let same = pending-same wave n f in
      subst (λ (z : List ℕ). get_or z j 0 < get_or z k 0) (sym same)
      (sources_rise wave n j k less (subst (λ (z : List ℕ). k < length z) same l)))
  | inl t ↦ (let more = pending-more wave n t in
      let listed : k < length (pending_below wave n ++ n ∷ []) = subst (λ (z : List ℕ). k < length z) more l
      in
      let size = length-append (pending_below wave n) (n ∷ []) in
      subst (λ (z : List ℕ). get_or z j 0 < get_or z k 0) (sym more)
      (let first = get_or_append_left (pending_below wave n) (n ∷ []) 0 j (omega arith) in
      elim (cases_lt k (length (pending_below wave n))) [
        | inl m ↦ (let before = sources_rise wave n j k less m in
            let second = get_or_append_left (pending_below wave n) (n ∷ []) 0 k m in omega arith)
        | inr m ↦ (let before = source_in wave n j (omega arith) in let below = before.0 in
            let second = get_or_push (pending_below wave n) n 0 k (omega arith) in omega arith)
      ]))
]

pub pending_mono : (wave : Wave) (m n : ℕ) → m ≤ n →
    length (pending_below wave m) ≤ length (pending_below wave n)
pending_mono wave m zero l = let same = ap (λ (k : ℕ). length (pending_below wave k))
    (let e : m ≡ 0 = omega arith in e) in omega arith
pending_mono wave m (suc n) l = elim (cases_eq m (suc n)) [
  | inl e ↦ (let same = ap (λ (k : ℕ). length (pending_below wave k)) e in omega arith)
  | inr d ↦
      grind (
        arith,
        pending_mono wave m n (omega arith),
        cases_Bool,
        pending-more,
        length-append,
        pending-same,
      )
]

-- count units at one node alone
pub units_off : (count t v : ℕ) → (t ≡ v → ⊥) → count * unit_at t v ≡ 0
units_off count t v n = rw (ne_eqb t v n) (omega arith)

module _ (wave : Wave) (nodes : WaveNodes) (arcs : List FlowArc) (flows : List ℕ)
    (past : length wave.splits ≤ nodes.sink)
    (no_entry : (k : ℕ) → k < length arcs → length wave.splits ≤ (arc_at arcs k).to)
    (shipped : IsShipped wave nodes arcs flows) where
  -- one unit leaves a pending split
  pub one_each : (s : ℕ) → (split_at wave s).pending ≡ true → outflow arcs flows s ≡ 1
  one_each s p =
      let known = pending_known wave s p in
      let none = inflow_none arcs flows s (λ i l e. (let inner = no_entry i l in omega arith)) in
      let one = times_pending wave (length wave.splits) s known p in
      let off = units_off (length (pending_splits wave)) nodes.sink s (λ e. omega arith) in
      let balance = shipped.balance s in
      omega arith

  -- and none another
  pub none_each : (s : ℕ) → s < length wave.splits → (split_at wave s).pending ≡ false →
      outflow arcs flows s ≡ 0
  none_each s known f =
      let none = inflow_none arcs flows s (λ i l e. (let inner = no_entry i l in omega arith)) in
      let zero_times = times_other wave (length wave.splits) s f in
      let off = units_off (length (pending_splits wave)) nodes.sink s (λ e. omega arith) in
      let balance = shipped.balance s in
      omega arith

  given_pending : (n : ℕ) → n ≤ length wave.splits → given n arcs flows ≡ length (pending_below wave n)
  given_pending zero l = given_none arcs flows
  given_pending (suc n) l =
      let before = given_pending n (omega arith) in
      let more = given_more n arcs flows in
      elim (cases_Bool (split_at wave n).pending) [
        | inl t ↦ (let one = one_each n t in
            let listed = ap (λ (z : List ℕ). length z) (pending-more wave n t) in
            let size = length-append (pending_below wave n) (n ∷ []) in
            omega arith)
        | inr f ↦ (let none = none_each n (omega arith) f in
            let listed = ap (λ (z : List ℕ). length z) (pending-same wave n f) in
            omega arith)
      ]

  -- a unit that goes elsewhere does not come to a node that is fed by the splits alone
  pub fed_by_others : (v i : ℕ) → ((k : ℕ) → k < length arcs → (arc_at arcs k).to ≡ v →
      (arc_at arcs k).from < length wave.splits)
      → i < length arcs → (arc_at arcs i).from < length wave.splits → ((arc_at arcs i).to ≡ v → ⊥)
      → inflow arcs flows v + get_or flows i 0 ≤ length (pending_splits wave)
  fed_by_others v i fed l source off =
      let all = given_pending (length wave.splits) (omega arith) in
      let part = inflow-given_two (length wave.splits) arcs flows v i fed l source off in
      omega arith

  -- what enters a node between the splits and the sink leaves it
  pub balanced : (v : ℕ) → IsInner (length wave.splits) nodes.sink v →
      inflow arcs flows v ≡ outflow arcs flows v
  balanced v inner =
      let low = inner.no_source in
      let none = times_past wave (length wave.splits) v low in
      let off = units_off (length (pending_splits wave)) nodes.sink v (λ e. inner.no_sink (sym e)) in
      let balance = shipped.balance v in
      omega arith
