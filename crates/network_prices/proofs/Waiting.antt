-- At first the unit of each pending split waits.
use Rattle.std.proofs.Common.{◌≡◌, ℕ, zero, suc, ◌+◌, ◌*◌, ◌<◌, ◌≤◌, Bool, true, false, cond, List, [], ◌∷◌}
use Rattle.std.proofs.Common.{length, get_or, refl, sym, ap, ◌∙◌, subst, inl, inr, arith, get_or-set_same}
use Rattle.std.proofs.Common.{replicate, Contains}
use Rattle.std.proofs.lemmas.Bool.{cases_Bool, cases_eq, eq-eqb, ne_eqb, false≢true}
use Rattle.std.proofs.lemmas.List.{length-append, length-replicate}
use Rattle.std.proofs.Math.Nat.{mul-suc, add-mul}
use Rattle.flow_network.specs.declared.arcs.FlowArc.{FlowArc}
use Rattle.flow_network.specs.declared.arcs.ArcNo.{ArcNo}
use Rattle.flow_network.specs.declared.arcs.ArcNo.TheVariants.{Forward}
use Rattle.flow_network.specs.Flows.{arc_at, arc_index, IsPath, IsDistinct, shifted, outflow, unit_at}
use Rattle.flow_network.specs.Laws.{flow_cost}
use Rattle.flow_network.proofs.Balance.{length-shifted, kept_shift, outflow_forward, flow_cost_forward}
use Rattle.flow_network.proofs.Balance.{push_balance}
use Rattle.flow_network.proofs.Members.{Contains-here, replicated_at}
use Rattle.flow_network.proofs.Pushing.{residual_path, pushed_within}
use Rattle.augmenting_paths.specs.Shipping.{standing, IsShipment}
use Rattle.augmenting_paths.proofs.Shipped.{standing-push, inflow_zero, outflow_zero}
use Rattle.wave_problem.specs.Wave.{Wave, IsUsable, split_at, reward}
use Rattle.wave_problem.proofs.Bound.{pending_known}
use Rattle.network_prices.specs.Pending.{pending_below}
use Rattle.network_prices.specs.Networks.{WaveNodes, way_of, IsArcFrom, IsWaveNetwork}
use Rattle.network_prices.proofs.Pending.{pending-more, pending-same, pending_mono}
use Rattle.network_prices.proofs.Costs.{flow_cost_zero}

pub own_on : (nodes : WaveNodes) (w : ℕ) {x : ℕ} → x ≡ nodes.worker w → Contains (way_of nodes w) x
own_on nodes w e = subst (Contains (way_of nodes w)) (sym e) (Contains-here (nodes.above w) (nodes.worker w))

pub unit_off : (u v : ℕ) → (u ≡ v → ⊥) → unit_at u v ≡ 0
unit_off u v n = ap (λ (b : Bool). cond b 1 0) (ne_eqb u v n)

pub unit_on : (u v : ℕ) → u ≡ v → unit_at u v ≡ 1
unit_on u v e = ap (λ (b : Bool). cond b 1 0) (eq-eqb u v e)

-- the unit of a split waits
abbrev pub WaitsAt : Wave → WaveNodes → List FlowArc → List ℕ → ℕ → Type 0
WaitsAt wave nodes arcs flows s = (k : ℕ) × IsArcFrom arcs k s nodes.unstarted 1 (reward wave)
    × (0 < get_or flows k 0)

-- the units of the splits below n wait
pub record AllWait (wave : Wave) (nodes : WaveNodes) (arcs : List FlowArc)
    (network : IsWaveNetwork wave nodes arcs)
    (n : ℕ) (flows : List ℕ) : Type 0 where
  pub shipment : IsShipment arcs (pending_below wave n) nodes.sink flows
  pub unused : (s k : ℕ) → n ≤ s → s < length wave.splits → k < length arcs → (arc_at arcs k).from ≡ s →
      get_or flows k 0 ≡ 0
  pub waits : (s : ℕ) → (split_at wave s).pending ≡ true → s < n → WaitsAt wave nodes arcs flows s
  pub loads : (w : ℕ) → IsUsable wave.workers w → outflow arcs flows (nodes.worker w) ≡ 0
  pub rests : outflow arcs flows nodes.unstarted ≡ get_or flows network.rest.0 0
  pub resting : get_or flows network.rest.0 0 ≡ length (pending_below wave n)
  pub only : (k : ℕ) → ((arc_at arcs k).from ≡ nodes.unstarted → ⊥)
      → ((arc_at arcs k).to ≡ nodes.unstarted → ⊥) → get_or flows k 0 ≡ 0
  pub costs : flow_cost arcs flows ≡ reward wave * length (pending_below wave n)

module _ (wave : Wave) (nodes : WaveNodes) (arcs : List FlowArc)
    (network : IsWaveNetwork wave nodes arcs) where
  abbrev splits : ℕ
  splits = length wave.splits

  none_waits : AllWait wave nodes arcs network 0 (replicate (length arcs) 0)
  none_waits =
      let flows : List ℕ = replicate (length arcs) 0 in
      let idle : (k : ℕ) → get_or flows k 0 ≡ 0 = λ k. replicated_at (length arcs) k 0 in
      record {
        shipment = record {
          sizes = length-replicate (length arcs) 0;
          within = λ k l. (let z = idle k in omega arith);
          balance = λ v. (let i = inflow_zero arcs flows v idle in let o = outflow_zero arcs flows v idle in
              omega arith);
        };
        unused = λ s k a b c d. idle k;
        waits = λ s p l. absurd (omega arith);
        loads = λ w u. outflow_zero arcs flows (nodes.worker w) idle;
        rests = outflow_zero arcs flows nodes.unstarted idle ∙ sym (idle network.rest.0);
        resting = idle network.rest.0;
        only = λ k from to. idle k;
        costs = (let free = flow_cost_zero arcs flows idle in omega arith);
      }

  module _ (n : ℕ) (flows : List ℕ) (low : n < splits) (state : AllWait wave nodes arcs network n flows)
      (p : (split_at wave n).pending ≡ true) where
    abbrev own : ℕ
    own = (network.wait n p).0

    own_is : IsArcFrom arcs own n nodes.unstarted 1 (reward wave)
    own_is = (network.wait n p).1

    abbrev on : ℕ
    on = network.rest.0

    apart : own ≡ on → ⊥
    apart e =
        let same = ap (λ (k : ℕ). (arc_at arcs k).from) e in
        let a = own_is.from_is in let b = network.rest.2.from_is in
        let past = network.rest_inner.no_source in omega arith

    one_longer : length (pending_below wave (suc n)) ≡ suc (length (pending_below wave n))
    one_longer = let size = length-append (pending_below wave n) (n ∷ []) in
        let more = ap (λ (z : List ℕ). length z) (pending-more wave n p) in omega arith

    abbrev waiting_path : List ArcNo
    waiting_path = Forward own ∷ (Forward on ∷ [])

    leads_to_sink : IsPath arcs flows waiting_path n nodes.sink
    leads_to_sink =
        let none = state.unused n own (omega arith) low own_is.listed own_is.from_is in
        let one = own_is.capacity_is in
        let is = network.rest.2 in let cap = is.capacity_is in let enough = network.rest.3 in
        let some = state.resting in let size = one_longer in
        let all = pending_mono wave (suc n) splits (omega arith) in (
          record { listed = own_is.listed; room = omega arith },
          own_is.from_is,
          (record { listed = is.listed; room = omega arith }, is.from_is ∙ sym own_is.to_is, is.to_is),
        )

    twice : IsDistinct waiting_path
    twice = (((λ e. apart (ap arc_index e)), tt), (tt, tt))

    abbrev first : List ℕ
    first = shifted flows (Forward own)

    abbrev both : List ℕ
    both = shifted first (Forward on)

    first_size : length first ≡ length arcs
    first_size = length-shifted flows (Forward own) ∙ state.shipment.sizes

    kept : (k : ℕ) → (own ≡ k → ⊥) → (on ≡ k → ⊥) → get_or both k 0 ≡ get_or flows k 0
    kept k a b = kept_shift first (Forward on) k b ∙ kept_shift flows (Forward own) k a

    out_of : (v : ℕ) → splits ≤ v → outflow arcs both v ≡ outflow arcs flows v + unit_at nodes.unstarted v
    out_of v past =
        let a = outflow_forward arcs flows own v state.shipment.sizes own_is.listed in
        let a' = ap (λ (z : ℕ). unit_at z v) own_is.from_is in
        let off = unit_off n v (λ e. omega arith) in
        let b = outflow_forward arcs first on v first_size network.rest.2.listed in
        let b' = ap (λ (z : ℕ). unit_at z v) network.rest.2.from_is in
        omega arith

    rest_more : get_or both on 0 ≡ get_or flows on 0 + 1
    rest_more =
        let listed = network.rest.2.listed in let size = first_size in
        get_or-set_same first on (get_or first on 0 + 1) 0 (omega arith)
        ∙ ap (λ (z : ℕ). z + 1) (kept_shift flows (Forward own) on apart)

    own_more : get_or both own 0 ≡ get_or flows own 0 + 1
    own_more =
        let listed = own_is.listed in let size = state.shipment.sizes in
        kept_shift first (Forward on) own (λ e. apart (sym e))
        ∙ get_or-set_same flows own (get_or flows own 0 + 1) 0 (omega arith)

    one_waits : AllWait wave nodes arcs network (suc n) both
    one_waits = record {
      shipment = record {
        sizes = length-shifted first (Forward on) ∙ first_size;
        within = pushed_within arcs flows waiting_path both
            (record {
              sizes = state.shipment.sizes;
              within = state.shipment.within;
              distinct = twice;
              residual = residual_path arcs flows waiting_path n nodes.sink leads_to_sink;
              rest_is = refl;
            });
        balance = λ v.
            (let moved = push_balance arcs flows waiting_path n nodes.sink v state.shipment.sizes twice
            leads_to_sink in
            let old = state.shipment.balance v in
            let times = ap (λ (ps : List ℕ). standing ps v) (pending-more wave n p)
            ∙ standing-push v (pending_below wave n) n in
            let units = ap (λ (z : ℕ). z * unit_at nodes.sink v) one_longer
            ∙ ap (λ (z : ℕ). z * unit_at nodes.sink v)
            (let e : suc (length (pending_below wave n)) ≡ length (pending_below wave n) + 1 =
            omega arith in e)
            ∙ add-mul (length (pending_below wave n)) 1 (unit_at nodes.sink v) in
            omega arith);
      };
      unused = λ s k past l listed from.
          (let same = kept k
          (λ e. (let from' = ap (λ (j : ℕ). (arc_at arcs j).from) e in let a = own_is.from_is in
          absurd (omega arith)))
          (λ e. (let from' = ap (λ (j : ℕ). (arc_at arcs j).from) e in let a = network.rest.2.from_is in
          let high = network.rest_inner.no_source in absurd (omega arith))) in
          same ∙ state.unused s k (omega arith) l listed from);
      waits = λ s q l. elim (cases_eq s n) [
        | inl e ↦ (let more = own_more in
            subst (WaitsAt wave nodes arcs both) (sym e) (own, own_is, omega arith))
        | inr d ↦ (let old = state.waits s q (omega arith) in let some = old.2 in
            let known = pending_known wave s q in
            let same = kept old.0
            (λ e. d (sym old.1.from_is ∙ sym (ap (λ (j : ℕ). (arc_at arcs j).from) e) ∙ own_is.from_is))
            (λ e. (let from' = ap (λ (j : ℕ). (arc_at arcs j).from) e in let a = network.rest.2.from_is in
            let b = old.1.from_is in let high = network.rest_inner.no_source in absurd (omega arith))) in
            (old.0, old.1, omega arith))
      ];
      loads = λ w u.
          (let all = out_of (nodes.worker w) (network.known w) in
          let off = unit_off nodes.unstarted (nodes.worker w) (λ e. network.apart w u (own_on nodes w e)) in
          let old = state.loads w u in omega arith);
      rests =
          (let all = out_of nodes.unstarted network.rest_inner.no_source in
          let one = unit_on nodes.unstarted nodes.unstarted refl in
          let old = state.rests in let more = rest_more in omega arith);
      resting = (let old = state.resting in let more = rest_more in let size = one_longer in omega arith);
      only = λ k from to. kept k
          (λ e. to (sym (ap (λ (j : ℕ). (arc_at arcs j).to) e) ∙ own_is.to_is))
          (λ e. from (sym (ap (λ (j : ℕ). (arc_at arcs j).from) e) ∙ network.rest.2.from_is))
          ∙ state.only k from to;
      costs =
          (let a = flow_cost_forward arcs flows own state.shipment.sizes own_is.listed in
          let a' = own_is.cost_is in
          let b = flow_cost_forward arcs first on first_size network.rest.2.listed in
          let b' = network.rest.2.cost_is in
          let old = state.costs in
          let more = ap (λ (z : ℕ). reward wave * z) one_longer
          ∙ mul-suc (reward wave) (length (pending_below wave n)) in
          omega arith);
    }

  idle_passed : (n : ℕ) (flows : List ℕ) → AllWait wave nodes arcs network n flows →
      (split_at wave n).pending ≡ false → AllWait wave nodes arcs network (suc n) flows
  idle_passed n flows state f =
      let same : pending_below wave n ≡ pending_below wave (suc n) = sym (pending-same wave n f) in
      record {
        shipment = subst (λ (z : List ℕ). IsShipment arcs z nodes.sink flows) same state.shipment;
        unused = λ s k past l listed from. state.unused s k (omega arith) l listed from;
        waits = λ s q l. elim (cases_eq s n) [
          | inl e ↦ absurd (false≢true (sym f ∙ sym (ap (λ (z : ℕ). (split_at wave z).pending) e) ∙ q))
          | inr d ↦ state.waits s q (omega arith)
        ];
        loads = state.loads;
        rests = state.rests;
        resting = state.resting ∙ ap (λ (z : List ℕ). length z) same;
        only = state.only;
        costs = state.costs ∙ ap (λ (z : List ℕ). reward wave * length z) same;
      }

  pub all_wait : (n : ℕ) → n ≤ splits → (flows : List ℕ) × AllWait wave nodes arcs network n flows
  all_wait zero l = (replicate (length arcs) 0, none_waits)
  all_wait (suc n) l =
      let before = all_wait n (omega arith) in
      elim (cases_Bool (split_at wave n).pending) [
        | inl p ↦ (both n before.0 (omega arith) before.1 p, one_waits n before.0 (omega arith) before.1 p)
        | inr f ↦ (before.0, idle_passed n before.0 before.1 f)
      ]
