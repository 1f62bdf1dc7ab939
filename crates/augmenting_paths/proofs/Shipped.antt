-- Why each unit finds a path, and what it leaves.
use Rattle.std.proofs.Common.{◌≡◌, ◌*◌, ℕ, suc, ◌+◌, ◌-◌, ◌^◌, ◌<◌, ◌≤◌, Bool, true, false, cond, eqb, List, [], ◌∷◌}
use Rattle.std.proofs.Common.{◌++◌, length, get_or, take, Option, Some, None, refl, sym, ap, ◌∙◌, subst, inl, inr, ◌⊎◌}
use Rattle.std.proofs.Common.{arith, get_or-set_same, get_or-set_other, All}
use Rattle.std.proofs.Math.Seq.{take-length}
use Rattle.std.specs.Prelude.{is_some, IsSome}
use Rattle.std.proofs.lemmas.Bool.{cases_eq, cases_lt}
use Rattle.std.proofs.lemmas.List.{take_more, set_past}
use Rattle.std.proofs.lemmas.List.Sums.{sum_by_push}
use Rattle.flow_network.specs.declared.arcs.FlowArc.{FlowArc}
use Rattle.flow_network.specs.declared.arcs.ArcNo.{ArcNo}
use Rattle.flow_network.specs.declared.arcs.ArcNo.TheVariants.{Forward, Reverse}
use Rattle.flow_network.specs.Flows.{arc_at, tail_of, head_of, IsResidual, IsPath, Lacks, IsDistinct}
use Rattle.flow_network.specs.Flows.{path_cost, shifted, pushed, inflow, outflow, unit_at, path_start}
use Rattle.flow_network.specs.Flows.{path_end, arc_index, NoNegative, AreArcs, WithinCapacities}
use Rattle.flow_network.proofs.Balance.{push_balance, length-shifted}
use Rattle.flow_network.proofs.Cheapest.{no_negative_is_cheapest}
use Rattle.flow_network.proofs.Pushing.{residual_path}
use Rattle.shortest_paths.specs.Finding.{Finding, IsTotal, total_of}
use Rattle.shortest_paths.specs.Lowering.{lowered}
use Rattle.shortest_paths.specs.Searching.{distance_at}
use Rattle.shortest_paths.specs.ToSink.{far, IsSearched, IsTrace}
use Rattle.shortest_paths.proofs.Lowering.{lift_law, lowering_law, push_law, steps_tight}
use Rattle.shortest_paths.proofs.ToSink.{searched_is_least}
use Rattle.augmenting_paths.specs.Shipping.{standing, CanShip, HasShipped, IsLifted, IsShipment, IsCheapest}
use Rattle.augmenting_paths.specs.NextUnit.{HasFoundNext}
use Rattle.augmenting_paths.specs.TightPath.{IsTightPath}
use Rattle.augmenting_paths.proofs.TightPath.{distinct_once}

-- a unit over an arc raises no other flow, and its own by at most one
raise : (flows : List ℕ) (a : ArcNo) (j : ℕ) → get_or (shifted flows a) j 0 ≤ get_or flows j 0 + 1
raise flows (Forward i) j = grind (arith, cases_eq, get_or-set_other, cases_lt, get_or-set_same, set_past)
raise flows (Reverse i) j = grind (arith, cases_eq, get_or-set_other, cases_lt, get_or-set_same, set_past)

no_raise : (flows : List ℕ) (a : ArcNo) (j : ℕ) → (Forward j ≡ a → ⊥) →
    get_or (shifted flows a) j 0 ≤ get_or flows j 0
no_raise flows (Forward i) j n =
    rw (get_or-set_other flows i j (get_or flows i 0 + 1) 0 (λ e. n (ap Forward e))) (omega arith)
no_raise flows (Reverse i) j n =
    grind (arith, cases_eq, get_or-set_other, cases_lt, get_or-set_same, set_past)

pub not_raised : (path : List ArcNo) (flows : List ℕ) (j : ℕ) → Lacks (Forward j) path →
    get_or (pushed path flows) j 0 ≤ get_or flows j 0
not_raised [] flows j n = omega arith
not_raised (a ∷ path) flows j n = grind (arith, not_raised path (shifted flows a) j n.1, no_raise)

same_arc : (a : ArcNo) (j : ℕ) → (Forward j ≡ a) ⊎ (Forward j ≡ a → ⊥)
same_arc (Forward i) j = elim (cases_eq j i) [ inl e ↦ inl (ap Forward e) | inr n ↦ inr (λ q. n (cc)) ]
same_arc (Reverse i) j = inr (λ q. cc)

pub raised_once : (path : List ArcNo) (flows : List ℕ) (j : ℕ) → IsDistinct path →
    get_or (pushed path flows) j 0 ≤ get_or flows j 0 + 1
raised_once [] flows j d = omega arith
raised_once (a ∷ path) flows j d =
    grind (arith, raised_once path (shifted flows a) j d.1, same_arc, not_raised, raise, no_raise)

pub length-pushed : (path : List ArcNo) (flows : List ℕ) → length (pushed path flows) ≡ length flows
length-pushed [] flows = refl
length-pushed (a ∷ path) flows = length-pushed path (shifted flows a) ∙ length-shifted flows a

-- a node that no residual arc enters is on no path but its own
module _ (arcs : List FlowArc) (flows : List ℕ) (s : ℕ) (closed : (a : ArcNo) → IsResidual arcs flows a →
    head_of arcs a ≡ s → ⊥) where
  pub not_reached : (path : List ArcNo) (u : ℕ) → (u ≡ s → ⊥) → IsPath arcs flows path u s → ⊥
  not_reached [] u n p = n p
  not_reached (a ∷ path) u n p = not_reached path (head_of arcs a) (closed a p.0) p.2

  pub not_left : (path : List ArcNo) (u v j : ℕ) → (u ≡ s → ⊥) → (arc_at arcs j).from ≡ s →
      IsPath arcs flows path u v → Lacks (Forward j) path
  not_left [] u v j n f p = tt
  not_left (a ∷ path) u v j n f p = (
    (λ e. n (sym p.1 ∙ ap (tail_of arcs) (sym e) ∙ f)),
    not_left path (head_of arcs a) v j (closed a p.0) f p.2,
  )

pub standing-push : (w : ℕ) (xs : List ℕ) (s : ℕ) → standing (xs ++ s ∷ []) w ≡ standing xs w + unit_at s w
standing-push w xs s = sum_by_push (λ place. unit_at place w) xs s

-- no matter how the depths are computed
same_found : (arcs : List FlowArc) (sources : List ℕ) (sink count : ℕ) (flows : List ℕ) (path : List ArcNo)
    (h h' : ℕ → ℕ)
    → ((v : ℕ) → h' v ≡ h v)
    → HasFoundNext arcs sources sink count flows h path → HasFoundNext arcs sources sink count flows h' path
same_found arcs sources sink count flows path h h' same t = grind arith

path_ends : (arcs : List FlowArc) (flows : List ℕ) (a : ArcNo) (path : List ArcNo) (u v : ℕ) →
    IsPath arcs flows (a ∷ path) u v → path_end arcs (a ∷ path) ≡ v
path_ends arcs flows a [] u v p = p.2
path_ends arcs flows a (b ∷ path) u v p = path_ends arcs flows b path (head_of arcs a) v p.2

by_ends : (arcs : List FlowArc) (flows : List ℕ) (path : List ArcNo) (u v : ℕ) → (u ≡ v → ⊥) →
    IsPath arcs flows path u v
    → (0 < length path) × IsPath arcs flows path (path_start arcs path) (path_end arcs path)
by_ends arcs flows [] u v n p = absurd (n p)
by_ends arcs flows (a ∷ path) u v n p = (
  omega arith,
  (
    p.0,
    refl,
    subst (λ w. IsPath arcs flows path (head_of arcs a) w)
        (sym (path_ends arcs flows a path u v p)) p.2,
  ),
)

-- a path of listed arcs
pub path_listed : (arcs : List FlowArc) (flows : List ℕ) (path : List ArcNo) (u v : ℕ) →
    IsPath arcs flows path u v → All (λ a. arc_index a < length arcs) path
path_listed arcs flows path u v p k d l = (residual_path arcs flows path u v p k d l).listed

module _ {nodes : ℕ} {arcs : List FlowArc} {sources : List ℕ} {sink count : ℕ} {flows : List ℕ} {h : ℕ → ℕ}
    (can : CanShip nodes arcs sources sink) (left : count < length sources)
    (state : HasShipped arcs sources sink count flows h) where
  -- nothing enters a source that has not shipped
  closed_source : (k : ℕ) → count ≤ k → k < length sources → (a : ArcNo) → IsResidual arcs flows a →
      head_of arcs a ≡ get_or sources k 0 → ⊥
  closed_source k c l (Forward j) r e = can.no_entry k j l r.listed e
  closed_source k c l (Reverse j) r e = let none = state.unused k j c l r.listed e in let some = r.room in
      absurd (omega arith)

  other_source : (k : ℕ) → count + 1 ≤ k → k < length sources → get_or sources count 0 ≡ get_or sources k 0 →
      ⊥
  other_source k c l e = let same = can.distinct count k left l e in absurd (omega arith)

  pub start_in : get_or sources count 0 < nodes
  start_in = let w = can.paths count left in let inside = (can.arcs_in w.out w.out_in).from_in in
      let e = w.leaves in omega arith

  pub start_level : h (get_or sources count 0) ≡ 0
  start_level = state.untouched count (omega arith) left

  -- the source's path of two arcs, and what it comes to
  pub own_way : (k : ℕ) × (k < length arcs) × ((arc_at arcs k).from ≡ get_or sources count 0)
      × (0 < (arc_at arcs k).capacity)
      × ((arc_at arcs k).cost + h (arc_at arcs k).to ≤ 2 ^ 48)
  own_way =
      let w = can.paths count left in
      let few = state.few w.on in
      let room = w.room in
      let on = (state.reduced w.on w.on_in).0 (omega arith) in
      let c1 = (can.arcs_in w.out w.out_in).cost_in in
      let c2 = (can.arcs_in w.on w.on_in).cost_in in
      let at_sink = ap h w.arrives ∙ state.at_sink in
      let meets = ap h w.meets in
      (w.out, w.out_in, w.leaves, w.own_room, omega arith)

  module _ (h' : ℕ → ℕ) (up : IsLifted arcs h h' (get_or sources count 0)) where
    pub lift_keeps : NoNegative arcs flows h'
    lift_keeps = lift_law arcs flows h h' (get_or sources count 0) state.reduced up.others
        (λ k l e. can.no_entry count k left l e) (λ k l e. state.unused count k (omega arith) left l e)
        up.allowed

    lifted_start : h' (get_or sources count 0) ≤ 2 ^ 48
    lifted_start = let w = own_way in let most = up.allowed w.0 w.1 w.2 w.3 in let low = w.4 in omega arith

    pub lifted_depth : (v : ℕ) → h' v ≤ (count + 1) * 2 ^ 48
    lifted_depth v = elim (cases_eq v (get_or sources count 0)) [
      | inl e ↦ (let at = ap h' e in let low = lifted_start in omega arith)
      | inr n ↦ (let same = up.others v n in let old = state.depth v in omega arith)
    ]

    -- a path that costs nothing once the source is lifted
    pub lifted_found : (path : List ArcNo) → IsTightPath arcs flows h' (get_or sources count 0) sink path
        → HasFoundNext arcs sources sink count flows h' path
    lifted_found path way = record {
      h = h;
      state = state;
      reduced = lift_keeps;
      at_sink = up.others sink (λ e. can.not_sink count left (sym e)) ∙ state.at_sink;
      depth = lifted_depth;
      untouched = λ k c l. up.others (get_or sources k 0) (λ e. other_source k c l (sym e))
          ∙ state.untouched k (omega arith) l;
      way = way;
    }

    module _ (d : ℕ → ℕ) (found : IsSearched arcs flows h' (get_or sources count 0) sink d) where
      -- the sink is no farther than by the source's path of two arcs
      near : d sink + h' (get_or sources count 0) ≤ 2 ^ 48
      near =
          let s : ℕ = get_or sources count 0 in
          let w = can.paths count left in
          let own : get_or flows w.out 0 ≡ 0 = state.unused count w.out (omega arith) left w.out_in w.leaves
          in
          let few = state.few w.on in
          let own_room = w.own_room in
          let on_room = w.room in
          let first : IsResidual arcs flows (Forward w.out) =
          record { listed = w.out_in; room = omega arith } in
          let second : IsResidual arcs flows (Forward w.on) = record { listed = w.on_in; room = omega arith }
          in
          let p : IsPath arcs flows (Forward w.out ∷ (Forward w.on ∷ [])) s sink =
          (first, w.leaves, (second, sym w.meets, w.arrives)) in
          let best : d sink ≤ path_cost arcs h' (Forward w.out ∷ (Forward w.on ∷ [])) =
          (searched_is_least arcs flows h' s sink d found).1 (Forward w.out ∷ (Forward w.on ∷ [])) p in
          let most = up.allowed w.out w.out_in w.leaves w.own_room in
          let c1 = (can.arcs_in w.out w.out_in).cost_in in
          let c2 = (can.arcs_in w.on w.on_in).cost_in in
          let middle : h' (arc_at arcs w.out).to ≡ h (arc_at arcs w.out).to =
          up.others _ (λ e. can.no_entry count w.out left w.out_in e) in
          let end : h' (arc_at arcs w.on).to ≡ h (arc_at arcs w.on).to =
          up.others _ (λ e. can.not_sink count left (sym e ∙ w.arrives)) in
          let at_sink : h (arc_at arcs w.on).to ≡ 0 = ap h w.arrives ∙ state.at_sink in
          let on = (state.reduced w.on w.on_in).0 (omega arith) in
          let meets : h (arc_at arcs w.out).to ≡ h (arc_at arcs w.on).from = ap h w.meets in
          let meets' : h' (arc_at arcs w.out).to ≡ h' (arc_at arcs w.on).from = ap h' w.meets in
          let from : h' (arc_at arcs w.out).from ≡ h' s = ap h' w.leaves in
          omega arith

      pub depth_low : (v : ℕ) → h' v + d sink ≤ (count + 1) * 2 ^ 48
      depth_low v = elim (cases_eq v (get_or sources count 0)) [
        | inl e ↦ (let at = ap h' e in let low = near in omega arith)
        | inr n ↦ (let same = up.others v n in let old = state.depth v in let low = near in omega arith)
      ]

      unreached : (k : ℕ) → count + 1 ≤ k → k < length sources → d sink - d (get_or sources k 0) ≡ 0
      unreached k c l = elim (cases_lt (d (get_or sources k 0)) far) [
        | inl reached ↦ absurd (let r = found.traced (get_or sources k 0) reached in
            not_reached arcs flows (get_or sources k 0) (closed_source k (omega arith) l) r.0
            (get_or sources count 0) (other_source k c l) r.1)
        | inr past ↦ (let low = near in omega arith)
      ]

      -- under the lowered depths the path of the search costs nothing
      searched_found : (path : List ArcNo) → IsTrace arcs flows h' (get_or sources count 0) sink d path
          → HasFoundNext arcs sources sink count flows (lowered h' d (d sink)) path
      searched_found path t = record {
        h = h;
        state = state;
        reduced = lowering_law arcs flows h' d (d sink) lift_keeps found.covered;
        at_sink = (let same = up.others sink (λ e. can.not_sink count left (sym e)) in
            let z = state.at_sink in omega arith);
        depth = λ v. (let low = depth_low v in omega arith);
        untouched = λ k c l. (let old = state.untouched k (omega arith) l in
            let same = up.others (get_or sources k 0) (λ e. other_source k c l (sym e)) in
            let none = unreached k c l in omega arith);
        way = record {
          leads = t.leads;
          once = t.once;
          tight = (steps_tight arcs flows h' d (d sink) path (get_or sources count 0) sink lift_keeps t.leads
              t.steps (omega arith)).0;
        };
      }

    -- the same, of what a search tells
    module _ (f : Finding) (total : IsTotal f.total (distance_at f.distances sink))
        (found : IsSearched arcs flows h' (get_or sources count 0) sink (distance_at f.distances))
        (path : IsSome f.total →
        IsTrace arcs flows h' (get_or sources count 0) sink (distance_at f.distances) f.path) where
      told : (t : ℕ) × (f.total ≡ Some t) × (t ≡ distance_at f.distances sink)
      told = by f.total refl total
        where
          by : (o : Option ℕ) → f.total ≡ o → IsTotal o (distance_at f.distances sink)
              → (t : ℕ) × (f.total ≡ Some t) × (t ≡ distance_at f.distances sink)
          by None e past = absurd (let low = near (distance_at f.distances) found in omega arith)
          by (Some t) e k = (t, e, k.0)

      pub not_none : f.total ≡ None → ⊥
      not_none e = let t = told in let q : None ≡ Some t.0 = sym e ∙ t.1 in cc

      trace : IsTrace arcs flows h' (get_or sources count 0) sink (distance_at f.distances) f.path
      trace = path (ap is_some told.1)

      total_told : total_of f.total ≡ distance_at f.distances sink
      total_told = ap total_of told.1 ∙ told.2

      pub total_low : length sources ≤ 4096 → (v : ℕ) → h' v + total_of f.total ≤ 2 ^ 60
      total_low limit v = let low = depth_low (distance_at f.distances) found v in let t = total_told in
          omega arith

      pub unit_found : (h'' : ℕ → ℕ)
          → ((v : ℕ) → h'' v ≡ lowered h' (distance_at f.distances) (total_of f.total) v)
          → HasFoundNext arcs sources sink count flows h'' f.path
      unit_found h'' same = same_found arcs sources sink count flows f.path
          (lowered h' (distance_at f.distances) (distance_at f.distances sink)) h''
          (λ v. same v ∙ ap (λ n. lowered h' (distance_at f.distances) n v) total_told)
          (searched_found (distance_at f.distances) found f.path trace)

-- the unit over that path keeps the state
module _ {nodes : ℕ} {arcs : List FlowArc} {sources : List ℕ} {sink count : ℕ} {flows : List ℕ}
    {h' : ℕ → ℕ} {path : List ArcNo}
    (can : CanShip nodes arcs sources sink) (left : count < length sources)
    (f : HasFoundNext arcs sources sink count flows h' path) where
  pub unit_path : (0 < length path) × IsPath arcs flows path (path_start arcs path) (path_end arcs path)
  unit_path = by_ends arcs flows path (get_or sources count 0) sink (can.not_sink count left) f.way.leads

  pub unit_distinct : IsDistinct path
  unit_distinct = distinct_once path f.way.once

  pub unit_listed : All (λ a. arc_index a < length arcs) path
  unit_listed = path_listed arcs flows path (get_or sources count 0) sink f.way.leads

  pub unit_shipped : HasShipped arcs sources sink (count + 1) (pushed path flows) h'
  unit_shipped = record {
    sizes = length-pushed path flows ∙ f.state.sizes;
    reduced = push_law arcs flows h' path f.way.tight f.reduced;
    at_sink = f.at_sink;
    depth = f.depth;
    few = λ j. (let old = f.state.few j in let more = raised_once path flows j unit_distinct in omega arith);
    untouched = f.untouched;
    unused = λ k j c l m e.
        (let old = f.state.unused k j (omega arith) l m e in
        let lacks = not_left arcs flows (get_or sources k 0)
        (closed_source can left f.state k (omega arith) l) path
        (get_or sources count 0) sink j
        (other_source can left f.state k c l) e f.way.leads in
        let still = not_raised path flows j lacks in omega arith);
    balance = λ w.
        (let moved = push_balance arcs flows path (get_or sources count 0) sink w f.state.sizes unit_distinct
        f.way.leads in
        let old = f.state.balance w in
        let more : take (count + 1) sources ≡ take count sources ++ get_or sources count 0 ∷ [] =
        take_more sources count 0 left in
        let sum = standing-push w (take count sources) (get_or sources count 0) in
        rw more (omega arith));
  }

-- nothing flows yet
none_more : (b : Bool) (f x : ℕ) → f ≡ 0 → x ≡ 0 → cond b f 0 + x ≡ 0
none_more true f x e z = omega arith
none_more false f x e z = omega arith

pub inflow_zero : (arcs : List FlowArc) (flows : List ℕ) (w : ℕ) → ((k : ℕ) → get_or flows k 0 ≡ 0) →
    inflow arcs flows w ≡ 0
inflow_zero [] flows w z = refl
inflow_zero (a ∷ arcs) [] w z = refl
inflow_zero (a ∷ arcs) (f ∷ flows) w z = let rest = inflow_zero arcs flows w (λ k. z (suc k)) in
    let first : f ≡ 0 = z 0 in none_more (eqb a.to w) f _ first rest

pub outflow_zero : (arcs : List FlowArc) (flows : List ℕ) (w : ℕ) → ((k : ℕ) → get_or flows k 0 ≡ 0) →
    outflow arcs flows w ≡ 0
outflow_zero [] flows w z = refl
outflow_zero (a ∷ arcs) [] w z = refl
outflow_zero (a ∷ arcs) (f ∷ flows) w z = let rest = outflow_zero arcs flows w (λ k. z (suc k)) in
    let first : f ≡ 0 = z 0 in none_more (eqb a.from w) f _ first rest

pub begin_state : (arcs : List FlowArc) {sources : List ℕ} {sink : ℕ} (flows : List ℕ) (h : ℕ → ℕ) →
    length flows ≡ length arcs
    → ((k : ℕ) → get_or flows k 0 ≡ 0) → ((v : ℕ) → h v ≡ 0) → HasShipped arcs sources sink 0 flows h
begin_state arcs {sources = sources} {sink = sink} flows h size none zero_depth =
    grind (arith, inflow_zero, outflow_zero)

-- what was shipped is a shipment, and none costs less
pub shipment : (nodes : ℕ) (arcs : List FlowArc) (sources : List ℕ) (sink count : ℕ) (flows : List ℕ) (h : ℕ
    → ℕ) → count ≡ length sources → WithinCapacities arcs flows
    → HasShipped arcs sources sink count flows h → IsShipment arcs sources sink flows
shipment nodes arcs sources sink count flows h e within t = grind (arith, take-length)

pub cheapest : (nodes : ℕ) (arcs : List FlowArc) (sources : List ℕ) (sink count : ℕ) (flows : List ℕ) (h : ℕ
    → ℕ) → count ≡ length sources → AreArcs nodes arcs
    → WithinCapacities arcs flows → HasShipped arcs sources sink count flows h →
    IsCheapest arcs sources sink flows
cheapest nodes arcs sources sink count flows h e are within t =
    let own = shipment nodes arcs sources sink count flows h e within t in
    record {
      shipment = own;
      least = λ other s. no_negative_is_cheapest nodes arcs flows other h are t.sizes s.sizes t.reduced
          s.within (λ w. (let a = own.balance w in let b = s.balance w in omega arith));
    }
