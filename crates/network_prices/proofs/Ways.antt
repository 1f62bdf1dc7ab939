-- Depths along a way.
use Rattle.std.proofs.Common.{◌≡◌, ℕ, ◌<◌, ◌≤◌, List, [], ◌∷◌, length, get_or, ap, sym, subst, inl, inr}
use Rattle.std.proofs.Common.{arith}
use Rattle.std.proofs.Common.{Contains}
use Rattle.flow_network.specs.declared.arcs.FlowArc.{FlowArc}
use Rattle.flow_network.specs.Flows.{arc_at, WithinCapacities, NoNegative, inflow, outflow}
use Rattle.flow_network.proofs.Room.{room_above}
use Rattle.flow_network.proofs.Members.{Contains-nil, Contains-here, Contains-there, Contains-cons}
use Rattle.network_prices.specs.Ways.{deepest, IsFed, IsInner, IsWay, CameFrom}

pub deepest-ge : (h : ℕ → ℕ) (way : List ℕ) (x : ℕ) → Contains way x → h x ≤ deepest h way
deepest-ge h [] x on = absurd (Contains-nil x on)
deepest-ge h (v ∷ way) x on = elim (Contains-cons v way x on) [
  | inl e ↦ let same = ap h e in omega arith
  | inr r ↦ let rest = deepest-ge h way x r in omega arith
]

-- the arc by which a split's unit comes to a way, and down it: where no reduced cost is negative, nothing on
-- the way lies deeper than its end
pub record CameBy (arcs : List FlowArc) (flows : List ℕ) (s : ℕ) (way : List ℕ) (k : ℕ) : Type 0 where
  pub listed : k < length arcs
  pub from_is : (arc_at arcs k).from ≡ s
  pub unit : 0 < get_or flows k 0
  pub on_way : Contains way (arc_at arcs k).to
  pub deep : (h : ℕ → ℕ) → NoNegative arcs flows h → deepest h way ≤ h (arc_at arcs k).to

module _ (arcs : List FlowArc) (flows : List ℕ) (sources sink : ℕ)
    (sizes : length flows ≡ length arcs) (within : WithinCapacities arcs flows)
    (balanced : (v : ℕ) → IsInner sources sink v → inflow arcs flows v ≡ outflow arcs flows v) where
  module _ (h : ℕ → ℕ) (reduced : NoNegative arcs flows h) where
    -- where the arc that feeds a node has room, the node above lies no deeper
    not_deeper : (u v : ℕ) (fed : IsFed arcs sources u v) →
        get_or flows fed.feed 0 < (arc_at arcs fed.feed).capacity → h u ≤ h v
    not_deeper u v fed room =
        let step = (reduced fed.feed fed.listed).0 room in
        let a = ap h fed.from_is in let b = ap h fed.to_is in let c = fed.without_cost in omega arith

    -- an arc out of the first node has room: nothing above lies deeper
    pub room_out : (way : List ℕ) (v i : ℕ) → IsWay arcs sources sink (v ∷ way) → i < length arcs →
        (arc_at arcs i).from ≡ v
        → get_or flows i 0 < (arc_at arcs i).capacity → deepest h (v ∷ way) ≤ h v
    room_out [] v i way l from room = omega arith
    room_out (u ∷ rest) v i way l from room =
        let fed = way.1 in
        let above = (room_above arcs flows v fed.feed sizes within (balanced v way.0) fed.listed fed.to_is
        fed.whole).0 i l from room in
        let less = not_deeper u v fed above in
        let more = room_out rest u fed.feed way.2 fed.listed fed.from_is above in
        omega arith

    -- a source's arc brings the first node a unit: nothing above lies deeper
    pub unit_in : (way : List ℕ) (v i : ℕ) → IsWay arcs sources sink (v ∷ way) → i < length arcs →
        (arc_at arcs i).to ≡ v → (arc_at arcs i).from < sources
        → 0 < get_or flows i 0 → deepest h (v ∷ way) ≤ h v
    unit_in [] v i way l to source unit = omega arith
    unit_in (u ∷ rest) v i way l to source unit =
        let fed = way.1 in
        let other : i ≡ fed.feed → ⊥ = λ e. (let same = ap (λ (j : ℕ). (arc_at arcs j).from) e in
        let f = fed.from_is in let n = fed.inner in absurd (omega arith)) in
        let above = (room_above arcs flows v fed.feed sizes within (balanced v way.0) fed.listed fed.to_is
        fed.whole).1 i l to other unit in
        let less = not_deeper u v fed above in
        let more = room_out rest u fed.feed way.2 fed.listed fed.from_is above in
        omega arith

    unit_deep : (way : List ℕ) (v i : ℕ) → IsWay arcs sources sink (v ∷ way) → i < length arcs →
        (arc_at arcs i).to ≡ v → (arc_at arcs i).from < sources
        → 0 < get_or flows i 0 → deepest h (v ∷ way) ≤ h (arc_at arcs i).to
    unit_deep way v i is l to source unit = let d = unit_in way v i is l to source unit in
        let same = ap h to in omega arith

    fed_deep : (way : List ℕ) (u v k x : ℕ) → k < length arcs → (arc_at arcs k).from ≡ u →
        (arc_at arcs k).to ≡ v → (arc_at arcs k).cost ≡ 0 → 0 < get_or flows k 0
        → deepest h (u ∷ way) ≤ h x → deepest h (v ∷ (u ∷ way)) ≤ h x
    fed_deep way u v k x l from to free unit above =
        let step = (reduced k l).1 unit in let a = ap h from in let b = ap h to in omega arith

  module _ (no_entry : (k : ℕ) → k < length arcs → sources ≤ (arc_at arcs k).to) (s : ℕ) where
    -- a unit that is at a source is the source's own
    pub own_unit : (path : List ℕ) (v : ℕ) → v < sources → CameFrom arcs flows path s v → v ≡ s
    own_unit [] v source came = came
    own_unit (k ∷ path) v source came = let in_range = no_entry k came.0 in let to = came.2 in
        absurd (omega arith)

    pub came_down : (path : List ℕ) (way : List ℕ) (v : ℕ) → s < sources → IsWay arcs sources sink (v ∷ way)
        → CameFrom arcs flows path s v
        → (k : ℕ) × CameBy arcs flows s (v ∷ way) k
    came_down [] [] v source way came = let n = way.0.no_source in absurd (omega arith)
    came_down [] (u ∷ rest) v source way came = let n = way.0.no_source in absurd (omega arith)
    came_down (k ∷ path) [] v source way came =
        let from = way.1 k came.0 came.2 in (
          k,
          record {
            listed = came.0;
            from_is = own_unit path (arc_at arcs k).from from came.3;
            unit = came.1;
            on_way = subst (Contains (v ∷ [])) (sym came.2) (Contains-here [] v);
            deep = λ h reduced. unit_deep h reduced [] v k way came.0 came.2 from came.1;
          },
        )
    came_down (k ∷ path) (u ∷ rest) v source way came = elim (way.1.entered k came.0 came.2) [
      | inl from ↦ (
        k,
        record {
          listed = came.0;
          from_is = own_unit path (arc_at arcs k).from from came.3;
          unit = came.1;
          on_way = subst (Contains (v ∷ (u ∷ rest))) (sym came.2) (Contains-here (u ∷ rest) v);
          deep = λ h reduced. unit_deep h reduced (u ∷ rest) v k way came.0 came.2 from came.1;
        },
      )
      | inr fed ↦
          (let up : CameFrom arcs flows path s u = rw fed.0 at came.3 in
          let above = came_down path rest u source way.2 up in
          let found = above.1 in (
            above.0,
            record {
              listed = found.listed;
              from_is = found.from_is;
              unit = found.unit;
              on_way = Contains-there v (u ∷ rest) _ found.on_way;
              deep = λ h reduced. fed_deep h reduced rest u v k (arc_at arcs above.0).to came.0 fed.0 came.2
                  fed.1 came.1 (found.deep h reduced);
            },
          ))
    ]
