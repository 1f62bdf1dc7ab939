-- The rack network lies in layers.
use Rattle.std.proofs.Common.{◌≡◌, ℕ, zero, suc, ◌<◌, List, refl, inl, inr, arith}
use Rattle.flow_network.specs.declared.arcs.FlowArc.{FlowArc}
use Rattle.wave_problem.specs.Wave.{Wave}
use Rattle.wave_problem.proofs.Bound.{live_known}
use Rattle.network_prices.specs.Layers.{Leaves, Enters, IsLayered}
use Rattle.network_prices.proofs.Tables.{each_arc, rising_ends}
use Rattle.rack_network.specs.declared.arcs.RackArc.{RackArc}
use Rattle.rack_network.specs.declared.arcs.RackArc.TheVariants.{Pair, Reach, Wait, Down, Slot, Rest}
use Rattle.rack_network.specs.Racks.{count, start, node, arc_of, IsWanted, IsRackNetwork}
use Rattle.rack_network.proofs.Heights.{level_in, upper_in}
use Rattle.rack_network.proofs.RackWays.{is_onward, wave_network}

module _ (wave : Wave) (arcs : List FlowArc) (network : IsRackNetwork wave arcs) where
  leaving : (d : RackArc) → IsWanted wave d → Leaves wave (start wave 0) (arc_of wave d)
  leaving (Pair s w) d =
      inl (inl d.0.pending, λ t. (let known = live_known wave w d.0.live in omega arith))
  leaving (Reach s level i) d =
      inl (inl d.pending, λ t. (let known = d.known in let at = (level_in wave level).1 in omega arith))
  leaving (Wait s) d = inl (inl d, λ t. omega arith)
  leaving (Down level i) d =
      let known = d.known in let hangs = d.hangs in
      let low = (level_in wave (suc level)).0 in let high = upper_in wave level in
      let at = (level_in wave level).1 in
      inl (inr (omega arith, omega arith), λ t. omega arith)
  leaving (Slot w) d = inr (refl, inr (w, d, refl))
  leaving Rest d = inr (refl, inl refl)

  enters_node : (a : FlowArc) (level i : ℕ) → i < count wave level → a.to ≡ node wave level i
      → Enters wave (start wave 0) a
  enters_node a zero i known to = inl (i, known, to)
  enters_node a (suc level) i known to =
      let low = (level_in wave (suc level)).0 in let high = upper_in wave level in
      inr (inr (inl (inr (omega arith, omega arith))))

  entering : (d : RackArc) → IsWanted wave d → Enters wave (start wave 0) (arc_of wave d)
  entering (Pair s w) d = inl (w, live_known wave w d.0.live, refl)
  entering (Reach s level i) d = enters_node (arc_of wave (Reach s level i)) level i d.known refl
  entering (Wait s) d = inr (inl refl)
  entering (Down level i) d = enters_node (arc_of wave (Down level i)) level i d.known refl
  entering (Slot w) d = inr (inr (inr refl))
  entering Rest d = inr (inr (inr refl))

  pub is_layered : IsLayered wave (start wave 0) arcs
  is_layered = record {
    past_splits = omega arith;
    onward = rising_ends arcs network.rows.rising
        (each_arc network.rows (λ a. a.from < a.to) (is_onward wave arcs network));
    no_entry = (wave_network wave arcs network).no_entry;
    leaves = each_arc network.rows (Leaves wave (start wave 0)) leaving;
    enters = each_arc network.rows (Enters wave (start wave 0)) entering;
  }
