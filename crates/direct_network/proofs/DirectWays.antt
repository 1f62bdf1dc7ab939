-- The direct network is a network of its wave, in which a way up is the worker's node alone.
use Rattle.std.proofs.Common.{◌≡◌, ℕ, ◌<◌, ◌≤◌, List, [], ◌∷◌, length, refl, sym, ap, ◌∙◌, subst, inl, inr}
use Rattle.std.proofs.Common.{arith, unwrap_or, Contains}
use Rattle.flow_network.specs.declared.arcs.FlowArc.{FlowArc}
use Rattle.flow_network.specs.Flows.{arc_at}
use Rattle.flow_network.specs.Laws.{outroom}
use Rattle.wave_problem.specs.Wave.{Wave, IsAdmissible, worker_at, cost, reward, IsUsable}
use Rattle.wave_problem.proofs.Bound.{live_known, pending_known}
use Rattle.flow_network.proofs.Members.{Contains-here, Contains-one}
use Rattle.network_prices.specs.Networks.{way_of, IsOffer, IsWaveNetwork}
use Rattle.network_prices.specs.Layers.{Leaves, Enters, IsLayered}
use Rattle.network_prices.proofs.Tables.{each_arc, the_arc, outroom-one, rising_ends}
use Rattle.direct_network.specs.declared.arcs.DirectArc.{DirectArc}
use Rattle.direct_network.specs.declared.arcs.DirectArc.TheVariants.{Pair, Wait, Slot, Rest}
use Rattle.direct_network.specs.Direct.{arc_of, direct_nodes, worker_node, unstarted_node, sink_node}
use Rattle.direct_network.specs.Direct.{IsDirect, IsWanted}
use Rattle.direct_network.proofs.Rows.{own_slot}

module _ (wave : Wave) (arcs : List FlowArc) (direct : IsDirect wave arcs) where
  -- the pair whose arc enters a worker
  pair_at : (w : ℕ) → w < length wave.workers → (d : DirectArc) → IsWanted wave d
      → (arc_of wave d).to ≡ worker_node wave w
      → (s : ℕ) × IsAdmissible wave s w × (arc_of wave d ≡ arc_of wave (Pair s w))
  pair_at w known (Pair s v) want to =
      let same : v ≡ w = omega arith in
      (s, subst (IsAdmissible wave s) same want, ap (λ (x : ℕ). arc_of wave (Pair s x)) same)
  pair_at w known _ want to = absurd (omega arith)

  own_pair : (k w : ℕ) → k < length arcs → w < length wave.workers
      → (arc_at arcs k).to ≡ worker_node wave w
      → (s : ℕ) × IsAdmissible wave s w × (arc_at arcs k ≡ arc_of wave (Pair s w))
  own_pair k w l known = each_arc direct (λ a. a.to ≡ worker_node wave w
      → (s : ℕ) × IsAdmissible wave s w × (a ≡ arc_of wave (Pair s w))) (pair_at w known) k l

  -- only splits lead to the node of those that are not started
  waiting : (d : DirectArc) → IsWanted wave d → (arc_of wave d).to ≡ unstarted_node wave
      → ((arc_of wave d).from < length wave.splits) × ((arc_of wave d).cost ≡ reward wave)
  waiting (Pair s w) want to = absurd (let known = live_known wave w want.live in omega arith)
  waiting (Wait s) want to = (pending_known wave s want, refl)
  waiting _ want to = absurd (omega arith)

  -- no arc leads to a split
  no_split : (d : DirectArc) → IsWanted wave d → length wave.splits ≤ (arc_of wave d).to
  no_split (Pair s w) want = omega arith
  no_split _ want = omega arith

  is_sound : (s w k : ℕ) → IsUsable wave.workers w → k < length arcs → (arc_at arcs k).from ≡ s
      → Contains (way_of (direct_nodes wave) w) (arc_at arcs k).to
      → IsAdmissible wave s w × (unwrap_or (cost wave s w) 0 ≤ (arc_at arcs k).cost)
  is_sound s w k u l from on =
      let pair = own_pair k w l (live_known wave w u.0) (sym (Contains-one (worker_node wave w) _ on)) in
      let own : pair.0 ≡ s = sym (ap (λ (b : FlowArc). b.from) pair.2) ∙ from in
      let fee = ap (λ (b : FlowArc). b.cost) pair.2 in
      let same : unwrap_or (cost wave pair.0 w) 0 ≡ unwrap_or (cost wave s w) 0 =
      ap (λ (x : ℕ). unwrap_or (cost wave x w) 0) own in
      (subst (λ (x : ℕ). IsAdmissible wave x w) own pair.1, omega (arith, fee, same))

  is_complete : (s w : ℕ) → IsAdmissible wave s w →
      (k : ℕ) × IsOffer arcs s (way_of (direct_nodes wave) w) (unwrap_or (cost wave s w) 0) k
  is_complete s w may =
      let f = the_arc direct (Pair s w) may in
      let arc = f.1 in (
        f.0,
        record {
          listed = arc.listed;
          from_is = arc.from_is;
          on_way = subst (Contains (worker_node wave w ∷ [])) (sym arc.to_is) (Contains-here [] _);
          one = arc.capacity_is;
          at_most = (let fee = arc.cost_is in omega arith);
        },
      )

  -- a worker is left by its one arc
  slot_room : (w : ℕ) → w < length wave.workers → outroom arcs (worker_node wave w) ≡ (worker_at wave w).free
  slot_room w known =
      let f = the_arc direct (Slot w) known in
      let slot = f.1 in
      outroom-one arcs (worker_node wave w) (sink_node wave) (worker_at wave w).free direct.rising
      (each_arc direct (λ a. a.from ≡ worker_node wave w
      → (a.to ≡ sink_node wave) × (a.capacity ≡ (worker_at wave w).free))
      (λ d want from. let is = ap (arc_of wave) (own_slot wave w known d want from) in
      (ap (λ (a : FlowArc). a.to) is, ap (λ (a : FlowArc). a.capacity) is)))
      (f.0, slot.listed, slot.from_is, slot.to_is)

  -- the splits' arcs alone have costs
  is_free : (d : DirectArc) → IsWanted wave d → length wave.splits ≤ (arc_of wave d).from
      → (arc_of wave d).cost ≡ 0
  is_free (Pair s w) want past = absurd (let known = pending_known wave s want.pending in omega arith)
  is_free (Wait s) want past = absurd (let known = pending_known wave s want in omega arith)
  is_free _ want past = refl

  pub wave_network : IsWaveNetwork wave (direct_nodes wave) arcs
  wave_network = record {
    past_splits = omega arith;
    no_entry = each_arc direct (λ a. length wave.splits ≤ a.to) no_split;
    free = each_arc direct (λ a. length wave.splits ≤ a.from → a.cost ≡ 0) is_free;
    ways = λ w u. (let known = live_known wave w u.0 in (
      record { no_source = omega arith; no_sink = λ e. omega arith },
      λ k l to. (let pair = own_pair k w l known to in
          let source = pending_known wave pair.0 pair.1.pending in
          let from = ap (λ (b : FlowArc). b.from) pair.2 in omega arith),
    ));
    closed = λ w k known n l to. (let pair = own_pair k w l known to in n (pair.1.live, pair.1.has_slot));
    known = λ w. omega arith;
    own = λ v w e. omega arith;
    sound = λ s w k known u l from among. is_sound s w k u l from among;
    complete = is_complete;
    wait = λ s p. the_arc direct (Wait s) p;
    waiting = each_arc direct (λ a. a.to ≡ unstarted_node wave
        → (a.from < length wave.splits) × (a.cost ≡ reward wave)) waiting;
    rest = (let f = the_arc direct Rest tt in (f.0, (arc_of wave Rest).capacity, f.1, omega arith));
    apart = apart_from;
    rest_inner = record { no_source = omega arith; no_sink = λ e. omega arith };
    slot = λ w u. the_arc direct (Slot w) (live_known wave w u.0);
    slots = λ w u. slot_room w (live_known wave w u.0);
  }
    where
      apart_from : (w : ℕ) → IsUsable wave.workers w
          → Contains (way_of (direct_nodes wave) w) (unstarted_node wave) → ⊥
      apart_from w u on =
          let known = live_known wave w u.0 in
          let same : worker_node wave w ≡ unstarted_node wave = Contains-one _ _ on in omega arith

  is_onward : (d : DirectArc) → IsWanted wave d → (arc_of wave d).from < (arc_of wave d).to
  is_onward (Pair s w) want = let known = pending_known wave s want.pending in omega arith
  is_onward (Wait s) want = let known = pending_known wave s want in omega arith
  is_onward _ want = omega arith

  -- what each arc leaves, and what it enters
  leaving : (d : DirectArc) → IsWanted wave d → Leaves wave (length wave.splits) (arc_of wave d)
  leaving (Pair s w) want =
      inl (inl want.pending, λ t. (let known = live_known wave w want.live in omega arith))
  leaving (Wait s) want = inl (inl want, λ t. omega arith)
  leaving (Slot w) want = inr (refl, inr (w, want, refl))
  leaving Rest want = inr (refl, inl refl)

  entering : (d : DirectArc) → IsWanted wave d → Enters wave (length wave.splits) (arc_of wave d)
  entering (Pair s w) want = inl (w, live_known wave w want.live, refl)
  entering (Wait s) want = inr (inl refl)
  entering (Slot w) want = inr (inr (inr refl))
  entering Rest want = inr (inr (inr refl))

  pub is_layered : IsLayered wave (length wave.splits) arcs
  is_layered = record {
    past_splits = omega arith;
    onward = rising_ends arcs direct.rising (each_arc direct (λ a. a.from < a.to) is_onward);
    no_entry = wave_network.no_entry;
    leaves = each_arc direct (Leaves wave (length wave.splits)) leaving;
    enters = each_arc direct (Enters wave (length wave.splits)) entering;
  }
