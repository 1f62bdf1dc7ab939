-- The rack network is a network of its wave.
use Rattle.std.proofs.Common.{◌≡◌, ℕ, zero, suc, ◌+◌, ◌*◌, ◌<◌, ◌≤◌, Bool, true, false, cond, eqb, [], ◌∷◌, List}
use Rattle.std.proofs.Common.{length, refl, sym, ap, ◌∙◌, subst, inl, inr, ◌⊎◌, arith, unwrap_or, Contains}
use Rattle.std.proofs.lemmas.Bool.{cases_Bool, cases_eq, cases_lt, eq-eqb, ne_eqb, lt-ltb, le-ltb, false≢true}
use Rattle.std.proofs.Math.Nat.{mul-le-mul_left}
use Rattle.node_ids.specs.Sets.{HasPair, has_pair}
use Rattle.flow_network.specs.declared.arcs.FlowArc.{FlowArc}
use Rattle.flow_network.specs.Flows.{arc_at}
use Rattle.flow_network.specs.Laws.{outroom}
use Rattle.wave_problem.specs.Sums.{sum_below}
use Rattle.wave_problem.specs.Wave.{Wave, IsAdmissible, split_at, worker_at, cost, reward, IsUsable}
use Rattle.wave_problem.proofs.Bound.{pending_known, live_known}
use Rattle.wave_problem.proofs.Grouping.{sum_below-add, sum_below-one, sum_below-same, sum_below-zero}
use Rattle.network_prices.specs.Ways.{IsFed, IsInner, IsWay}
use Rattle.network_prices.specs.Networks.{way_of, IsOffer, IsWaveNetwork}
use Rattle.network_prices.proofs.Tables.{each_arc, the_arc, outroom-one}
use Rattle.network_prices.proofs.Rows.{outroom-row}
use Rattle.rack_network.specs.declared.arcs.RackArc.{RackArc}
use Rattle.rack_network.specs.declared.arcs.RackArc.TheVariants.{Pair, Reach, Wait, Down, Slot, Rest}
use Rattle.rack_network.specs.Places.{one_cluster, several}
use Rattle.rack_network.specs.Racks.{count, node, parent, above, unstarted_node, sink_node, slots_of}
use Rattle.rack_network.specs.Racks.{slots, rack_nodes, above_centres, HasBars, IsDown, arc_of}
use Rattle.rack_network.specs.Racks.{IsWanted, IsRackNetwork}
use Rattle.rack_network.proofs.Distances.{live_holder, holder_of, holder_live, holder_held, cost-le, cost_is}
use Rattle.rack_network.proofs.Distances.{distance-le}
use Rattle.rack_network.proofs.Heights.{four_levels, level_in, one_node, above_in, among_at, among_level}
use Rattle.rack_network.proofs.Heights.{hang_low, next_level, own_level, level_of}
use Rattle.rack_network.proofs.Rows.{downs, downs_inside, own_slot, inside}

-- a sum over the nodes that hang from one, each of them of its workers' slots, is one over the workers under it
cond_none : (b : Bool) → ◌≡◌ {A = ℕ} (cond b 0 0) 0
cond_none true = refl
cond_none false = refl

cond-add : (b d : Bool) (x y : ℕ) → cond b (x + cond d y 0) 0 ≡ cond b x 0 + cond d (cond b y 0) 0
cond-add true d x y = refl
cond-add false true x y = refl
cond-add false false x y = refl

by_children : (wave : Wave) (level i m : ℕ)
    → ((w : ℕ) → w < m → above wave level w < count wave level)
    → sum_below (count wave level) (λ j. cond (eqb (parent wave level j) i) (slots wave m level j) 0)
    ≡ slots wave m (suc level) i
by_children wave level i zero known = search (arith, sum_below-same, cond_none, sum_below-zero)
by_children wave level i (suc m) known =
    let n : ℕ = count wave level in
    let hangs : ℕ → Bool = λ j. eqb (parent wave level j) i in
    let own : ℕ → Bool = λ j. eqb (above wave level m) j in
    let rest = by_children wave level i m (λ w l. known w (omega arith)) in
    let part = sum_below-same n (λ j. cond (hangs j) (slots wave (suc m) level j) 0)
    (λ j. cond (hangs j) (slots wave m level j) 0 + cond (own j) (cond (hangs j) (slots_of wave m) 0) 0)
    (λ j k. cond-add (hangs j) (own j) (slots wave m level j) (slots_of wave m)) in
    let both = sum_below-add n (λ j. cond (hangs j) (slots wave m level j) 0)
    (λ j. cond (own j) (cond (hangs j) (slots_of wave m) 0) 0) in
    let one = sum_below-one n (above wave level m) (λ j. cond (hangs j) (slots_of wave m) 0)
    (known m (omega arith)) in
    omega (arith, rest, part, both, one)

-- under a worker's own node stands that worker alone
own_slots : (wave : Wave) (w n : ℕ) → w < n → slots wave n 0 w ≡ slots_of wave w
own_slots wave w n known =
    sum_below-same n (λ v. cond (eqb v w) (slots_of wave v) 0) (λ v. cond (eqb w v) (slots_of wave v) 0)
    (λ v l. elim (cases_eq v w) [
      | inl e ↦ rw (eq-eqb v w e, eq-eqb w v (sym e)) refl
      | inr d ↦ rw (ne_eqb v w d, ne_eqb w v (λ e. d (sym e))) refl
    ])
    ∙ sum_below-one n w (slots_of wave) known

-- whether a split has a barred pair
bars_below : (wave : Wave) (s n : ℕ) → n ≤ length wave.workers
    → HasBars wave s ⊎ ((w : ℕ) → w < n → HasPair wave.barred s w → ⊥)
bars_below wave s zero l = inr (λ w m b. absurd (omega arith))
bars_below wave s (suc n) l = elim (bars_below wave s n (omega arith)) [
  | inl b ↦ inl b
  | inr none ↦ elim (cases_Bool (has_pair wave.barred s n)) [
    | inl here ↦ inl (n, omega arith, here)
    | inr free ↦ inr (λ w m b. elim (cases_eq w n) [
      | inl e ↦ false≢true (sym free ∙ subst (λ (x : ℕ). HasPair wave.barred s x) e b)
      | inr d ↦ none w (omega arith) b
    ])
  ]
]

pub bars_or_not : (wave : Wave) (s : ℕ) → HasBars wave s ⊎ (HasBars wave s → ⊥)
bars_or_not wave s = elim (bars_below wave s (length wave.workers) (omega arith)) [
  | inl b ↦ inl b
  | inr none ↦ inr (λ b. none b.0 b.1 b.2)
]

module _ (wave : Wave) (arcs : List FlowArc) (network : IsRackNetwork wave arcs) where
  -- what leads to a node of the tree comes from a split, or from the node above it without cost
  abbrev FromAbove : ℕ → ℕ → FlowArc → Type 0
  FromAbove level i a = (a.from < length wave.splits) ⊎ (IsDown wave level i
      × (a.from ≡ node wave (suc level) (parent wave level i)) × (a.cost ≡ 0))

  to_node : (level i : ℕ) → i < count wave level → (d : RackArc) → IsWanted wave d
      → (arc_of wave d).to ≡ node wave level i → FromAbove level i (arc_of wave d)
  to_node level i k (Pair s w) d t = inl (pending_known wave s d.0.pending)
  to_node level i k (Reach s m j) d t = inl (pending_known wave s d.pending)
  to_node level i k (Wait s) d t = inl (pending_known wave s d)
  to_node level i k (Down m j) d t =
      let same = one_node wave m level j i d.known k t in
      inr (
        subst (λ (l : ℕ). IsDown wave l i) same.0 (subst (IsDown wave m) same.1 d),
        ap (λ (l : ℕ). node wave (suc l) (parent wave l j)) same.0
            ∙ ap (λ (x : ℕ). node wave (suc level) (parent wave level x)) same.1,
        refl,
      )
  to_node level i k _ d t = absurd (let at = (level_in wave level).1 in omega arith)

  from_above : (level i : ℕ) → i < count wave level → (k : ℕ) → k < length arcs
      → (arc_at arcs k).to ≡ node wave level i → FromAbove level i (arc_at arcs k)
  from_above level i known =
      each_arc network.rows (λ a. a.to ≡ node wave level i → FromAbove level i a) (to_node level i known)

  -- only splits lead to the node of those that are not started
  to_unstarted : (d : RackArc) → IsWanted wave d → (arc_of wave d).to ≡ unstarted_node wave
      → ((arc_of wave d).from < length wave.splits) × ((arc_of wave d).cost ≡ reward wave)
  to_unstarted (Pair s v) d t = absurd (let known = live_known wave v d.0.live in omega arith)
  to_unstarted (Reach s level i) d t =
      absurd (let known = d.known in let at = (level_in wave level).1 in omega arith)
  to_unstarted (Wait s) d t = (pending_known wave s d, refl)
  to_unstarted (Down level i) d t =
      absurd (let known = d.known in let at = (level_in wave level).1 in omega arith)
  to_unstarted _ d t = absurd (omega arith)

  -- a worker to which an arc leads is usable
  usable_there : (w : ℕ) → w < length wave.workers → (d : RackArc) → IsWanted wave d
      → (arc_of wave d).to ≡ node wave 0 w → IsUsable wave.workers w
  usable_there w k (Pair s v) d t =
      subst (IsUsable wave.workers) (let same : v ≡ w = omega arith in same) (d.0.live, d.0.has_slot)
  usable_there w k (Reach s level i) d t =
      let same = one_node wave level 0 i w d.known k t in
      let h = d.below in
      let own : h.0 ≡ w = subst (λ (l : ℕ). above wave l h.0 ≡ i) same.0 h.2.under ∙ same.1 in
      subst (IsUsable wave.workers) own (h.2.live, h.2.has_slot same.0)
  usable_there w k (Down level i) d t =
      let same = one_node wave level 0 i w d.known k t in
      subst (IsUsable wave.workers) same.1 (d.usable same.0)
  usable_there w k _ d t = absurd (omega arith)

  -- the node of the splits that are not started is on no way
  unstarted_off : (w : ℕ) → w < length wave.workers
      → Contains (way_of (rack_nodes wave) w) (unstarted_node wave) → ⊥
  unstarted_off w known among =
      let on = among_level wave network.tree (unstarted_node wave) w among in
      let is = on.2 in
      let below = above_in wave network.tree on.0 w on.1 known in
      let at = (level_in wave on.0).1 in omega arith

  -- an arc of a split to a node of a worker's way
  abbrev IsSound : ℕ → ℕ → FlowArc → Type 0
  IsSound s w a = a.from ≡ s → Contains (way_of (rack_nodes wave) w) a.to
      → IsAdmissible wave s w × (unwrap_or (cost wave s w) 0 ≤ a.cost)

  is_sound : (s w : ℕ) → s < length wave.splits → IsUsable wave.workers w → (d : RackArc) → IsWanted wave d
      → IsSound s w (arc_of wave d)
  is_sound s w k u (Pair t v) d split among =
      let worker : v ≡ w = own_level wave network.tree 0 v w (live_known wave v d.0.live)
      (live_known wave w u.0) among in
      let same : unwrap_or (cost wave t v) 0 ≡ unwrap_or (cost wave s w) 0 =
      ap (λ (x : ℕ). unwrap_or (cost wave x v) 0) split
      ∙ ap (λ (x : ℕ). unwrap_or (cost wave s x) 0) worker in (
        subst (IsAdmissible wave s) worker (subst (λ (x : ℕ). IsAdmissible wave x v) split d.0),
        omega (arith, same),
      )
  is_sound s w k u (Reach t level i) d split among =
      let h = d.below in
      let held = live_holder wave t h.0 h.1 h.2.live in
      let on = own_level wave network.tree level i w d.known (live_known wave w u.0) among in
      let near = distance-le wave h.0 w level (four_levels wave level i d.known) (h.2.under ∙ on) in
      let low = cost-le wave t w h.0 held in
      let scaled = mul-le-mul_left (split_at wave t).bytes near in
      let same : unwrap_or (cost wave t w) 0 ≡ unwrap_or (cost wave s w) 0 =
      ap (λ (x : ℕ). unwrap_or (cost wave x w) 0) split in
      let admissible : IsAdmissible wave t w = record {
        pending = d.pending;
        held = holder_held wave t h.0 held;
        live = u.0;
        has_slot = u.1;
        not_barred = λ b. d.no_bars (w, live_known wave w u.0, b);
      } in
      (subst (λ (x : ℕ). IsAdmissible wave x w) split admissible, omega (arith, same, low, scaled))
  is_sound s w k u (Wait t) d split among = absurd (unstarted_off w (live_known wave w u.0) among)
  is_sound s w k u (Down level i) d split among =
      absurd (let up = (level_in wave (suc level)).0 in omega arith)
  is_sound s w k u _ d split among = absurd (omega arith)

  -- a worker is left by its one arc
  worker_room : (w : ℕ) → w < length wave.workers
      → outroom arcs (node wave 0 w) ≡ (worker_at wave w).free
  worker_room w known =
      let f = the_arc network.rows (Slot w) known in
      let slot = f.1 in
      outroom-one arcs (node wave 0 w) (sink_node wave) (worker_at wave w).free network.rows.rising
      (each_arc network.rows (λ a. a.from ≡ node wave 0 w
      → (a.to ≡ sink_node wave) × (a.capacity ≡ (worker_at wave w).free))
      (λ d want from. let is = ap (arc_of wave) (own_slot wave w known d want from) in
      (ap (λ (a : FlowArc). a.to) is, ap (λ (a : FlowArc). a.capacity) is)))
      (f.0, slot.listed, slot.from_is, slot.to_is)

  some_slots : (w : ℕ) → 0 < slots_of wave w → IsUsable wave.workers w
  some_slots w l = elim (cases_Bool (worker_at wave w).live) [
    | inl live ↦ (live, rw live at l)
    | inr dead ↦ absurd (let none = rw dead at l in omega arith)
  ]

  -- any other node of the tree is left by the arcs to the nodes that hang from it
  inner_room : (level j : ℕ) → level < 3 → j < count wave (suc level)
      → outroom arcs (node wave (suc level) j) ≡ slots wave (length wave.workers) (suc level) j
  inner_room level j few known =
      outroom-row network.rows (downs wave level j known) (downs_inside wave level j known)
      (λ i. cond (eqb (parent wave level i) j) (slots wave (length wave.workers) level i) 0)
      (λ i own. rw (eq-eqb (parent wave level i) j own.1) refl)
      (λ i l some. elim (cases_eq (parent wave level i) j) [
        | inr other ↦ absurd (let none = rw (ne_eqb (parent wave level i) j other) at some in omega arith)
        | inl on ↦
            (let has = rw (eq-eqb (parent wave level i) j on) at some in (
              record { known = l; hangs = (let e = on in omega arith); usable = usable level i l has },
              on,
            ))
      ])
      ∙ by_children wave level j (length wave.workers)
      (λ w l. above_in wave network.tree level w (omega arith) l)
    where
      usable : (level i : ℕ) → i < count wave level → 0 < slots wave (length wave.workers) level i → level ≡ 0
          → IsUsable wave.workers i
      usable zero i l some e = (let own = own_slots wave i (length wave.workers) l in
          some_slots i (omega arith))
      usable (suc level) i l some e = absurd (omega arith)

  -- each arc leads to a later node
  pub is_onward : (d : RackArc) → IsWanted wave d → (arc_of wave d).from < (arc_of wave d).to
  is_onward (Pair s v) d = let split = pending_known wave s d.0.pending in omega arith
  is_onward (Reach s level i) d =
      let split = pending_known wave s d.pending in let low = (level_in wave level).0 in omega arith
  is_onward (Wait s) d = let split = pending_known wave s d in omega arith
  is_onward (Down level i) d =
      let hangs = d.hangs in
      let next = next_level wave level (hang_low wave level (parent wave level i) d.hangs) in omega arith
  is_onward (Slot v) d = let worker : v < length wave.workers = d in omega arith
  is_onward Rest d = omega arith

  -- what feeds a node
  room_of : (level i : ℕ) → IsDown wave level i
      → outroom arcs (node wave level i) ≡ slots wave (length wave.workers) level i
  room_of zero w d =
      let u = d.usable refl in
      let live = ap (λ (b : Bool). cond b (worker_at wave w).free 0) u.0 in
      worker_room w d.known ∙ sym (own_slots wave w (length wave.workers) d.known ∙ live)
  room_of (suc level) i d =
      inner_room level i (let l = hang_low wave (suc level) (parent wave (suc level) i) d.hangs in omega arith) d.known

  fed : (level i : ℕ) → IsDown wave level i
      → IsFed arcs (length wave.splits) (node wave (suc level) (parent wave level i)) (node wave level i)
  fed level i d =
      let f = the_arc network.rows (Down level i) d in let arc = f.1 in
      record {
        feed = f.0;
        listed = arc.listed;
        from_is = arc.from_is;
        to_is = arc.to_is;
        without_cost = arc.cost_is;
        whole = arc.capacity_is ∙ sym (room_of level i d);
        inner = (let up = (level_in wave (suc level)).0 in omega arith);
        entered = λ k l t. elim (from_above level i d.known k l t) [
          | inl split ↦ inl split
          | inr down ↦ inr (down.1, down.2)
        ];
      }

  inner : (level i : ℕ) → i < count wave level
      → IsInner (length wave.splits) (sink_node wave) (node wave level i)
  inner level i known = record {
    no_source = (let at = (level_in wave level).0 in omega arith);
    no_sink = λ e. (let at = (level_in wave level).1 in omega arith);
  }

  -- a node that hangs from none is the last on a way up
  last : (level i : ℕ) → i < count wave level → (IsDown wave level i → ⊥)
      → IsWay arcs (length wave.splits) (sink_node wave) (node wave level i ∷ [])
  last level i known top = (
    inner level i known,
    λ k l t. elim (from_above level i known k l t) [ inl split ↦ split | inr down ↦ absurd (top down.0) ],
  )

  -- the way up from a centre: to the cluster, where there are several
  way_from : (c : ℕ) → c < wave.tree.centres
      → IsWay arcs (length wave.splits) (sink_node wave) (node wave 2 c ∷ above_centres wave)
  way_from c known = elim (cases_lt 1 wave.tree.centres) [
    | inl many ↦
        (let one = one_cluster wave.tree.centres many in
        let down : IsDown wave 2 c = record { known = known; hangs = omega arith; usable = λ e. absurd (omega arith) }
        in
        subst (λ (b : Bool). IsWay arcs (length wave.splits) (sink_node wave)
        (node wave 2 c ∷ cond b (node wave 3 0 ∷ []) [])) (sym (lt-ltb 1 wave.tree.centres many))
        (inner 2 c known, fed 2 c down, last 3 0 (omega arith) (λ d. let hangs = d.hangs in omega arith)))
    | inr few ↦ subst (λ (b : Bool). IsWay arcs (length wave.splits) (sink_node wave)
        (node wave 2 c ∷ cond b (node wave 3 0 ∷ []) [])) (sym (le-ltb 1 wave.tree.centres (omega arith)))
        (last 2 c known (λ d. let hangs = d.hangs in
        let many = several wave.tree.centres (omega arith) in omega arith))
  ]

  way_up : (w : ℕ) → IsUsable wave.workers w
      → IsWay arcs (length wave.splits) (sink_node wave) (way_of (rack_nodes wave) w)
  way_up w u =
      let known = live_known wave w u.0 in
      let rack = above_in wave network.tree 1 w (omega arith) known in
      let centre = above_in wave network.tree 2 w (omega arith) known in (
        inner 0 w known,
        fed 0 w (record { known = known; hangs = rack; usable = λ e. u }),
        (
          inner 1 (above wave 1 w) rack,
          fed 1 (above wave 1 w) (record { known = rack; hangs = centre; usable = λ e. absurd (omega arith) }),
          way_from (above wave 2 w) centre,
        ),
      )

  is_complete : (s w : ℕ) → IsAdmissible wave s w
      → (k : ℕ) × IsOffer arcs s (way_of (rack_nodes wave) w) (unwrap_or (cost wave s w) 0) k
  is_complete s w a = elim (bars_or_not wave s) [
    | inl b ↦
        (let f = the_arc network.rows (Pair s w) (a, b) in let arc = f.1 in (
          f.0,
          record {
            listed = arc.listed;
            from_is = arc.from_is;
            on_way = subst (λ (x : ℕ). Contains (way_of (rack_nodes wave) w) x) (sym arc.to_is)
                (among_at wave network.tree 0 w (omega arith));
            one = arc.capacity_is;
            at_most = (let c = arc.cost_is in omega arith);
          },
        ))
    | inr n ↦
        (let near = cost_is wave s w a.held in
        let h = near.0 in
        let known = live_known wave w a.live in
        let live = holder_live wave s h near.1 in
        let meet = level_of wave network.tree h w (live_known wave h live) known in
        let level = meet.0 in
        let f = the_arc network.rows (Reach s level (above wave level w)) (record {
          pending = a.pending;
          no_bars = n;
          known = above_in wave network.tree level w meet.1 known;
          below = (
            h,
            holder_of wave s h near.1,
            record {
              live = live;
              under = meet.2;
              has_slot = slot level h w a.has_slot meet.2;
            },
          );
        }) in
        let arc = f.1 in (
          f.0,
          record {
            listed = arc.listed;
            from_is = arc.from_is;
            on_way = subst (λ (x : ℕ). Contains (way_of (rack_nodes wave) w) x) (sym arc.to_is)
                (among_at wave network.tree level w meet.1);
            one = arc.capacity_is;
            at_most = (let c = arc.cost_is in
                let same = near.2 ∙ ap (λ (x : ℕ). (split_at wave s).bytes * x) meet.3 in
                omega (arith, c, same));
          },
        ))
  ]
    where
      slot : (level h w : ℕ) → 0 < (worker_at wave w).free → above wave level h ≡ above wave level w
          → level ≡ 0 → 0 < (worker_at wave h).free
      slot zero h w free m e = subst (λ (x : ℕ). 0 < (worker_at wave x).free) (sym m) free
      slot (suc n) h w free m e = absurd (omega arith)

  -- the splits' arcs alone have costs
  is_free : (d : RackArc) → IsWanted wave d → length wave.splits ≤ (arc_of wave d).from
      → (arc_of wave d).cost ≡ 0
  is_free (Pair s w) want past = absurd (let split = pending_known wave s want.0.pending in omega arith)
  is_free (Reach s level i) want past = absurd (let split = pending_known wave s want.pending in omega arith)
  is_free (Wait s) want past = absurd (let split = pending_known wave s want in omega arith)
  is_free _ want past = refl

  pub wave_network : IsWaveNetwork wave (rack_nodes wave) arcs
  wave_network = record {
    past_splits = omega arith;
    no_entry = each_arc network.rows (λ a. length wave.splits ≤ a.to) (λ d want. (inside wave d want).1);
    free = each_arc network.rows (λ a. length wave.splits ≤ a.from → a.cost ≡ 0) is_free;
    ways = way_up;
    closed = λ w k known n l t. n (each_arc network.rows
        (λ a. a.to ≡ node wave 0 w → IsUsable wave.workers w) (usable_there w known) k l t);
    known = λ w. omega arith;
    own = λ v w e. omega arith;
    sound = λ s w k known u. each_arc network.rows (IsSound s w) (is_sound s w known u) k;
    complete = is_complete;
    wait = λ s p. the_arc network.rows (Wait s) p;
    waiting = each_arc network.rows (λ a. a.to ≡ unstarted_node wave
        → (a.from < length wave.splits) × (a.cost ≡ reward wave)) to_unstarted;
    rest = (let f = the_arc network.rows Rest tt in (f.0, (arc_of wave Rest).capacity, f.1, omega arith));
    apart = λ w u among. unstarted_off w (live_known wave w u.0) among;
    rest_inner = record { no_source = omega arith; no_sink = λ e. omega arith };
    slot = λ w u. the_arc network.rows (Slot w) (live_known wave w u.0);
    slots = λ w u. worker_room w (live_known wave w u.0);
  }
