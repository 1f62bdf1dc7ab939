-- The rows of the rack network are built arc by arc.
use Rattle.std.proofs.Common.{◌≡◌, ℕ, suc, ◌+◌, ◌-◌, ◌<◌, ◌≤◌, true, false, [], length, get_or, refl, sym}
use Rattle.std.proofs.Common.{ap, ◌∙◌, subst, ◌⊎◌, inl, inr, arith}
use Rattle.std.proofs.lemmas.Bool.{false≢true}
use Rattle.flow_network.specs.Flow.{Flow}
use Rattle.wave_problem.specs.Wave.{Wave, IsAdmissible, split_at}
use Rattle.wave_problem.proofs.Bound.{pending_known, live_known}
use Rattle.network_prices.specs.Building.{IsAdded}
use Rattle.network_prices.specs.Tables.{AreRows}
use Rattle.network_prices.proofs.Tables.{built_nothing}
use Rattle.network_prices.proofs.Rows.{IsRow, row_last, row_end, rows_all}
use Rattle.rack_network.specs.declared.layout.RackLayout.{RackLayout}
use Rattle.rack_network.specs.declared.arcs.RackArc.{RackArc}
use Rattle.rack_network.specs.declared.arcs.RackArc.TheVariants.{Pair, Reach, Wait, Down, Slot, Rest}
use Rattle.rack_network.specs.Racks.{count, start, node, parent, unstarted_node, sink_node}
use Rattle.rack_network.specs.Racks.{HasBars, IsDown, IsReach, arc_of, IsSized, IsWanted}
use Rattle.rack_network.specs.Build.{IsBuiltWithin}
use Rattle.rack_network.proofs.Heights.{level_in, one_node}

module _ (wave : Wave) where
  abbrev Row : ℕ → ℕ → ℕ → (ℕ → RackArc) → (ℕ → Type 0) → Type 0
  Row = IsRow (IsWanted wave) (arc_of wave)

  pub nothing_built : (network : Flow RackLayout) → IsSized wave network.layout → network.arcs ≡ []
      → network.flows ≡ [] → IsBuiltWithin wave 0 0 0 network
  nothing_built network fits arcs flows =
      built_nothing (IsWanted wave) (arc_of wave) (IsSized wave) network fits arcs flows

  -- each arc leads past the splits, and from a place below the sink to one that is no later
  pub inside : (d : RackArc) → IsWanted wave d → ((arc_of wave d).from < sink_node wave)
      × (length wave.splits ≤ (arc_of wave d).to) × ((arc_of wave d).to ≤ sink_node wave)
  inside (Pair s w) want =
      let split = pending_known wave s want.0.pending in
      let worker = live_known wave w want.0.live in (omega arith, omega arith, omega arith)
  inside (Reach s level i) want =
      let split = pending_known wave s want.pending in
      let known = want.known in let at = level_in wave level in let low = at.0 in let high = at.1 in
      (omega arith, omega arith, omega arith)
  inside (Wait s) want = let split = pending_known wave s want in (omega arith, omega arith, omega arith)
  inside (Down level i) want =
      let known = want.known in let at = level_in wave level in let low = at.0 in let high = at.1 in
      let hangs = want.hangs in let up = (level_in wave (suc level)).1 in
      (omega arith, omega arith, omega arith)
  inside (Slot w) want = let worker : w < length wave.workers = want in (omega arith, omega arith, omega arith)
  inside Rest want = (omega arith, omega arith, omega arith)

  -- the row of a split with a barred pair
  pub pairs : (s : ℕ) → s < length wave.splits → HasBars wave s
      → Row s (start wave 0) (length wave.workers) (Pair s) (IsAdmissible wave s)
  pairs s split bars = record { here = λ w may. ((may, bars), refl, refl); only = only }
    where
      only : (e : RackArc) → IsWanted wave e → (arc_of wave e).from ≡ s → start wave 0 ≤ (arc_of wave e).to
          → (arc_of wave e).to < start wave 0 + length wave.workers
          → (w : ℕ) × IsAdmissible wave s w × (e ≡ Pair s w)
      only (Pair q w) want from low high =
          (w, subst (λ (z : ℕ). IsAdmissible wave z w) from want.0, ap (λ (z : ℕ). Pair z w) from)
      only (Reach q level i) want from low high =
          absurd (want.no_bars (subst (HasBars wave) (sym from) bars))
      only (Down level i) want from low high =
          absurd (let up = (level_in wave (suc level)).0 in omega arith)
      only _ want from low high = absurd (omega arith)

  pub pairs_past : (s : ℕ) → s < length wave.splits → HasBars wave s → (e : RackArc) → IsWanted wave e
      → (arc_of wave e).from ≡ s → start wave 0 ≤ (arc_of wave e).to
  pairs_past s split bars (Reach q level i) want from =
      absurd (want.no_bars (subst (HasBars wave) (sym from) bars))
  pairs_past s split bars (Down level i) want from =
      absurd (let up = (level_in wave (suc level)).0 in omega arith)
  pairs_past s split bars _ want from = omega arith

  -- the row of another, level by level
  pub reaches : (s level : ℕ) → s < length wave.splits → (HasBars wave s → ⊥)
      → Row s (start wave level) (count wave level) (Reach s level) (IsReach wave s level)
  reaches s level split no_bars = record { here = λ i reach. (reach, refl, refl); only = only }
    where
      only : (e : RackArc) → IsWanted wave e → (arc_of wave e).from ≡ s → start wave level ≤ (arc_of wave e).to
          → (arc_of wave e).to < start wave level + count wave level
          → (i : ℕ) × IsReach wave s level i × (e ≡ Reach s level i)
      only (Pair q w) want from low high = absurd (no_bars (subst (HasBars wave) from want.1))
      only (Reach q m i) want from low high =
          let same = one_node wave m level i (node wave m i - start wave level) want.known (omega arith)
          (omega arith) in
          let level_is = same.0 in (
            i,
            subst (λ (z : ℕ). IsReach wave z level i) from
                (subst (λ (l : ℕ). IsReach wave q l i) level_is want),
            ap (λ (z : ℕ). Reach z m i) from ∙ ap (λ (l : ℕ). Reach s l i) level_is,
          )
      only (Wait q) want from low high = absurd (let at = (level_in wave level).1 in omega arith)
      only (Down m i) want from low high = absurd (let up = (level_in wave (suc m)).0 in omega arith)
      only _ want from low high = absurd (let at = (level_in wave level).0 in omega arith)

  -- the row of a split ends with the arc by which it waits
  own_wait : (s : ℕ) → s < length wave.splits → (e : RackArc) → IsWanted wave e
      → (arc_of wave e).from ≡ s → unstarted_node wave ≤ (arc_of wave e).to
      → arc_of wave e ≡ arc_of wave (Wait s)
  own_wait s split (Pair q w) want from low =
      absurd (let known = live_known wave w want.0.live in omega arith)
  own_wait s split (Reach q level i) want from low =
      absurd (let known = want.known in let at = (level_in wave level).1 in omega arith)
  own_wait s split (Wait q) want from low = ap (λ (z : ℕ). arc_of wave (Wait z)) from
  own_wait s split (Down level i) want from low =
      absurd (let up = (level_in wave (suc level)).0 in omega arith)
  own_wait s split _ want from low = absurd (omega arith)

  pub wait_step : (s limit next : ℕ) (old new : Flow RackLayout) → limit < next → s < length wave.splits
      → (split_at wave s).pending ≡ true → IsBuiltWithin wave s (unstarted_node wave) limit old
      → IsAdded (arc_of wave (Wait s)) old new → IsBuiltWithin wave (s + 1) 0 next new
  wait_step s limit next old new less split pending =
      row_last s (s + 1) (unstarted_node wave) limit next (Wait s) old new refl less pending refl
      (omega arith) (own_wait s split)

  -- the row of a split that is not pending
  pub idle_row : (s limit next : ℕ) (network : Flow RackLayout) → limit ≤ next → s < length wave.splits
      → (split_at wave s).pending ≡ false → IsBuiltWithin wave s 0 limit network
      → IsBuiltWithin wave (s + 1) 0 next network
  idle_row s limit next network less split idle =
      row_end s (s + 1) 0 limit next network refl less (λ e want from low. none e want from)
    where
      never : (q : ℕ) → q ≡ s → (split_at wave q).pending ≡ true → ⊥
      never q e p = false≢true (sym idle ∙ ap (λ (z : ℕ). (split_at wave z).pending) (sym e) ∙ p)

      none : (e : RackArc) → IsWanted wave e → (arc_of wave e).from ≡ s → ⊥
      none (Pair q w) want from = never q from want.0.pending
      none (Reach q level i) want from = never q from want.pending
      none (Wait q) want from = never q from want
      none (Down level i) want from = let up = (level_in wave (suc level)).0 in omega arith
      none _ want from = omega arith

  -- the row of a node from which others hang
  pub own_down : (level j : ℕ) → j < count wave (suc level) → (e : RackArc) → IsWanted wave e
      → (arc_of wave e).from ≡ node wave (suc level) j
      → (i : ℕ) × (IsDown wave level i × (parent wave level i ≡ j)) × (e ≡ Down level i)
  own_down level j known (Pair q w) want from =
      absurd (let split = pending_known wave q want.0.pending in
      let at = (level_in wave (suc level)).0 in omega arith)
  own_down level j known (Reach q m i) want from =
      absurd (let split = pending_known wave q want.pending in
      let at = (level_in wave (suc level)).0 in omega arith)
  own_down level j known (Wait q) want from =
      absurd (let split = pending_known wave q want in let at = (level_in wave (suc level)).0 in omega arith)
  own_down level j known (Down m i) want from =
      let same = one_node wave (suc m) (suc level) (parent wave m i) j want.hangs known from in
      let level_is : m ≡ level = (let up = same.0 in omega arith) in (
        i,
        (
          subst (λ (l : ℕ). IsDown wave l i) level_is want,
          subst (λ (l : ℕ). parent wave l i ≡ j) level_is same.1,
        ),
        ap (λ (l : ℕ). Down l i) level_is,
      )
  own_down level j known (Slot w) want from =
      absurd (let same = (one_node wave 0 (suc level) w j want known from).0 in omega arith)
  own_down level j known Rest want from =
      absurd (let at = (level_in wave (suc level)).1 in omega arith)

  pub downs : (level j : ℕ) → j < count wave (suc level)
      → Row (node wave (suc level) j) (start wave level) (count wave level) (Down level)
      (λ i. IsDown wave level i × (parent wave level i ≡ j))
  downs level j known = record {
    here = λ i own. (own.0, ap (node wave (suc level)) own.1, refl);
    only = λ e want from low high. own_down level j known e want from;
  }

  pub downs_inside : (level j : ℕ) → j < count wave (suc level) → (e : RackArc) → IsWanted wave e
      → (arc_of wave e).from ≡ node wave (suc level) j
      → (start wave level ≤ (arc_of wave e).to) × ((arc_of wave e).to < start wave level + count wave level)
  downs_inside level j known e want from =
      let o = own_down level j known e want from in
      let in_level = o.1.0.known in let to = ap (λ (d : RackArc). (arc_of wave d).to) o.2 in
      (omega arith, omega arith)

  -- the row of a worker
  pub own_slot : (j : ℕ) → j < length wave.workers → (e : RackArc) → IsWanted wave e
      → (arc_of wave e).from ≡ node wave 0 j → e ≡ Slot j
  own_slot j known (Pair q v) want from =
      absurd (let split = pending_known wave q want.0.pending in omega arith)
  own_slot j known (Reach q level i) want from =
      absurd (let split = pending_known wave q want.pending in omega arith)
  own_slot j known (Wait q) want from = absurd (let split = pending_known wave q want in omega arith)
  own_slot j known (Down level i) want from =
      absurd (let same = (one_node wave (suc level) 0 (parent wave level i) j want.hangs known from).0 in
      omega arith)
  own_slot j known (Slot v) want from = ap Slot (let is : v ≡ j = omega arith in is)
  own_slot j known Rest want from = absurd (omega arith)

  pub slot_step : (j w limit next : ℕ) (old new : Flow RackLayout) → limit < next → w ≡ j
      → w < length wave.workers → IsBuiltWithin wave (node wave 0 j) 0 limit old
      → IsAdded (arc_of wave (Slot w)) old new → IsBuiltWithin wave (node wave 0 (j + 1)) 0 next new
  slot_step j w limit next old new less same known =
      row_last (node wave 0 j) (node wave 0 (j + 1)) 0 limit next (Slot w) old new (omega arith)
      less known (omega arith) (omega arith)
      (λ e want from low. ap (arc_of wave) (own_slot j (omega arith) e want from ∙ ap Slot (sym same)))

  -- the last row
  pub before_rest : (e : RackArc) → IsWanted wave e
      → ((arc_of wave e).from < unstarted_node wave) ⊎ (e ≡ Rest)
  before_rest (Pair q w) want = let known = pending_known wave q want.0.pending in inl (omega arith)
  before_rest (Reach q level i) want = let known = pending_known wave q want.pending in inl (omega arith)
  before_rest (Wait q) want = let known = pending_known wave q want in inl (omega arith)
  before_rest (Down level i) want =
      let hangs = want.hangs in let up = (level_in wave (suc level)).1 in inl (omega arith)
  before_rest (Slot w) want = inl (omega arith)
  before_rest Rest want = inr refl

  pub all_arcs : (limit next : ℕ) (old new : Flow RackLayout) → limit < next
      → IsBuiltWithin wave (unstarted_node wave) 0 limit old → IsAdded (arc_of wave Rest) old new
      → AreRows (IsWanted wave) (arc_of wave) new.arcs × ((k : ℕ) → get_or new.flows k 0 ≡ 0)
  all_arcs limit next old new less =
      rows_all (unstarted_node wave) limit next Rest old new less tt refl before_rest
