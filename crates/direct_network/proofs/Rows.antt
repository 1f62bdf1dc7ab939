-- The rows of the direct network are built arc by arc.
use Rattle.std.proofs.Common.{◌≡◌, ℕ, ◌+◌, ◌<◌, ◌≤◌, true, false, length, get_or, refl, sym, ap, ◌∙◌}
use Rattle.std.proofs.Common.{subst, ◌⊎◌, inl, inr, arith}
use Rattle.std.proofs.lemmas.Bool.{false≢true}
use Rattle.flow_network.specs.Flow.{Flow}
use Rattle.wave_problem.specs.Wave.{Wave, IsAdmissible, split_at}
use Rattle.wave_problem.proofs.Bound.{pending_known, live_known}
use Rattle.network_prices.specs.Building.{IsAdded}
use Rattle.network_prices.proofs.Rows.{IsRow, row_last, row_end, rows_all}
use Rattle.direct_network.specs.declared.layout.DirectLayout.{DirectLayout}
use Rattle.direct_network.specs.declared.arcs.DirectArc.{DirectArc}
use Rattle.direct_network.specs.declared.arcs.DirectArc.TheVariants.{Pair, Wait, Slot, Rest}
use Rattle.direct_network.specs.Direct.{worker_node, unstarted_node, arc_of, IsWanted, IsDirect}
use Rattle.direct_network.specs.Build.{IsBuilt}

module _ (wave : Wave) where
  -- the row of a split: its arcs to workers, and the last
  pub pairs : (s : ℕ) → s < length wave.splits
      → IsRow (IsWanted wave) (arc_of wave) s (length wave.splits) (length wave.workers) (Pair s)
      (IsAdmissible wave s)
  pairs s split = record { here = λ w may. (may, refl, refl); only = only }
    where
      only : (e : DirectArc) → IsWanted wave e → (arc_of wave e).from ≡ s
          → length wave.splits ≤ (arc_of wave e).to
          → (arc_of wave e).to < length wave.splits + length wave.workers
          → (w : ℕ) × IsAdmissible wave s w × (e ≡ Pair s w)
      only (Pair q w) want from low high =
          (w, subst (λ (z : ℕ). IsAdmissible wave z w) from want, ap (λ (z : ℕ). Pair z w) from)
      only _ want from low high = absurd (omega arith)

  waits : (s : ℕ) → s < length wave.splits → (e : DirectArc) → IsWanted wave e → (arc_of wave e).from ≡ s
      → unstarted_node wave ≤ (arc_of wave e).to → e ≡ Wait s
  waits s split (Pair q w) want from low = absurd (let known = live_known wave w want.live in omega arith)
  waits s split (Wait q) want from low = ap Wait from
  waits s split _ want from low = absurd (omega arith)

  pub wait_step : (s limit next : ℕ) (old new : Flow DirectLayout) → limit < next → s < length wave.splits
      → (split_at wave s).pending ≡ true
      → IsBuilt wave s (worker_node wave (length wave.workers)) limit old
      → IsAdded (arc_of wave (Wait s)) old new → IsBuilt wave (s + 1) 0 next new
  wait_step s limit next old new less split pending =
      row_last s (s + 1) (unstarted_node wave) limit next (Wait s) old new refl less pending refl
      (omega arith)
      (λ e want from low. ap (arc_of wave) (waits s split e want from low))

  pub wait_skip : (s limit next : ℕ) (network : Flow DirectLayout) → limit ≤ next → s < length wave.splits
      → (split_at wave s).pending ≡ false
      → IsBuilt wave s (worker_node wave (length wave.workers)) limit network
      → IsBuilt wave (s + 1) 0 next network
  wait_skip s limit next network less split idle =
      row_end s (s + 1) (unstarted_node wave) limit next network refl less
      (λ e want from low. false≢true (sym idle ∙ subst (IsWanted wave) (waits s split e want from low) want))

  -- the row of a worker
  pub own_slot : (j : ℕ) → j < length wave.workers → (e : DirectArc) → IsWanted wave e
      → (arc_of wave e).from ≡ worker_node wave j → e ≡ Slot j
  own_slot j known (Pair q v) want from =
      absurd (let split = pending_known wave q want.pending in omega arith)
  own_slot j known (Wait q) want from = absurd (let split = pending_known wave q want in omega arith)
  own_slot j known (Slot v) want from = ap Slot (let is : v ≡ j = omega arith in is)
  own_slot j known Rest want from = absurd (omega arith)

  pub slot_step : (j w limit next : ℕ) (old new : Flow DirectLayout) → w ≡ j → limit < next
      → w < length wave.workers → IsBuilt wave (worker_node wave j) 0 limit old
      → IsAdded (arc_of wave (Slot w)) old new → IsBuilt wave (worker_node wave (j + 1)) 0 next new
  slot_step j w limit next old new same less known =
      row_last (worker_node wave j) (worker_node wave (j + 1)) 0 limit next (Slot w) old new (omega arith)
      less known (omega arith) (omega arith)
      (λ e want from low. ap (arc_of wave) (own_slot j (omega arith) e want from ∙ ap Slot (sym same)))

  -- the last row
  before_rest : (e : DirectArc) → IsWanted wave e → ((arc_of wave e).from < unstarted_node wave) ⊎ (e ≡ Rest)
  before_rest (Pair q w) want = let known = pending_known wave q want.pending in inl (omega arith)
  before_rest (Wait q) want = let known = pending_known wave q want in inl (omega arith)
  before_rest (Slot w) want = inl (omega arith)
  before_rest Rest want = inr refl

  pub all_arcs : (limit next : ℕ) (old new : Flow DirectLayout) → limit < next
      → IsBuilt wave (unstarted_node wave) 0 limit old → IsAdded (arc_of wave Rest) old new
      → IsDirect wave new.arcs × ((k : ℕ) → get_or new.flows k 0 ≡ 0)
  all_arcs limit next old new less =
      rows_all (unstarted_node wave) limit next Rest old new less tt refl before_rest
