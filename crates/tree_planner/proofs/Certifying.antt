-- Starts that are handed down are best, as there are prices that certify them.
use Rattle.std.proofs.Common.{◌≡◌, ℕ, zero, suc, ◌+◌, ◌-◌, ◌<◌, ◌∙◌, Bool, true, false, [], List, map, length}
use Rattle.std.proofs.Common.{Option, Some, None, refl, ap, subst, arith, inl, inr}
use Rattle.std.specs.List.{range_with_len}
use Rattle.std.specs.Prelude.{slice_index, unwrap_or}
use Rattle.std.proofs.lemmas.Bool.{cases_lt, false≢true}
use Rattle.std.proofs.lemmas.List.{get_or_past}
use Rattle.std.proofs.lemmas.List.FromFn.{get_or-map-range_with_len, length-map-range_with_len}
use Rattle.rack_tree.specs.Tree.{IsWithinReach}
use Rattle.wave_problem.specs.Assignment.{pairs_of, start_of, IsBest}
use Rattle.wave_problem.specs.Wave.{cost, worker_at, Wave}
use Rattle.wave_problem.proofs.Bound.{live_known}
use Rattle.price_certificate.specs.PriceList.{PriceList}
use Rattle.price_certificate.proofs.Covered.{best-plain}
use Rattle.tree_flow.specs.Nodes.{IsKnown}
use Rattle.tree_flow.specs.Settled.{deepest_above, ArePrices, IsHandedDown}
use Rattle.tree_flow.specs.State.{State}
use Rattle.tree_flow.proofs.Certified.{engine_certifies, engine_is_best}
use Rattle.tree_planner.specs.declared.tables.Tables.{Tables}
use Rattle.tree_planner.specs.Engine.{IsStanding}
use Rattle.tree_planner.specs.Handing.{AreHandedDown}
use Rattle.tree_planner.specs.Starting.{AreBestStarts}
use Rattle.tree_planner.specs.View.{state_of}
use Rattle.tree_planner.proofs.Standing.{no_rows, plain_terms}

-- the price of a worker that lives or not, has so many slots, and has its deepest node so deep above it
abbrev price_for : Bool → ℕ → ℕ → ℕ
price_for true (suc n) deep = deep
price_for true zero deep = 0
price_for false n deep = 0

price_for-usable : (live : Bool) (n deep : ℕ) → live ≡ true → 0 < n → price_for live n deep ≡ deep
price_for-usable true (suc n) deep is some = refl
price_for-usable true zero deep is some = absurd (omega arith)
price_for-usable false n deep is some = absurd (false≢true is)

price_for-unusable : (live : Bool) (n deep : ℕ) → ((live ≡ true) × (0 < n) → ⊥) → price_for live n deep ≡ 0
price_for-unusable true (suc n) deep not = absurd (not (refl, omega arith))
price_for-unusable true zero deep not = refl
price_for-unusable false n deep not = refl

module _ (wave : Wave) (state : State) (starts : List (Option ℕ)) where
  abbrev price_of_worker : ℕ → ℕ
  price_of_worker w = price_for (worker_at wave w).live (worker_at wave w).free (deepest_above wave.tree state w)

  abbrev workers : List ℕ
  workers = map price_of_worker (range_with_len 0 (length wave.workers))

  abbrev price_if : ℕ → Option ℕ → ℕ
  price_if s None = 0
  price_if s (Some w) = state.terms.worth - (slice_index workers w + unwrap_or (cost wave s w) 0)

  abbrev price_of_split : ℕ → ℕ
  price_of_split s = price_if s (start_of starts s)

  abbrev pub read_prices : PriceList
  read_prices = record {
    splits = map price_of_split (range_with_len 0 (length wave.splits));
    workers = workers;
  }

  worker_priced : (w : ℕ) → w < length wave.workers → slice_index workers w ≡ price_of_worker w
  worker_priced w l = get_or-map-range_with_len price_of_worker 0 (length wave.workers) w w 0 l (omega arith)

  split_priced : (s : ℕ) → s < length wave.splits → slice_index read_prices.splits s ≡ price_of_split s
  split_priced s l = get_or-map-range_with_len price_of_split 0 (length wave.splits) s s 0 l (omega arith)

  pub read_sizes : (length read_prices.splits ≡ length wave.splits) × (length read_prices.workers ≡ length wave.workers)
  read_sizes = (
    length-map-range_with_len price_of_split 0 (length wave.splits),
    length-map-range_with_len price_of_worker 0 (length wave.workers),
  )

  pub are_read : IsHandedDown wave state starts → ArePrices wave state starts read_prices
  are_read down = record {
    usable = λ w is. worker_priced w (live_known wave w is.0) ∙ price_for-usable _ _ _ is.0 is.1;
    unusable = λ w not. elim (cases_lt w (length wave.workers)) [
      | inl l ↦ worker_priced w l ∙ price_for-unusable _ _ _ not
      | inr past ↦ get_or_past workers w 0 (let size = read_sizes.1 in omega arith)
    ];
    started = λ s w is. elim (cases_lt s (length wave.splits)) [
      | inl l ↦ split_priced s l ∙ ap (price_if s) is
      | inr past ↦ absurd (let size = down.size in let none = get_or_past starts s None (omega arith) in cc)
    ];
    unstarted = λ s is. elim (cases_lt s (length wave.splits)) [
      | inl l ↦ split_priced s l ∙ ap (price_if s) is
      | inr past ↦ get_or_past read_prices.splits s 0 (let size = read_sizes.0 in omega arith)
    ];
  }

pub best_starts : (wave : Wave) (t : Tables) (pairs : List (ℕ × ℕ)) → IsWithinReach wave.tree → IsKnown wave
    → IsStanding wave t → AreHandedDown wave (state_of t) pairs → AreBestStarts wave pairs
best_starts wave t pairs near known s h =
    let state = state_of t in
    let starts = h.planned.starts in
    let prices = read_prices wave state starts in
    let sizes = read_sizes wave state starts in
    let are = are_read wave state starts h.down in
    let terms = plain_terms wave t s in
    record {
      plan = starts;
      prices = prices;
      starts = h.planned.made;
      sizes = record { starts = h.planned.size; workers = refl; split_prices = sizes.0; worker_prices = sizes.1 };
      certifies = engine_certifies wave [] state starts prices terms near known s.kept h.down are;
      idle = are.unusable;
      best = subst (IsBest wave) h.planned.made (best-plain wave (pairs_of starts)
          (engine_is_best wave [] state starts prices no_rows terms near known s.kept h.down are));
    }
