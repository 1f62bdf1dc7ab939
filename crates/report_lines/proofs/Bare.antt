-- Workers without what neither a copy nor a sweep depends on: taken slots and barred pairs.
use Rattle.std.proofs.Common.{◌≡◌, ◌∙◌, ℕ, zero, suc, ◌+◌, ◌&&◌, ◌++◌, Bool, true, false, cond, length}
use Rattle.std.proofs.Common.{List, [], ◌∷◌, Option, Some, None, refl, sym, ap, map, min, count_by}
use Rattle.std.specs.Prelude.{◌==◌, is_some, not, nat_lt, slice_get, slice_index, slice_index_or}
use Rattle.std.proofs.lemmas.Bool.{true≢false}
use Rattle.node_ids.proofs.Updating.{length-updated}
use Rattle.std.specs.Option.{option_map}
use Rattle.std.proofs.lemmas.List.{length-map}
use Rattle.std.proofs.lemmas.List.Sums.{sum_by-cons}
use Rattle.node_ids.specs.Updates.{updated}
use Rattle.rack_tree.specs.Tree.{Tree}
use Rattle.worker_table.specs.Bars.{no_bars}
use Rattle.worker_table.specs.declared.Worker.{Worker}
use Rattle.worker_table.specs.Workers.{Workers, heard, heard_from, is_live, is_silent, swept}
use Rattle.worker_table.specs.Workers.{with_death, with_return, with_slot_given, with_slot_taken, worker_at}
use Rattle.block_map.specs.Holdings.{holders_of, is_holder}
use Rattle.block_map.specs.Copies.{Holdings, all_copies, best_below, better, copies_below, copy_at, holdings}
use Rattle.block_map.specs.Copies.{live_count, lowest_of, one_or_none, replicas_beside}
use Rattle.block_map.specs.declared.CopyOrder.{CopyOrder}
use Rattle.master_state.proofs.Lists.{at-map, map-updated_same}
use Rattle.master_state.proofs.Slots.{nobody}

abbrev pub bare_worker : Worker → Worker
bare_worker worker = record worker { taken = 0 }

abbrev pub bare : Workers → Workers
bare t = record { limit = t.limit; each = map bare_worker t.each; barred = no_bars 0 0 }

-- ---- what becomes of them

map-changed : {X : Type 0} (f change : X → X) (xs : List X) (n : ℕ) →
    ((x : X) → f (change x) ≡ change (f x)) → map f (updated change xs n) ≡ updated change (map f xs) n
map-changed f change [] n same = refl
map-changed f change (x ∷ xs) zero same = ap (λ y. y ∷ map f xs) (same x)
map-changed f change (x ∷ xs) (suc n) same = ap (λ ys. f x ∷ ys) (map-changed f change xs n same)

module _ (t : Workers) (w : ℕ) where
  abbrev of : List Worker → Workers
  of each = record { limit = t.limit; each = each; barred = no_bars 0 0 }

  pub bare_death : bare (with_death t w) ≡ with_death (bare t) w
  bare_death = ap of (map-changed bare_worker (λ (worker : Worker). record worker { live = false; taken = 0 })
      t.each w (λ worker. refl))

  pub bare_return : bare (with_return t w) ≡ with_return (bare t) w
  bare_return = ap of (map-changed bare_worker
      (λ (worker : Worker). record worker { live = true; silence = 0 })
      t.each w (λ worker. refl))

  pub bare_given : bare (with_slot_given t w) ≡ bare t
  bare_given = ap of (map-updated_same bare_worker _ t.each w (λ worker. refl))

  pub bare_taken : bare (with_slot_taken t w) ≡ bare t
  bare_taken = ap of (map-updated_same bare_worker _ t.each w (λ worker. refl))

-- ---- sweeps

of_cond : {X Y : Type 0} (f : X → Y) (b : Bool) (x y : X) → f (cond b x y) ≡ cond b (f x) (f y)
of_cond f true x y = refl
of_cond f false x y = refl

bare_heard : (limit : ℕ) (worker : Worker) (count : ℕ) →
    bare_worker (heard limit worker count) ≡ heard limit (bare_worker worker) count
bare_heard limit worker count =
    of_cond bare_worker worker.live _ worker
    ∙ ap (λ (x : Worker). cond worker.live x (bare_worker worker))
    (of_cond bare_worker (nat_lt worker.beat count) _ _)

bare_heard_from : (n limit : ℕ) (each : List Worker) (counts : List ℕ) →
    map bare_worker (heard_from n limit each counts) ≡ heard_from n limit (map bare_worker each) counts
bare_heard_from n limit [] counts = refl
bare_heard_from n limit (worker ∷ each) counts =
    λ k. bare_heard limit worker (slice_index counts n) k ∷ bare_heard_from (n + 1) limit each counts k

pub bare_swept : (t : Workers) (counts : List ℕ) → bare (swept t counts) ≡ swept (bare t) counts
bare_swept t counts =
    ap (λ (each : List Worker). record { limit = t.limit; each = each; barred = no_bars 0 0 })
    (bare_heard_from 0 t.limit t.each counts)

pub length_death : (t : Workers) (w : ℕ) → length (with_death t w).each ≡ length t.each
length_death t w = length-updated (λ (worker : Worker). record worker { live = false; taken = 0 }) t.each w

-- counts that are not there
pub not_there : (lists : List (List ℕ)) (i : ℕ) → slice_get lists i ≡ None → slice_index_or lists i [] ≡ []
not_there [] i none = refl
not_there (row ∷ lists) zero none = absurd (true≢false (ap is_some none))
not_there (row ∷ lists) (suc i) none = not_there lists i none

-- ---- what is seen of them

bare_at : (t : Workers) (w : ℕ) → worker_at (bare t) w ≡ bare_worker (worker_at t w)
bare_at t w = at-map bare_worker t.each w nobody

bare_count : (each : List Worker) →
    count_by (λ worker. worker.live) (map bare_worker each) ≡ count_by (λ worker. worker.live) each
bare_count [] = refl
bare_count (worker ∷ each) =
    let lives : Worker → ℕ = λ worker. cond {A = ℕ} worker.live 1 0 in
    sum_by-cons lives (bare_worker worker) (map bare_worker each)
    ∙ ap (λ (n : ℕ). lives worker + n) (bare_count each)
    ∙ sym (sum_by-cons lives worker each)

module _ (a b : Workers) (same : bare a ≡ bare b) where
  pub same_silent : (w : ℕ) → is_silent a w ≡ is_silent b w
  same_silent w =
      ap (λ (worker : Worker). worker.live && worker.silence == a.limit) (sym (bare_at a w))
      ∙ ap (λ (t : Workers). is_silent t w) same
      ∙ ap (λ (worker : Worker). worker.live && worker.silence == b.limit) (bare_at b w)

  pub same_live : (w : ℕ) → is_live a w ≡ is_live b w
  same_live w =
      ap (λ (worker : Worker). worker.live) (sym (bare_at a w)) ∙ ap (λ (t : Workers). is_live t w) same
      ∙ ap (λ (worker : Worker). worker.live) (bare_at b w)

  pub same_length : length a.each ≡ length b.each
  same_length =
      sym (length-map a.each bare_worker) ∙ ap (λ (t : Workers). length t.each) same
      ∙ length-map b.each bare_worker

  same_count : live_count a ≡ live_count b
  same_count = sym (bare_count a.each) ∙ ap (λ (t : Workers). live_count t) same ∙ bare_count b.each

  -- ---- copies

  module _ (tree : Tree) (lists : List (List ℕ)) (target : ℕ) where
    abbrev pub one : Holdings
    one = holdings a tree lists target

    abbrev pub other : Holdings
    other = holdings b tree lists target

    same_better : (s : ℕ) (best : Option ℕ) (w : ℕ) → better one s best w ≡ better other s best w
    same_better s None w =
        ap (λ (live : Bool). cond (live && not (is_holder lists s w)) (Some w) None) (same_live w)
    same_better s (Some best) w =
        ap (λ (live : Bool). cond ((live && not (is_holder lists s w))
        && nat_lt (replicas_beside one s w) (replicas_beside one s best)) (Some w) (Some best)) (same_live w)

    same_best : (s n : ℕ) → best_below one s n ≡ best_below other s n
    same_best s zero = refl
    same_best s (suc n) =
        same_better s (best_below one s n) n
        ∙ ap (λ (best : Option ℕ). better other s best n) (same_best s n)

    same_copy : (s : ℕ) → copy_at one s ≡ copy_at other s
    same_copy s =
        let count : ℕ = length (holders_of lists s) in
        let best : best_below one s (length a.each) ≡ best_below other s (length b.each) =
        same_best s (length a.each) ∙ ap (best_below other s) same_length in
        let made : ℕ → CopyOrder =
        λ to. record { split = s; from = lowest_of (holders_of lists s); to = to } in
        λ k. cond (nat_lt 0 count && nat_lt count (min target (same_count k))) (option_map made (best k)) None

    same_below : (n : ℕ) → copies_below one n ≡ copies_below other n
    same_below zero = refl
    same_below (suc n) = λ k. same_below n k ++ one_or_none (same_copy n k)

    pub same_copies : all_copies one ≡ all_copies other
    same_copies = same_below (length lists)
