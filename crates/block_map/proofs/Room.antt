-- Where fewer workers hold a split than live, one of the live ones may get it.
use Rattle.std.proofs.Common.{◌≡◌, ℕ, zero, suc, ◌+◌, ◌<◌, ◌≤◌, Bool, true, false, ltb, List, [], ◌∷◌, length}
use Rattle.std.proofs.Common.{take, count_by, Option, Some, None, inl, inr, refl, ap, subst}
use Rattle.std.proofs.Common.{arith}
use Rattle.std.proofs.Math.Seq.{take-length}
use Rattle.std.proofs.Math.Numerals.{add-one}
use Rattle.std.specs.Prelude.{◌==◌, IsSome}
use Rattle.std.specs.List.{list_any}
use Rattle.std.proofs.lemmas.Bool.{cases_Bool, and_cases, not-false, true≢false}
use Rattle.std.proofs.lemmas.Grind.{common_steps}
use Rattle.std.proofs.lemmas.List.Folds.{Any-from_list_any}
use Rattle.std.proofs.lemmas.List.Sums.{count_by_more_yes, count_by_more_no, count_by-le-length, sum_by-cons}
use Rattle.std.proofs.lemmas.List.Sums.{get_or-le-sum_by}
use Rattle.worker_table.specs.declared.Worker.{Worker}
use Rattle.worker_table.specs.Workers.{is_live}
use Rattle.block_map.specs.Holdings.{holders_of}
use Rattle.block_map.specs.Copies.{Holdings, live_count, may_hold}
use Rattle.block_map.proofs.Copying.{IsTargetBelow}

-- a number below n + 1 is below n, or n
count_below_more : (n : ℕ) (holders : List ℕ) →
    count_by (λ h. ltb h (n + 1)) holders ≡ count_by (λ h. ltb h n) holders + count_by (λ h. h == n) holders
count_below_more n [] = refl
count_below_more n (h ∷ holders) = grind (arith, count_below_more n holders, common_steps, sum_by-cons)

-- who stands in a list is counted
one_counted : (n : ℕ) (holders : List ℕ) → list_any (λ h. h == n) holders ≡ true →
    1 ≤ count_by (λ h. h == n) holders
one_counted n holders found = grind (arith, Any-from_list_any, get_or-le-sum_by)

-- where each live worker holds the split, there are no more live workers than holders
live_below : (h : Holdings) (s n : ℕ) → n ≤ length h.workers.each →
    ((w : ℕ) → w < n → may_hold h s w ≡ false) →
    count_by (λ worker. worker.live) (take n h.workers.each)
    ≤ count_by (λ holder. ltb holder n) (holders_of h.lists s)
live_below h s zero inside none = omega arith
live_below h s (suc n) inside none =
    let holders : List ℕ = holders_of h.lists s in
    let each : List Worker = h.workers.each in
    let lives : Worker → Bool = λ worker. worker.live in
    let dead : Worker = record { live = false; slots = 0; taken = 0; beat = 0; silence = 0 } in
    let before = live_below h s n (omega (arith, inside)) (λ w below. none w (omega (arith, below))) in
    let here : n < length each = omega (arith, inside) in
    let more = count_below_more n holders in
    let Few : ℕ → Type 0 = λ m. count_by lives (take m each) ≤ count_by (λ (k : ℕ). ltb k m) holders in
    let step : Few (n + 1) = elim (cases_Bool (is_live h.workers n)) [
      | inl live ↦ grind (arith, and_cases, true≢false, not-false, one_counted, count_by_more_yes)
      | inr off ↦ omega (arith, before, more, count_by_more_no lives each n dead here off)
    ] in
    subst Few (add-one n) step

pub some_target : (h : Holdings) (s n : ℕ) (best : Option ℕ) → n ≡ length h.workers.each →
    length (holders_of h.lists s) < live_count h.workers → IsTargetBelow h s n best → IsSome best
some_target h s n (Some to) all few target = refl
some_target h s n None all few none =
    let size : ℕ = length h.workers.each in
    let most = live_below h s size (omega arith) (λ w below. none w (omega (arith, all, below))) in
    let whole = ap (count_by (λ (worker : Worker). worker.live)) (take-length h.workers.each) in
    let held = count_by-le-length (λ (k : ℕ). ltb k size) (holders_of h.lists s) in
    absurd (omega (arith, most, whole, few, held))
