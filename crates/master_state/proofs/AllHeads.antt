-- Where no worker has more places than free slots, the heads of a plan ahead are the whole plan: a wave.
use Rattle.std.proofs.Common.{◌≡◌, ℕ, suc, ◌+◌, ◌≤◌, ◌==◌, List, [], ◌∷◌, length, cond}
use Rattle.std.proofs.Common.{Option, None, Some, refl, sym, ap, arith, subst}
use Rattle.std.specs.Prelude.{max, slice_index_or}
use Rattle.std.proofs.Math.Nat.{min-le_left}
use Rattle.std.proofs.lemmas.Bool.{eq-eqb}
use Rattle.std.proofs.lemmas.List.Sums.{sum_by-cons}
use Rattle.std.proofs.lemmas.Option.{none-some}
use Rattle.wave_problem.specs.declared.lines.WorkerLine.{WorkerLine}
use Rattle.wave_problem.specs.Wave.{Wave, worker_at, worker_in}
use Rattle.wave_problem.specs.Assignment.{IsBest, load, pairs_from, pairs_of, start_of}
use Rattle.price_certificate.specs.Certificate.{Certifies, claim}
use Rattle.price_certificate.specs.PriceList.{PriceList}
use Rattle.master_state.specs.Steps.{HasPrices, problem_of, queue_lines, with_places}
use Rattle.master_state.specs.Laws.{AheadOntoFreeSlotsIsAWave}

some_same : (u v : ℕ) → Some u ≡ Some v → u ≡ v
some_same u v e = cc

-- each start is the plan's
abbrev IsPart : List (Option ℕ) → List (Option ℕ) → Type 0
IsPart starts plan = (s w : ℕ) → start_of starts s ≡ Some w → start_of plan s ≡ Some w

abbrev IsOn : ℕ → ℕ × ℕ → ℕ
IsOn w pair = cond (pair.1 == w) 1 0

-- a start on its own worker counts
one_on : (n w : ℕ) (pairs : List (ℕ × ℕ)) → load ((n, w) ∷ pairs) w ≡ 1 + load pairs w
one_on n w pairs =
    let here : IsOn w (n, w) ≡ 1 = ap (λ b. let m : ℕ = cond b 1 0 in m) (eq-eqb w w refl) in
    omega (arith, here, sum_by-cons (IsOn w) (n, w) pairs)

-- a part of a plan is no more on any worker
part_less : (n : ℕ) (starts plan : List (Option ℕ)) → IsPart starts plan → (w : ℕ) →
    load (pairs_from n starts) w ≤ load (pairs_from n plan) w
part_less n [] plan part w = omega arith
part_less n (None ∷ starts) [] part w = part_less (n + 1) starts [] (λ s v is. part (suc s) v is) w
part_less n (Some v ∷ starts) [] part w = absurd (none-some v (part 0 v refl))
part_less n (None ∷ starts) (None ∷ plan) part w =
    part_less (n + 1) starts plan (λ s v is. part (suc s) v is) w
part_less n (None ∷ starts) (Some v ∷ plan) part w = omega (
  arith,
  part_less (n + 1) starts plan (λ s v is. part (suc s) v is) w,
  sum_by-cons (IsOn w) (n, v) (pairs_from (n + 1) plan),
)
part_less n (Some v ∷ starts) (None ∷ plan) part w = absurd (none-some v (part 0 v refl))
part_less n (Some v ∷ starts) (Some u ∷ plan) part w =
    let same : IsOn w (n, v) ≡ IsOn w (n, u) = ap (λ x. IsOn w (n, x)) (sym (some_same u v (part 0 v refl))) in
    omega (
      arith,
      same,
      part_less (n + 1) starts plan (λ s x is. part (suc s) x is) w,
      sum_by-cons (IsOn w) (n, v) (pairs_from (n + 1) starts),
      sum_by-cons (IsOn w) (n, u) (pairs_from (n + 1) plan),
    )

-- a part of a plan that is as much on each worker is the plan
part_all : (n : ℕ) (starts plan : List (Option ℕ)) → length starts ≡ length plan → IsPart starts plan →
    ((w : ℕ) → load (pairs_from n starts) w ≡ load (pairs_from n plan) w) → starts ≡ plan
part_all n [] [] size part loads = refl
part_all n [] (o ∷ plan) size part loads = absurd (omega (arith, size))
part_all n (o ∷ starts) [] size part loads = absurd (omega (arith, size))
part_all n (None ∷ starts) (None ∷ plan) size part loads =
    ap (λ (os : List (Option ℕ)). None ∷ os)
    (part_all (n + 1) starts plan (omega (arith, size)) (λ s v is. part (suc s) v is) loads)
part_all n (None ∷ starts) (Some v ∷ plan) size part loads =
    absurd (omega (
      arith,
      loads v,
      one_on n v (pairs_from (n + 1) plan),
      part_less (n + 1) starts plan (λ s w is. part (suc s) w is) v,
    ))
part_all n (Some v ∷ starts) (None ∷ plan) size part loads = absurd (none-some v (part 0 v refl))
part_all n (Some v ∷ starts) (Some u ∷ plan) size part loads =
    let same = some_same u v (part 0 v refl) in
    let on : (w : ℕ) → IsOn w (n, v) ≡ IsOn w (n, u) = λ w. ap (λ x. IsOn w (n, x)) (sym same) in
    let rest = part_all (n + 1) starts plan (omega (arith, size)) (λ s w is. part (suc s) w is)
    (λ w. omega (
      arith,
      loads w,
      on w,
      sum_by-cons (IsOn w) (n, v) (pairs_from (n + 1) starts),
      sum_by-cons (IsOn w) (n, u) (pairs_from (n + 1) plan),
    )) in
    (λ i. Some (sym same i) ∷ rest i)

-- places that are no more than the free slots leave the problem as it is
own_places : (asked : List ℕ) (lines : List WorkerLine) →
    ((w : ℕ) → slice_index_or asked w 0 ≤ (worker_in lines w).free) → queue_lines asked lines ≡ lines
own_places asked [] few = refl
own_places [] (line ∷ lines) few = ap (λ (ls : List WorkerLine). line ∷ ls) (own_places [] lines (λ w. omega arith))
own_places (n ∷ asked) (line ∷ lines) few =
    let same : max n line.free ≡ line.free = omega (arith, few 0) in
    let rest = own_places asked lines (λ w. few (suc w)) in
    (λ i. record { live = line.live; free = same i } ∷ rest i)

pub ahead_is_wave : AheadOntoFreeSlotsIsAWave
ahead_is_wave setup old new first count cost asked plan starts few size ahead =
    let wave = problem_of setup old in
    let same : with_places asked wave ≡ wave =
    ap (λ (ls : List WorkerLine). record wave { workers = ls }) (own_places asked wave.workers few) in
    let best = subst (λ (v : Wave). IsBest v (pairs_of plan)) same ahead.best in
    let whole : starts ≡ plan = part_all 0 starts plan size ahead.heads.of_plan
    (λ w. omega (
      arith,
      ahead.heads.as_many w,
      min-le_left (load (pairs_of plan) w) (worker_at wave w).free,
      best.assignment.within_free w,
    )) in
    record {
      best = subst (λ (ss : List (Option ℕ)). IsBest wave (pairs_of ss)) (sym whole) best;
      priced = subst (λ (ss : List (Option ℕ)). HasPrices setup old ss) (sym whole)
          (subst (λ (v : Wave). (prices : PriceList) × Certifies (claim v plan prices)) same ahead.priced);
      room = ahead.room;
      first_is = ahead.first_is;
      count_is = ahead.count_is;
      cost_is = ahead.cost_is;
      leads = ahead.leads;
    }
