-- The terms of fit prices of places are fair.
use Rattle.std.proofs.Common.{◌≡◌, ℕ, ◌<◌, ◌≤◌, Bool, true, false, cond, List, []}
use Rattle.std.proofs.Common.{length, All, inl, inr, refl, arith}
use Rattle.std.proofs.lemmas.Bool.{cases_lt}
use Rattle.std.proofs.lemmas.List.{get_or_past}
use Rattle.wave_problem.specs.Wave.{Wave, worker_at}
use Rattle.price_certificate.specs.Places.{all_places, place_price, places_cost, prices_of, IsFitRow}
use Rattle.price_certificate.proofs.Covered.{place_price-rising}
use Rattle.tree_flow.specs.State.{Terms, slots_of, AreFair}
use Rattle.tree_flow.specs.Settled.{AreTermsOf}
use Rattle.tree_flow.proofs.Under.{one_of_sum}

slots-free : (wave : Wave) (w : ℕ) → slots_of wave w ≤ (worker_at wave w).free
slots-free wave w = either (worker_at wave w).live
  where
    either : (b : Bool) → cond {A = ℕ} b (worker_at wave w).free 0 ≤ (worker_at wave w).free
    either true = omega arith
    either false = omega arith

-- the price of a place that a worker can give is a part of what all places cost
pub place_price-le : (places : List (List ℕ)) (wave : Wave) (w k : ℕ) → k < slots_of wave w
    → place_price places w k ≤ all_places places wave
place_price-le places wave w k l = elim (cases_lt w (length places)) [
  | inl known ↦ omega (
    arith,
    slots-free wave w,
    one_of_sum (worker_at wave w).free k (place_price places w) (omega (arith, slots-free wave w)),
    one_of_sum (length places) w (λ w. places_cost places w (worker_at wave w).free) known,
  )
  | inr past ↦
      (let none : prices_of places w ≡ [] = get_or_past places w [] (omega arith) in
      let free : place_price places w k ≡ 0 = rw none refl in
      omega arith)
]

-- the price of a place is no more than a start is worth, and no place costs less than the one before it
pub fair_terms : (wave : Wave) (places : List (List ℕ)) (terms : Terms) → All IsFitRow places
    → AreTermsOf wave places terms → AreFair wave terms
fair_terms wave places terms fit are = record {
  rising = λ w j k l. omega (arith, are.price w j, are.price w k, place_price-rising places w j k fit l);
  capped = λ w k l. omega (arith, are.price w k, are.worth, place_price-le places wave w k l);
}
