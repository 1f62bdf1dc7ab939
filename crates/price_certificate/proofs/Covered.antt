-- One price of a worker covers its places: those taken cost no more, those left no less.
use Rattle.std.proofs.Common.{◌≡◌, ℕ, zero, suc, ◌+◌, ◌*◌, ◌-◌, ◌<◌, ◌≤◌, min, List, [], length, All}
use Rattle.std.proofs.Common.{Vec, Global, map, subst}
use Rattle.std.proofs.lemmas.List.Elements.{All-map}
use Rattle.std.proofs.Common.{Bool, true, false, IsTrue, MatchBool, get_or, inl, inr, refl, ap, arith, ◌∙◌}
use Rattle.std.specs.Prelude.{◌↔◌, slice_index_or}
use Rattle.std.specs.List.Sorted.{IsNonDecreasing}
use Rattle.std.proofs.Math.Nat.{add-mul, one-mul}
use Rattle.std.proofs.lemmas.Bool.{cases_lt, false≢true}
use Rattle.std.proofs.lemmas.List.{get_or_past, length-map}
use Rattle.std.proofs.Math.ListN.{get_or-map}
use Rattle.rack_tree.specs.Tree.{IsWithinReach}
use Rattle.wave_problem.specs.Sums.{sum_below}
use Rattle.wave_problem.specs.Wave.{Wave, worker_at}
use Rattle.wave_problem.specs.Assignment.{IsAssignment, IsBest, load}
use Rattle.wave_problem.proofs.Bound.{total-lt-reward}
use Rattle.wave_problem.proofs.Grouping.{sum_below-le, sum_below-same, sum_below-zero}
use Rattle.price_certificate.specs.declared.TheConstants.{MAX_PLACE_PRICE}
use Rattle.price_certificate.specs.Places.{all_places, charge, full_reward, place_price, places_cost}
use Rattle.price_certificate.specs.Places.{places_taken, prices_of, IsBestByCharge, IsFitRow}

-- a fit row has no price that is too great
price_in-small : (xs : List ℕ) (k : ℕ) → All (λ price. price ≤ MAX_PLACE_PRICE) xs →
    slice_index_or xs k 0 ≤ MAX_PLACE_PRICE
price_in-small xs k small = elim (cases_lt k (length xs)) [
  | inl within ↦ small k 0 within
  | inr past ↦ omega (arith, get_or_past xs k 0 (omega arith))
]

pub row_fit : (places : List (List ℕ)) (w : ℕ) → All IsFitRow places → IsFitRow (prices_of places w)
row_fit places w each = elim (cases_lt w (length places)) [
  | inl known ↦ each w [] known
  | inr past ↦ rw (get_or_past places w [] (omega arith)) (record {
    small = λ k d l. absurd (omega arith);
    rising = λ i j d l b. absurd (omega arith);
  })
]

pub place_price-small : (places : List (List ℕ)) (w k : ℕ) → All IsFitRow places →
    place_price places w k ≤ MAX_PLACE_PRICE
place_price-small places w k each =
    price_in-small (prices_of places w) (min k (length (prices_of places w) - 1)) (row_fit places w each).small

sum_below-constant : (n c : ℕ) → sum_below n (λ _. c) ≡ n * c
sum_below-constant zero c = omega arith
sum_below-constant (suc n) c = omega (arith, sum_below-constant n c, add-mul n 1 c, one-mul c)

-- no place is cheaper than one before it
pub place_price-rising : (places : List (List ℕ)) (w i j : ℕ) → All IsFitRow places → i ≤ j →
    place_price places w i ≤ place_price places w j
place_price-rising places w i j each l =
    let row : List ℕ = prices_of places w in
    let rising : IsNonDecreasing row = (row_fit places w each).rising in
    elim (cases_lt 0 (length row)) [
      | inl some ↦ rising (min i (length row - 1)) (min j (length row - 1)) 0 (omega arith) (omega arith)
      | inr none ↦ omega (
        arith,
        ap (λ (z : ℕ). z) (get_or_past row (min i (length row - 1)) 0 (omega arith)),
      )
    ]

-- a row is fit where no price is too great and a test of neighbours passes
pub fit_row-sorted : (xs : List ℕ) (sorted : Bool) → All (λ price. price ≤ MAX_PLACE_PRICE) xs →
    MatchBool sorted (IsNonDecreasing xs)
    ((k : ℕ) × (k + 1 < length xs) × ((d : ℕ) → get_or xs (k + 1) d < get_or xs k d)) →
    IsTrue sorted ↔ IsFitRow xs
fit_row-sorted xs true small rising = (λ _. record { small = small; rising = rising }, λ _. refl)
fit_row-sorted xs false small found = (
  λ wrong. absurd (false≢true wrong),
  λ fit. absurd (omega (
    arith,
    fit.rising found.0 (found.0 + 1) 0 (omega arith) found.1,
    found.2 0,
  )),
)

-- rows of a table are fit where their prices are
pub fit_rows : (rows : List (Vec ℕ Global)) → All (λ row. IsFitRow row.items) rows ↔
    All IsFitRow (map (λ row. row.items) rows)
fit_rows rows = (
  All-map IsFitRow (λ (row : Vec ℕ Global). row.items) rows,
  λ each k d within. subst IsFitRow (get_or-map (λ (row : Vec ℕ Global). row.items) rows k d)
      (each k d.items (omega (arith, length-map rows (λ (row : Vec ℕ Global). row.items)))),
)

-- what the first n places cost is at most n times what one may
pub places_cost-le : (places : List (List ℕ)) (w n : ℕ) → All IsFitRow places →
    places_cost places w n ≤ n * MAX_PLACE_PRICE
places_cost-le places w n each =
    omega (
      arith,
      sum_below-le n (place_price places w) (λ _. MAX_PLACE_PRICE) (λ k l. place_price-small places w k each),
      sum_below-constant n MAX_PLACE_PRICE,
    )

-- a sum over more numbers is no less
sum_below-longer : (m n : ℕ) (f : ℕ → ℕ) → m ≤ n → sum_below m f ≤ sum_below n f
sum_below-longer m zero f h = let e : m ≡ 0 = omega arith in rw e (omega arith)
sum_below-longer m (suc n) f h = elim (cases_lt m (suc n)) [
  | inl less ↦ omega (arith, sum_below-longer m n f (omega arith))
  | inr full ↦ let e : m ≡ suc n = omega arith in rw e (omega arith)
]

-- and over numbers that count nothing is no more
sum_below-nothing : (m n : ℕ) (f : ℕ → ℕ) → ((k : ℕ) → n ≤ k → f k ≡ 0) → sum_below m f ≤ sum_below n f
sum_below-nothing zero n f none = omega arith
sum_below-nothing (suc m) n f none = elim (cases_lt m n) [
  | inl less ↦ sum_below-longer (suc m) n f (omega arith)
  | inr past ↦ omega (arith, sum_below-nothing m n f none, none m (omega arith))
]

-- a worker past the last list has no price
places_cost-past : (places : List (List ℕ)) (w n : ℕ) → length places ≤ w → places_cost places w n ≡ 0
places_cost-past places w n past =
    sum_below-same n (place_price places w) (λ _. 0)
    (λ k l. let none : prices_of places w ≡ [] = get_or_past places w [] past in rw none refl)
    ∙ sum_below-zero n

-- the places that an assignment takes cost no more than the places of all free slots
taken-le : (places : List (List ℕ)) (wave : Wave) (pairs : List (ℕ × ℕ)) → IsAssignment wave pairs →
    places_taken places wave pairs ≤ all_places places wave
taken-le places wave pairs a =
    let slots : ℕ → ℕ = λ w. (worker_at wave w).free in
    omega (
      arith,
      sum_below-le (length wave.workers) (λ w. places_cost places w (load pairs w))
          (λ w. places_cost places w (slots w))
          (λ w l. sum_below-longer (load pairs w) (slots w) (place_price places w) (a.within_free w)),
      sum_below-nothing (length wave.workers) (length places) (λ w. places_cost places w (slots w))
          (λ w past. places_cost-past places w (slots w) past),
    )

-- no admissible assignment is charged as much as the full reward
pub charge-lt-reward : (places : List (List ℕ)) (wave : Wave) (pairs : List (ℕ × ℕ)) →
    IsWithinReach wave.tree → IsAssignment wave pairs → charge places wave pairs < full_reward places wave
charge-lt-reward places wave pairs near a =
    omega (arith, total-lt-reward wave pairs near a, taken-le places wave pairs a)

-- n times a price is at most the prices of n places and what it is above each of them
times-le : (n q : ℕ) (f : ℕ → ℕ) → n * q ≤ sum_below n f + sum_below n (λ k. q - f k)
times-le zero q f = omega arith
times-le (suc n) q f = omega (arith, times-le n q f, add-mul n 1 q, one-mul q)

-- so it is with what it is above each of more places
pub times-le-more : (m n q : ℕ) (f : ℕ → ℕ) → m ≤ n → m * q ≤ sum_below m f + sum_below n (λ k. q - f k)
times-le-more m n q f h = omega (arith, times-le m q f, sum_below-longer m n (λ k. q - f k) h)

-- exactly that, where it is no lower than any of them
times-is : (n q : ℕ) (f : ℕ → ℕ) → ((k : ℕ) → k < n → f k ≤ q) →
    n * q ≡ sum_below n f + sum_below n (λ k. q - f k)
times-is zero q f h = omega arith
times-is (suc n) q f h =
    omega (arith, times-is n q f (λ k l. h k (omega arith)), h n (omega arith), add-mul n 1 q, one-mul q)

-- and places that cost no less add nothing
none_above : (m n q : ℕ) (f : ℕ → ℕ) → m ≤ n → ((k : ℕ) → m ≤ k → k < n → q ≤ f k) →
    sum_below n (λ k. q - f k) ≡ sum_below m (λ k. q - f k)
none_above m zero q f l h = let e : m ≡ 0 = omega arith in rw e refl
none_above m (suc n) q f l h = elim (cases_lt m (suc n)) [
  | inl less ↦ omega (
    arith,
    none_above m n q f (omega arith) (λ k g b. h k g (omega arith)),
    h n (omega arith) (omega arith),
  )
  | inr full ↦ let e : m ≡ suc n = omega arith in rw e refl
]

-- a price between that of the last place taken and that of the first place left covers the places taken
pub times-is-between : (m n q : ℕ) (f : ℕ → ℕ) → ((i j : ℕ) → i ≤ j → f i ≤ f j) → m ≤ n →
    (0 < m → f (m - 1) ≤ q) → (m < n → q ≤ f m) → m * q ≡ sum_below m f + sum_below n (λ k. q - f k)
times-is-between m n q f rising l taken left =
    omega (
      arith,
      times-is m q f (λ k b. omega (arith, rising k (m - 1) (omega arith), taken (omega arith))),
      none_above m n q f l (λ k g b. omega (arith, left (omega arith), rising m k g)),
    )

-- where all places are free, the charge is the byte-distance
pub charge-plain : (wave : Wave) (pairs : List (ℕ × ℕ)) → places_taken [] wave pairs ≡ 0
charge-plain wave pairs =
    sum_below-same (length wave.workers) (λ w. places_cost [] w (load pairs w)) (λ _. 0)
    (λ w l. sum_below-zero (load pairs w))
    ∙ sum_below-zero (length wave.workers)

-- so that a plan which is best by charge is best
pub best-plain : (wave : Wave) (pairs : List (ℕ × ℕ)) → IsBestByCharge [] wave pairs → IsBest wave pairs
best-plain wave pairs best = record {
  assignment = best.assignment;
  most = best.most;
  cheapest = λ other a same. omega (
    arith,
    best.cheapest other a same,
    charge-plain wave pairs,
    charge-plain wave other,
  );
}
