-- The pairs of a plan's starts, and the prices of their splits.
use Rattle.std.proofs.Common.{◌≡◌, ℕ, zero, suc, ◌+◌, ◌-◌, ◌<◌, ◌⊎◌, All, List, [], ◌∷◌, ◌++◌, length, Option, Some, None}
use Rattle.std.proofs.Common.{refl, sym, ap, ◌∙◌, subst, get_or, get_or-set_same, get_or-set_other, inl, inr, arith}
use Rattle.std.proofs.Common.{length-append}
use Rattle.std.specs.Prelude.{replicate, slice_index, slice_set, unwrap_or, IfSome}
use Rattle.std.proofs.lemmas.Bool.{cases_eq, cases_lt}
use Rattle.std.proofs.Math.Seq.{set-append_seam}
use Rattle.std.proofs.lemmas.List.{append_assoc, append-nil, get_or_past, length-set}
use Rattle.wave_problem.specs.Assignment.{pairs_from, pairs_of, start_of}
use Rattle.wave_problem.specs.Wave.{cost, Wave}
use Rattle.wave_problem.proofs.Pairs.{pairs_started}
use Rattle.tree_planner.specs.Handing.{ArePlanned}
use Rattle.tree_planner.specs.Priced.{IsSplitPrice}

-- the pair of a split with its start, if it has one
abbrev pub pair_if : ℕ → Option ℕ → List (ℕ × ℕ)
pair_if s None = []
pair_if s (Some w) = (s, w) ∷ []

push_from : (n m : ℕ) (xs : List (Option ℕ)) (o : Option ℕ) → m ≡ n + length xs
    → pairs_from n (xs ++ o ∷ []) ≡ pairs_from n xs ++ pair_if m o
push_from n m [] None e = refl
push_from n m [] (Some w) e = let f : n ≡ m = omega arith in ap (λ (z : ℕ). let r : List (ℕ × ℕ) =
    (z, w) ∷ [] in r) f
push_from n m (None ∷ xs) o e = push_from (n + 1) m xs o (omega arith)
push_from n m (Some w ∷ xs) o e = ap (λ (r : List (ℕ × ℕ)). (n, w) ∷ r) (push_from (n + 1) m xs o (omega arith))

-- one split more, which starts or does not
pub pairs_push_some : (xs : List (Option ℕ)) (s w : ℕ) → s ≡ length xs
    → pairs_of (xs ++ Some w ∷ []) ≡ pairs_of xs ++ (s, w) ∷ []
pairs_push_some xs s w e = push_from 0 s xs (Some w) (omega arith)

pub pairs_push_none : (xs : List (Option ℕ)) → pairs_of (xs ++ None ∷ []) ≡ pairs_of xs
pairs_push_none xs = push_from 0 (length xs) xs None (omega arith) ∙ append-nil (pairs_of xs)

abbrev pub no_pair : ℕ × ℕ
no_pair = (0, 0)

has_pair_from : (n i w : ℕ) (starts : List (Option ℕ)) → start_of starts i ≡ Some w
    → (j : ℕ) × (j < length (pairs_from n starts)) × (get_or (pairs_from n starts) j no_pair ≡ (n + i, w))
has_pair_from n i w [] e = absurd (let none = e in cc)
has_pair_from n zero w (None ∷ rest) e = absurd (let none = e in cc)
has_pair_from n zero w (Some x ∷ rest) e = (
  0,
  omega arith,
  (let same : x ≡ w = grind arith in
      let is : n ≡ n + 0 = omega arith in
      ap (λ (w : ℕ). let r : ℕ × ℕ = (n, w) in r) same ∙ ap (λ (z : ℕ). let r : ℕ × ℕ = (z, w) in r) is),
)
has_pair_from n (suc i) w (None ∷ rest) e =
    let h = has_pair_from (n + 1) i w rest e in
    let is : n + 1 + i ≡ n + suc i = omega arith in
    (h.0, h.1, h.2 ∙ ap (λ (z : ℕ). let r : ℕ × ℕ = (z, w) in r) is)
has_pair_from n (suc i) w (Some x ∷ rest) e =
    let h = has_pair_from (n + 1) i w rest e in
    let is : n + 1 + i ≡ n + suc i = omega arith in
    (suc h.0, (let l = h.1 in omega arith), h.2 ∙ ap (λ (z : ℕ). let r : ℕ × ℕ = (z, w) in r) is)

-- a split that starts stands in a pair
has_pair : (starts : List (Option ℕ)) (s w : ℕ) → start_of starts s ≡ Some w
    → (j : ℕ) × (j < length (pairs_of starts)) × (get_or (pairs_of starts) j no_pair ≡ (s, w))
has_pair starts s w e =
    let h = has_pair_from 0 s w starts e in
    let is : 0 + s ≡ s = omega arith in
    (h.0, h.1, h.2 ∙ ap (λ (z : ℕ). let r : ℕ × ℕ = (z, w) in r) is)

-- a start has its pair, and a pair is a start
module _ (pairs : List (ℕ × ℕ)) (starts : List (Option ℕ)) (of : pairs_of starts ≡ pairs) where
  pub pair_of_start : (s w : ℕ) → start_of starts s ≡ Some w
      → (j : ℕ) × (j < length pairs) × (get_or pairs j no_pair ≡ (s, w))
  pair_of_start s w is =
      subst (λ (ps : List (ℕ × ℕ)). (j : ℕ) × (j < length ps) × (get_or ps j no_pair ≡ (s, w))) of
      (has_pair starts s w is)

  pub start_of_pair : (k : ℕ) → k < length pairs
      → start_of starts (get_or pairs k no_pair).0 ≡ Some (get_or pairs k no_pair).1
  start_of_pair k l =
      subst (λ (ps : List (ℕ × ℕ)). All (λ pair. start_of starts pair.0 ≡ Some pair.1) ps) of
      (pairs_started starts) k no_pair l

-- the price of a split that starts on this worker
abbrev pub price_on : Wave → ℕ → List ℕ → ℕ → ℕ → ℕ
price_on wave worth workers s w = worth - (slice_index workers w + unwrap_or (cost wave s w) 0)

-- the first k pairs have put the prices of their splits, and the other splits have none
pub record ArePriced (wave : Wave) (worth : ℕ) (workers : List ℕ) (pairs : List (ℕ × ℕ)) (k : ℕ)
    (prices : List ℕ) : Type 0 where
  pub size : length prices ≡ length wave.splits
  pub done : (j : ℕ) → j < k → slice_index prices (get_or pairs j no_pair).0
      ≡ price_on wave worth workers (get_or pairs j no_pair).0 (get_or pairs j no_pair).1
  pub left : (s : ℕ) → (slice_index prices s ≡ 0) ⊎ ((j : ℕ) × (j < k) × ((get_or pairs j no_pair).0 ≡ s))

module _ (wave : Wave) (worth : ℕ) (workers : List ℕ) (pairs : List (ℕ × ℕ)) (starts : List (Option ℕ))
    (of : pairs_of starts ≡ pairs) where
  starts_there : (j : ℕ) → j < length pairs
      → start_of starts (get_or pairs j no_pair).0 ≡ Some (get_or pairs j no_pair).1
  starts_there j l = start_of_pair pairs starts of j l

  -- one pair more
  module _ (k : ℕ) (prices : List ℕ) (within : k < length pairs)
      (known : (get_or pairs k no_pair).0 < length wave.splits)
      (p : ArePriced wave worth workers pairs k prices) where
    abbrev s_at : ℕ → ℕ
    s_at j = (get_or pairs j no_pair).0

    abbrev w_at : ℕ → ℕ
    w_at j = (get_or pairs j no_pair).1

    abbrev price : ℕ
    price = price_on wave worth workers (s_at k) (w_at k)

    same_worker : (j : ℕ) → j < length pairs → s_at j ≡ s_at k → w_at j ≡ w_at k
    same_worker j l e =
        let one = starts_there j l in
        let two = starts_there k within in
        let both : Some (w_at j) ≡ Some (w_at k) = sym one ∙ ap (start_of starts) e ∙ two in
        ap (λ (o : Option ℕ). unwrap_or o 0) both

    done_next : (j : ℕ) → j < k + 1
        → slice_index (slice_set prices (s_at k) price) (s_at j) ≡ price_on wave worth workers (s_at j) (w_at j)
    done_next j l = elim (cases_eq (s_at j) (s_at k)) [
      | inl e ↦ ap (slice_index (slice_set prices (s_at k) price)) e
          ∙ get_or-set_same prices (s_at k) price 0 (let size = p.size in omega arith)
          ∙ ap (λ s. price_on wave worth workers s (w_at k)) (sym e)
          ∙ ap (price_on wave worth workers (s_at j)) (sym (same_worker j (omega arith) e))
      | inr n ↦ get_or-set_other prices (s_at k) (s_at j) price 0 n ∙ p.done j
          (elim (cases_eq j k) [
            | inl e ↦ absurd (n (ap s_at e))
            | inr other ↦ omega arith
          ])
    ]

    pub priced_next : ArePriced wave worth workers pairs (k + 1) (slice_set prices (s_at k) price)
    priced_next = record {
      size = length-set prices (s_at k) price ∙ p.size;
      done = done_next;
      left = λ s. elim (cases_eq s (s_at k)) [
        | inl e ↦ inr (k, (omega arith), sym e)
        | inr n ↦ elim (p.left s) [
          | inl none ↦ inl (get_or-set_other prices (s_at k) s price 0 n ∙ none)
          | inr h ↦ inr (h.0, (let l = h.1 in omega arith), h.2)
        ]
      ];
    }

  pub all_priced : (prices : List ℕ) → ArePriced wave worth workers pairs (length pairs) prices → (s : ℕ)
      → IsSplitPrice wave worth starts workers s (slice_index prices s)
  all_priced prices p s = record {
    started = λ w is.
        (let h = pair_of_start pairs starts of s w is in
        let one : (get_or pairs h.0 no_pair).0 ≡ s = ap (λ (x : ℕ × ℕ). x.0) h.2 in
        let two : (get_or pairs h.0 no_pair).1 ≡ w = ap (λ (x : ℕ × ℕ). x.1) h.2 in
        ap (slice_index prices) (sym one) ∙ p.done h.0 h.1 ∙ ap (λ s. price_on wave worth workers s
        (get_or pairs h.0 no_pair).1) one ∙ ap (price_on wave worth workers s) two);
    unstarted = λ is. elim (p.left s) [
      | inl none ↦ none
      | inr h ↦ absurd
          (let there = starts_there h.0 h.1 in
          let at = ap (start_of starts) h.2 in
          cc)
    ];
  }

-- the pairs of a plan are of splits and workers that there are
pub pairs_known : (wave : Wave) (pairs : List (ℕ × ℕ)) → ArePlanned wave pairs
    → All (λ (pair : ℕ × ℕ). (pair.0 < length wave.splits) × (pair.1 < length wave.workers)) pairs
pairs_known wave pairs p =
    subst (All (λ (pair : ℕ × ℕ). (pair.0 < length wave.splits) × (pair.1 < length wave.workers))) p.made (λ k d l.
    (let pair = get_or (pairs_of p.starts) k d in
    let start = pairs_started p.starts k d l in
    let split : pair.0 < length p.starts = elim (cases_lt pair.0 (length p.starts)) [
      | inl l ↦ l
      | inr past ↦ absurd (let none = get_or_past p.starts pair.0 None past in cc)
    ] in
    let size = p.size in (
      omega arith,
      subst (λ (o : Option ℕ). IfSome o (λ w. w < length wave.workers)) start (p.known pair.0 None split),
    )))

-- the starts after the pairs have been put, one after another
abbrev pub filled : List (Option ℕ) → List (ℕ × ℕ) → List (Option ℕ)
filled starts [] = starts
filled starts (pair ∷ pairs) = filled (slice_set starts pair.0 (Some pair.1)) pairs

filled_from : (n m : ℕ) (front rest : List (Option ℕ)) → n ≡ length front → m ≡ length rest
    → filled (front ++ replicate m None) (pairs_from n rest) ≡ front ++ rest
filled_from n zero front [] a b = refl
filled_from n (suc m) front [] a b = absurd (omega arith)
filled_from n zero front (o ∷ rest) a b = absurd (omega arith)
filled_from n (suc m) front (None ∷ rest) a b =
    let more = length-append front (None ∷ []) in
    ap (λ (xs : List (Option ℕ)). filled xs (pairs_from (n + 1) rest))
    (sym (append_assoc front (None ∷ []) (replicate m None)))
    ∙ filled_from (n + 1) m (front ++ None ∷ []) rest (omega arith) (omega arith)
    ∙ append_assoc front (None ∷ []) rest
filled_from n (suc m) front (Some w ∷ rest) a b =
    let more = length-append front (Some w ∷ []) in
    ap (λ (xs : List (Option ℕ)). filled xs (pairs_from (n + 1) rest))
    (ap (λ (i : ℕ). slice_set (front ++ None ∷ replicate m None) i (Some w)) a
    ∙ set-append_seam front None (replicate m None) (Some w)
    ∙ sym (append_assoc front (Some w ∷ []) (replicate m None)))
    ∙ filled_from (n + 1) m (front ++ Some w ∷ []) rest (omega arith) (omega arith)
    ∙ append_assoc front (Some w ∷ []) rest

-- the pairs of a plan, put where nothing starts, are the plan
pub filled_of : (n : ℕ) (starts : List (Option ℕ)) → length starts ≡ n
    → filled (replicate n None) (pairs_of starts) ≡ starts
filled_of n starts e = filled_from 0 n [] starts refl (sym e)
