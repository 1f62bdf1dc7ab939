-- The worker to which a split is copied.
use Rattle.std.proofs.Common.{◌≡◌, ℕ, ◌+◌, ◌<◌, ◌≤◌, true, false, Option}
use Rattle.std.proofs.Common.{Some, None, inl, inr, sym, ap, ◌∙◌, subst, arith, length}
use Rattle.std.specs.Prelude.{IfSome}
use Rattle.std.proofs.lemmas.Bool.{cases_lt, false≢true}
use Rattle.block_map.specs.Copies.{Holdings, IsNoWorse, may_hold, replicas_beside}
use Rattle.block_map.specs.Holdings.{holders_of}

-- the worker to copy to, among those below n
abbrev pub IsTargetBelow : Holdings → ℕ → ℕ → Option ℕ → Type 0
IsTargetBelow h s n None = (w : ℕ) → w < n → may_hold h s w ≡ false
IsTargetBelow h s n (Some to) =
    (to < n) × (may_hold h s to ≡ true) × ((w : ℕ) → w < n → may_hold h s w ≡ true → IsNoWorse h s to w)

no_worse-trans : (h : Holdings) (s a b c : ℕ) → IsNoWorse h s a b → IsNoWorse h s b c → IsNoWorse h s a c
no_worse-trans h s a b c p q = grind arith

-- the next worker may not hold the split
pub target_skip : (h : Holdings) (s i : ℕ) (best : Option ℕ) → may_hold h s i ≡ false →
    IsTargetBelow h s i best → IsTargetBelow h s (i + 1) best
target_skip h s i None off none = grind arith
target_skip h s i (Some to) off best = grind arith

-- of two workers the one with fewer replicas beside it, or the lower one
pub fewest_first : (h : Holdings) (s v w : ℕ) → replicas_beside h s v ≤ replicas_beside h s w → v ≤ w →
    IsNoWorse h s v w
fewest_first h s v w few low = grind arith

-- the next worker may, and no better one was found
pub target_next : (h : Holdings) (s i : ℕ) (best : Option ℕ) → may_hold h s i ≡ true →
    IsTargetBelow h s i best → IfSome best (λ b. IsNoWorse h s i b) → IsTargetBelow h s (i + 1) (Some i)
target_next h s i best on below better = (
  omega arith,
  on,
  λ w less may. elim (cases_lt w i) [
    | inl before ↦ no_worse best below better w before may
    | inr after ↦
        let same : i ≡ w = omega (arith, less, after) in
        inr (ap (replicas_beside h s) same, omega (arith, same))
  ],
) where
  no_worse : (best : Option ℕ) → IsTargetBelow h s i best → IfSome best (λ b. IsNoWorse h s i b) →
      (w : ℕ) → w < i → may_hold h s w ≡ true → IsNoWorse h s i w
  no_worse None none better w before may = absurd (false≢true (sym (none w before) ∙ may))
  no_worse (Some b) best better w before may = no_worse-trans h s i b w better (best.2 w before may)

-- the next worker is no better
pub target_stays : (h : Holdings) (s i b : ℕ) → IsTargetBelow h s i (Some b) → IsNoWorse h s b i →
    IsTargetBelow h s (i + 1) (Some b)
target_stays h s i b best no_worse = (
  omega (arith, best.0),
  best.1,
  λ w less may. elim (cases_lt w i) [
    | inl before ↦ best.2 w before may
    | inr after ↦
        let same : i ≡ w = omega (arith, less, after) in
        subst (IsNoWorse h s b) same no_worse
  ],
)

-- n is how many replicas are beside the best worker, and more than any worker has where there is none
abbrev pub IsFewest : Holdings → ℕ → Option ℕ → ℕ → Type 0
IsFewest h s None n = length (holders_of h.lists s) < n
IsFewest h s (Some b) n = n ≡ replicas_beside h s b

-- the next worker has fewer replicas beside it than the best
pub target_fewer : (h : Holdings) (s i n : ℕ) (best : Option ℕ) → may_hold h s i ≡ true →
    IsTargetBelow h s i best → IsFewest h s best n → replicas_beside h s i < n →
    IsTargetBelow h s (i + 1) (Some i)
target_fewer h s i n None on below most few = target_next h s i None on below tt
target_fewer h s i n (Some b) on below most few =
    target_next h s i (Some b) on below (inl (omega (arith, most, few)))

-- and here it has as many or more
pub target_not_fewer : (h : Holdings) (s i n : ℕ) (best : Option ℕ) → IsTargetBelow h s i best →
    IsFewest h s best n → n ≤ replicas_beside h s i →
    replicas_beside h s i ≤ length (holders_of h.lists s) → IsTargetBelow h s (i + 1) best
target_not_fewer h s i n None below most many few = absurd (omega (arith, most, many, few))
target_not_fewer h s i n (Some b) below most many few =
    let low : b ≤ i = omega (arith, below.0) in
    let many_beside : replicas_beside h s b ≤ replicas_beside h s i = omega (arith, most, many) in
    target_stays h s i b below (fewest_first h s b i many_beside low)
