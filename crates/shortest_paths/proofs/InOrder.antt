-- Pairs of a distance and a node, in the order of the queue.
use Rattle.std.proofs.Common.{◌≡◌, ℕ, ◌≤◌, false, List, [], ◌∷◌, ◌++◌, length, map, All}
use Rattle.std.proofs.Common.{Ordering, Less, Equal, Greater, refl, arith, append_assoc}
use Rattle.std.specs.Ordering.{nat_cmp, ordering_then, is_lt}
use Rattle.std.specs.BinaryHeap.{IsUpperBound}
use Rattle.std.specs.declared.cmp.Reverse.{Reverse}
use Rattle.std.proofs.HeapSift.{at_most}
use Rattle.std.proofs.lemmas.List.Elements.{All-cons}
use Rattle.std.specs.Prelude.{IsPermutation}
use Rattle.std.proofs.lemmas.List.Sorted.{IsPermutation-append_left, IsPermutation-sym}
use Rattle.std.proofs.lemmas.List.Sorted.{IsPermutation-to_front, IsPermutation-trans, length_permutation}
use Rattle.shortest_paths.specs.Order.{nearer, pair_of}

first_not_lt : (o r : Ordering) → is_lt (ordering_then o r) ≡ false → is_lt o ≡ false
first_not_lt Less r h = h
first_not_lt Equal r h = refl
first_not_lt Greater r h = refl

pub nearest_of : (x : Reverse ℕ × ℕ) (xs : List (Reverse ℕ × ℕ)) → IsUpperBound nearer x xs →
    All (λ (q : ℕ × ℕ). x.0.0 ≤ q.0) (map pair_of xs)
nearest_of x [] u = λ k d l. absurd (omega arith)
nearest_of x (y ∷ ys) u = All-cons (λ (q : ℕ × ℕ). x.0.0 ≤ q.0) (pair_of y) (map pair_of ys)
    (at_most y.0.0 x.0.0 (first_not_lt (nat_cmp y.0.0 x.0.0) (nat_cmp x.1 y.1) u.0)) (nearest_of x ys u.1)

-- what is put last may stand first
pub put_last : {X : Type 0} (heap fresh : List X) (x : X) →
    IsPermutation (x ∷ (heap ++ fresh)) (heap ++ (fresh ++ x ∷ []))
put_last heap fresh x = rw (← append_assoc heap fresh (x ∷ []))
    (IsPermutation-sym _ _ (IsPermutation-to_front (heap ++ fresh) x))

-- what stands last goes into the heap
pub last_taken_in : {X : Type 0} (heap rest more : List X) (x : X) → IsPermutation (x ∷ heap) more →
    IsPermutation (heap ++ (rest ++ x ∷ [])) (more ++ rest)
last_taken_in heap rest more x p = IsPermutation-trans _ _ _ (IsPermutation-sym _ _ (put_last heap rest x))
    (IsPermutation-append_left rest (x ∷ heap) more p)

pub none_of_none : {X : Type 0} (xs ys : List X) → IsPermutation xs ys → length ys ≡ 0 → xs ≡ []
none_of_none [] ys p none = refl
none_of_none (x ∷ xs) ys p none = let same = length_permutation (x ∷ xs) ys p in absurd (omega arith)
