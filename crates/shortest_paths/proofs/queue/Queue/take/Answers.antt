use Rattle.std.proofs.Common.{◌≡◌, ℕ, ◌≤◌, List, [], ◌∷◌, ◌++◌, map, ap, sym, ◌∙◌, subst, append-nil, arith}
use Rattle.std.specs.Prelude.{IsPermutation}
use Rattle.std.specs.BinaryHeap.{heap_items}
use Rattle.std.specs.declared.cmp.Reverse.{Reverse}
use Rattle.std.proofs.lemmas.List.Sorted.{IsPermutation-map, IsPermutation-sym, IsPermutation-trans, All-permutation}
use Rattle.shortest_paths.specs.Order.{pair_of}
use Rattle.shortest_paths.proofs.InOrder.{nearest_of, none_of_none}
use Rattle.shortest_paths.proofs.queue.Queue.take.Goals as goal

pub returns-clause-taken : goal.returns-clause-taken
returns-clause-taken c =
    let left : List (Reverse ℕ × ℕ) = heap_items c.pop.new.self in
    let first : ℕ × ℕ = (c.in_ok-distance.field-0-0.0, c.in_ok-distance.node) in
    let none : left ++ c.take_in.new.fresh.items ≡ left =
    ap (λ (xs : List (Reverse ℕ × ℕ)). left ++ xs) c.take_in.ensures.empty ∙ append-nil left in
    let taken = IsPermutation-trans _ _ _ c.take_in.ensures.all c.in_ok-distance.ensures.permutation in
    rw (← c.self.view_is) (subst (λ (xs : List (Reverse ℕ × ℕ)). IsPermutation
    (map pair_of (heap_items c.self.inside.heap ++ c.self.inside.fresh.items))
    (first ∷ map pair_of xs)) (sym none)
    (IsPermutation-map pair_of _ _ taken))

pub returns-clause-nearest : goal.returns-clause-nearest
returns-clause-nearest c =
    rw (← c.self.view_is) (All-permutation (λ (q : ℕ × ℕ). c.in_ok-distance.field-0-0.0 ≤ q.0) _ _
    (IsPermutation-map pair_of _ _ (IsPermutation-sym _ _ c.take_in.ensures.all))
    (nearest_of _ _
    (c.in_ok-distance.ensures.heap_order (c.take_in.ensures.heap_order c.self.invariant.0)).1))

pub returns-in_err-distance-clause-empty : goal.returns-in_err-distance-clause-empty
returns-in_err-distance-clause-empty c =
    let short = c.in_err-distance.ensures.none in
    let size = c.take_in.new.heap.data.ok in
    let none : heap_items c.self.inside.heap ++ c.self.inside.fresh.items ≡ [] =
    none_of_none _ _ c.take_in.ensures.all (omega arith) in
    rw c.from_residual.ensures
    (sym c.self.view_is ∙ ap (λ (xs : List (Reverse ℕ × ℕ)). map pair_of xs) none)
