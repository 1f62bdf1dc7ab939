use Rattle.std.proofs.Common.{◌≡◌, ℕ, List, [], ◌∷◌, ◌++◌, map, ap, sym, ◌∙◌, subst}
use Rattle.std.specs.BinaryHeap.{heap_items}
use Rattle.std.specs.declared.cmp.Reverse.{Reverse}
use Rattle.std.specs.Prelude.{IsPermutation}
use Rattle.std.proofs.lemmas.List.Sorted.{IsPermutation-map}
use Rattle.shortest_paths.specs.Order.{pair_of}
use Rattle.shortest_paths.proofs.InOrder.{put_last}
use Rattle.shortest_paths.proofs.queue.Queue.put.Goals as goal

pub returns : goal.returns
returns c =
    let entry : Reverse ℕ × ℕ = (record { 0 = c.args.distance }, c.args.node) in
    let heap : List (Reverse ℕ × ℕ) = heap_items c.self.inside.heap in
    let fresh : List (Reverse ℕ × ℕ) = c.self.inside.fresh.items in
    let more : heap_items c.reserve.new.self ++ c.push.new.self.items ≡ heap ++ (fresh ++ entry ∷ []) =
    ap (λ (xs : List (Reverse ℕ × ℕ)). xs ++ c.push.new.self.items) c.reserve.ensures.items
    ∙ ap (λ (xs : List (Reverse ℕ × ℕ)). heap ++ xs) c.in_ok-push.ensures.items in
    rw (← c.self.view_is) (subst
    (λ (xs : List (Reverse ℕ × ℕ)).
    IsPermutation (pair_of entry ∷ map pair_of (heap ++ fresh)) (map pair_of xs))
    (sym more) (IsPermutation-map pair_of _ _ (put_last heap fresh entry)))
