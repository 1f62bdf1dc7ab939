use Rattle.std.proofs.Common.{ℕ, List, ◌++◌, arith, subst}
use Rattle.std.specs.Prelude.{IsPermutation}
use Rattle.std.specs.BinaryHeap.{heap_items}
use Rattle.std.specs.declared.cmp.Reverse.{Reverse}
use Rattle.std.proofs.lemmas.List.Sorted.{IsPermutation-trans}
use Rattle.shortest_paths.proofs.InOrder.{last_taken_in}
use Rattle.shortest_paths.proofs.queue.take_in.Goals as goal

pub fresh-preserved : goal.fresh-preserved
fresh-preserved c =
    let heap : List (Reverse ℕ × ℕ) = heap_items c.fresh.heap in
    let rest : List (Reverse ℕ × ℕ) = c.pop.new.self.items in
    let before = subst (λ (xs : List (Reverse ℕ × ℕ)).
    IsPermutation (heap_items c.args.heap.now ++ c.args.fresh.now.items) (heap ++ xs))
    c.in-Some.ensures.items c.fresh.invariant.same in
    let same = IsPermutation-trans _ _ _ before
    (last_taken_in heap rest (heap_items c.push.new.self) c.in-Some.entry c.in-Ok.ensures.permutation) in
    let fewer = c.in-Some.ensures.len in
    let more = c.in-Ok.ensures.len in
    let room = c.fresh.invariant.room in
    let wide = c.in-Ok.ensures.capacity in
    record {
      same = same;
      heap_order = λ o. c.in-Ok.ensures.heap_order (c.fresh.invariant.heap_order o);
      room = omega arith;
    }
