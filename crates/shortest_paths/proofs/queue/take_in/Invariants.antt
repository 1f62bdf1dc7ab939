use Rattle.std.proofs.Common.{◌+◌, ◌≤◌, ◌++◌}
use Rattle.std.specs.Prelude.{IsPermutation, vec_len}
use Rattle.std.specs.BinaryHeap.{KeepsHeap, heap_items, heap_len, heap_capacity}
use Rattle.shortest_paths.specs.Order.{nearer}
use Rattle.shortest_paths.proofs.queue.take_in.Given as goal

abbrev pub invariant-fresh : goal.invariant-fresh
invariant-fresh l = record {
  same : IsPermutation (heap_items l.fn.heap ++ l.fn.fresh.items) (heap_items l.heap ++ l.fresh.items);
  heap_order : KeepsHeap nearer (heap_items l.fn.heap) (heap_items l.heap);
  room : heap_len l.heap + vec_len l.fresh ≤ heap_capacity l.heap;
}

abbrev pub decreases-fresh : goal.decreases-fresh
decreases-fresh l = vec_len l.fresh
