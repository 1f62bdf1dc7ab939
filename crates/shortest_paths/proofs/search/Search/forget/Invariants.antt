use Rattle.std.proofs.Common.{◌≡◌, ℕ, ◌+◌, ◌-◌, [], length, slice_index}
use Rattle.shortest_paths.specs.Searching.{distance_at, IsLeft}
use Rattle.shortest_paths.specs.Search.{tables}
use Rattle.shortest_paths.proofs.search.Search.forget.Given as goal

abbrev pub invariant-nodes : goal.invariant-nodes
invariant-nodes l = record {
  left : IsLeft (length l.fn.potentials) (tables l.self);
  stack : l.self.stack.items ≡ [];
  queue : l.self.queue ≡ [];
  size : length l.potentials ≡ length l.fn.potentials;
  lacks : (v : ℕ) → slice_index l.potentials v + (l.total - distance_at l.self.distances.items v)
      ≡ slice_index l.fn.potentials v + (l.total - distance_at l.fn.self.distances.items v);
}

abbrev pub decreases-nodes : goal.decreases-nodes
decreases-nodes l = length l.self.reached.items
