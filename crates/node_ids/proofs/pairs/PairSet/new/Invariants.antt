use Rattle.std.proofs.Common.{◌≡◌, [], map, replicate}
use Rattle.std.specs.Prelude.{All}
use Rattle.std.specs.Vec.{vec_capacity, vec_len}
use Rattle.std.specs.List.Sorted.{IsNonDecreasing}
use Rattle.node_ids.proofs.pairs.PairSet.new.Given as goal

abbrev pub invariant-loop-s : goal.invariant-loop-s
invariant-loop-s l = record {
  rows : map (λ row. row.items) l.rows.items ≡ replicate l._s [];
  rising : All (λ row. IsNonDecreasing row.items) l.rows.items;
  size : vec_len l.rows ≡ l._s;
  room : vec_capacity l.rows ≡ l.splits;
}
