use Rattle.std.proofs.Common.{◌≡◌, replicate}
use Rattle.std.specs.Vec.{vec_capacity, vec_len}
use Rattle.tree_flow.proofs.node_table.filled.Given as goal

abbrev pub invariant-loop-k : goal.invariant-loop-k
invariant-loop-k g l = record {
  values : l.values.items ≡ replicate l._k l.value;
  size : vec_len l.values ≡ l._k;
  room : vec_capacity l.values ≡ l.count;
}
