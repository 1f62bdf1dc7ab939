use Rattle.std.proofs.Common.{◌≡◌, ℕ, [], length}
use Rattle.tree_planner.specs.Hanging.{row_at}
use Rattle.tree_planner.proofs.children.rows.Given as goal

abbrev pub invariant-loop-k : goal.invariant-loop-k
invariant-loop-k l = record {
  size : length l.rows.items ≡ l._k;
  none : (k : ℕ) → row_at l.rows.items k ≡ [];
}
