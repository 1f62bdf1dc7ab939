use Rattle.std.proofs.Common.{◌≡◌, ℕ, ◌<◌, length, get_or}
use Rattle.tree_flow.proofs.node_table.refill.Given as goal

abbrev pub invariant-loop-k : goal.invariant-loop-k
invariant-loop-k g l = record {
  size : length l.values.items ≡ length l.initial.values.items;
  each : (j : ℕ) → j < l.k → get_or l.values.items j l.value ≡ l.value;
}
